use Rattle.std.proofs.Common.{◌≡◌, ◌∙◌, ap, sym, drop, map, Some}
use Rattle.std.specs.Prelude.{slice_get}
use Rattle.std.specs.Option.{option_copied}
use Rattle.std.proofs.lemmas.Result.{IfOk-weaker}
use Rattle.std.specs.String.{string_bytes}
use Rattle.hy_words.specs.Parser.{found_in}
use Rattle.hy_words.specs.Commands.{command_named}
use Rattle.hy_words.proofs.RequestLaws.{after_program, asked-given, request-named}
use Rattle.hy_words.proofs.words.request.Goals as goal

pub returns-clause-request : goal.returns-clause-request
returns-clause-request c =
    let first : slice_get (after_program c.args.words.now) 0 ≡ Some c.in-Some.name.now = sym c.first.ensures.value ∙ ap option_copied c.in-Some.is in
    let named = request-named c.args.words.now c.in-Some.name.now c.in-Some-named.command first (c.in-Some-named.ensures ∙ ap command_named c.as_str.ensures.value) in
    let given = c.in_ok-matches.ensures.ok in
    let asked = asked-given c.in-Some-named.command (map string_bytes (drop 1 (after_program c.args.words.now))) (found_in c.in_ok-matches.matches) given.0 given.1 given.2 in
    IfOk-weaker c.request_from.result _ _ (λ request h. named ∙ asked ∙ h) c.request_from.ensures.ok

pub returns-clause-no_request : goal.returns-clause-no_request
returns-clause-no_request c is =
    let first : slice_get (after_program c.args.words.now) 0 ≡ Some c.in-Some.name.now = sym c.first.ensures.value ∙ ap option_copied c.in-Some.is in
    let named = request-named c.args.words.now c.in-Some.name.now c.in-Some-named.command first (c.in-Some-named.ensures ∙ ap command_named c.as_str.ensures.value) in
    let given = c.in_ok-matches.ensures.ok in
    let asked = asked-given c.in-Some-named.command (map string_bytes (drop 1 (after_program c.args.words.now))) (found_in c.in_ok-matches.matches) given.0 given.1 given.2 in
    named ∙ asked ∙ c.request_from.ensures.none is
