use Rattle.std.proofs.Common.{◌≡◌, ℕ, Bool, Option, None, Some, true, false, not, is_some, refl, sym, ap, ◌∙◌}
use Rattle.std.proofs.lemmas.List.{take_rest}
use Rattle.c_scan.specs.Lengths.{string_length}
use Rattle.c_scan.proofs.Endless.{endless_line}
use Rattle.c_scan.proofs.scanner.endless_length.Goals as goal

none_of : (found : Option ℕ) (none : Bool) → is_some found ≡ not none → none ≡ true → found ≡ None
none_of None none is holds = refl
none_of (Some count) true is holds = absurd (cc)
none_of (Some count) false is holds = absurd (cc)

pub returns-in-len1-up-clause-endless : goal.returns-in-len1-up-clause-endless
returns-in-len1-up-clause-endless c =
    let none : c.string_length.result ≡ None = none_of _ _ c.is_none.ensures c.if-is_none.true in
    let following = c.string_length.ensures.value ∙ ap (string_length false) (take_rest c.args.text.now 1) in
    rw c.line_length.ensures.value (endless_line c.args.text.now (sym following ∙ none))
