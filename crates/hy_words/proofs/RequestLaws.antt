-- From the parts of a list of words to its request.
use Rattle.std.proofs.Common.{◌≡◌, ◌∙◌, ◌-◌, sym, ap, arith, List, [], ◌∷◌, map, take, drop, length, Some}
use Rattle.std.specs.Prelude.{String, option_and_then, slice_get}
use Rattle.std.specs.Global.{Global}
use Rattle.std.specs.String.{string_bytes}
use Rattle.std.proofs.lemmas.List.{length-drop, take_all}
use Rattle.hy_words.specs.Words.{Text, Values, given, value_of}
use Rattle.hy_words.specs.Commands.{command_named, syntax_of}
use Rattle.hy_words.specs.Request.{Named, asked_after, asked_in, request_of}
use Rattle.hy_words.specs.declared.command.Command.{Command}

-- the words after the program's name, as the code takes them
abbrev pub after_program : List (String Global) → List (String Global)
after_program words = take (length words - 1) (drop 1 words)

after_program-is : (words : List (String Global)) → after_program words ≡ drop 1 words
after_program-is words = take_all (length words - 1) (drop 1 words) (omega (arith, length-drop 1 words))

by_name : (words : List (String Global)) (name : String Global) (c : Command) → slice_get (drop 1 words) 0 ≡ Some name
    → Some c ≡ command_named (string_bytes name) → request_of (map string_bytes words) ≡ asked_after c (map string_bytes (drop 1 (drop 1 words)))
by_name [] name c first named = absurd (cc)
by_name (program ∷ []) name c first named = absurd (cc)
by_name (program ∷ word ∷ rest) name c first named =
    let same : word ≡ name = cc in
    ap (λ (n : String Global). option_and_then (λ d. asked_after d (map string_bytes rest)) (command_named (string_bytes n))) same
    ∙ ap (option_and_then (λ d. asked_after d (map string_bytes rest))) (sym named)

-- the request of words whose command has the name `name`
pub request-named : (words : List (String Global)) (name : String Global) (c : Command) → slice_get (after_program words) 0 ≡ Some name
    → Some c ≡ command_named (string_bytes name)
    → request_of (map string_bytes words) ≡ asked_after c (map string_bytes (drop 1 (after_program words)))
request-named words name c first named =
    by_name words name c (sym (ap (λ (ws : List (String Global)). slice_get ws 0) (after_program-is words)) ∙ first) named
    ∙ ap (λ (ws : List (String Global)). asked_after c (map string_bytes (drop 1 ws))) (sym (after_program-is words))

-- the request of a command whose words give values
pub asked-given : (c : Command) (words : List Text) (v : Named) (values : Values) → given (syntax_of c) words ≡ Some values
    → ((name : Text) → v name ≡ value_of values name) → asked_after c words ≡ asked_in c v
asked-given c words v values is same =
    ap (option_and_then (λ vs. asked_in c (value_of vs))) is ∙ ap (asked_in c) (λ i name. sym (same name) i)
