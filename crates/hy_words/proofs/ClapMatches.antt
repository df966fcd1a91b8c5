-- What a parse of each command answers, by the rules on words.
use Rattle.std.proofs.Common.{◌<◌, arith, length, drop, inl, inr, ◌≡◌, ◌∙◌, Bool, cond, true, false, refl, ap, subst, List, [], ◌∷◌, map, Option, Some, None}
use Rattle.std.specs.Prelude.{String, option_map, option_and_then, slice_get, find}
use Rattle.std.specs.Str.{bytes_eq}
use Rattle.std.specs.Global.{Global}
use Rattle.std.specs.String.{string_bytes}
use Rattle.std.proofs.lemmas.Str.{IsUtf8-string_bytes}
use Rattle.clap.specs.Words.{App, Row, first_of, fault_of, found_of, is_simple, is_simple_and_free, kind_of, matches_of, rows_of, HasKind, HasMatchesOf, IsAmong}
use Rattle.clap.specs.declared.parser.matches.ArgMatches.{ArgMatches}
use Rattle.clap.specs.declared.error.Error.{Error}
use Rattle.clap.specs.declared.error.kind.ErrorKind.{ErrorKind}
use Rattle.clap.specs.declared.error.kind.ErrorKind.TheVariants as kind
use Rattle.clap.proofs.WalkLemmas.{first_value-rows}
use Rattle.clap.specs.Kinds.{Kinds}
use Rattle.hy_words.specs.Words.{Text, Values, given, value_of}
use Rattle.hy_words.specs.Commands.{syntax_of}
use Rattle.hy_words.specs.Parser.{app_for, found_in}
use Rattle.hy_words.specs.declared.command.Command.{Command}
use Rattle.hy_words.specs.declared.command.Command.TheVariants as command
use Rattle.hy_words.proofs.ClapRules.{Places, rules_from}
use Rattle.hy_words.proofs.ClapWalk.{AreText, guard, row, rows}
use Rattle.hy_words.proofs.ClapParse.{parse-is}

abbrev PlacesOf : Command → Type 0
PlacesOf c = Places (rules_from 1 (syntax_of c).positionals (syntax_of c).options) 1 (syntax_of c).positionals

places : (c : Command) → PlacesOf c
places command.Exec = (refl, refl, (refl, refl, (refl, refl, (refl, refl, (refl, refl, refl)))))
places command.Compile = (refl, refl, (refl, refl, (refl, refl, refl)))
places command.Run = (refl, refl, (refl, refl, (refl, refl, refl)))
places command.Check = (refl, refl, refl)
places command.Plain = (refl, refl, (refl, refl, (refl, refl, refl)))
places command.Gen = (refl, refl, (refl, refl, (refl, refl, (refl, refl, (refl, refl, (refl, refl, refl))))))
places command.Migrate = (refl, refl, (refl, refl, refl))
places command.Import = (refl, refl, (refl, refl, (refl, refl, refl)))
places command.Export = (refl, refl, (refl, refl, (refl, refl, refl)))
places command.Begin = (refl, refl, (refl, refl, (refl, refl, (refl, refl, (refl, refl, refl)))))
places command.Turn = (refl, refl, (refl, refl, (refl, refl, refl)))
places command.Log = (refl, refl, (refl, refl, (refl, refl, refl)))
places command.Confirm = (refl, refl, refl)

-- each command is one of which `clap` says the answer
pub simple : (name : Text) (c : Command) → is_simple (app_for name (syntax_of c)) ≡ true
simple name command.Exec = refl
simple name command.Compile = refl
simple name command.Run = refl
simple name command.Check = refl
simple name command.Plain = refl
simple name command.Gen = refl
simple name command.Migrate = refl
simple name command.Import = refl
simple name command.Export = refl
simple name command.Begin = refl
simple name command.Turn = refl
simple name command.Log = refl
simple name command.Confirm = refl

pub simple_and_free : (name : Text) (c : Command) → is_simple_and_free (app_for name (syntax_of c)) ≡ true
simple_and_free name command.Exec = refl
simple_and_free name command.Compile = refl
simple_and_free name command.Run = refl
simple_and_free name command.Check = refl
simple_and_free name command.Plain = refl
simple_and_free name command.Gen = refl
simple_and_free name command.Migrate = refl
simple_and_free name command.Import = refl
simple_and_free name command.Export = refl
simple_and_free name command.Begin = refl
simple_and_free name command.Turn = refl
simple_and_free name command.Log = refl
simple_and_free name command.Confirm = refl

are_text : (words : List (String Global)) → AreText (map string_bytes words)
are_text [] = tt
are_text (word ∷ rest) = (IsUtf8-string_bytes word, are_text rest)

-- ---- from a parse to values

-- what was found under a name is the value under it
first_of-rows : (name : Text) (values : Values) → first_of name (rows values) ≡ value_of values name
first_of-rows name [] = refl
first_of-rows name (v ∷ values) = go (bytes_eq v.0 name) (first_of-rows name values)
  where
    go : (b : Bool) → first_of name (rows values) ≡ value_of values name
        → option_and_then (λ (r : Row). slice_get r.values 0) (cond b (Some (row v)) (find (λ r. bytes_eq r.id name) (rows values)))
        ≡ option_map (λ u. u.1) (cond b (Some v) (find (λ u. bytes_eq u.0 name) values))
    go true rest = refl
    go false rest = rest

values_found : (found : Option Values) (faults : Kinds) (matches : List Row) → guard faults (Some matches) ≡ option_map rows found → faults ≡ []
    → (values : Values) × (found ≡ Some values) × (matches ≡ rows values)
values_found None faults matches is none = absurd (let bad : guard [] (Some matches) ≡ None = subst (λ (f : Kinds). guard f (Some matches) ≡ None) none is in cc)
values_found (Some values) faults matches is none =
    let same : Some matches ≡ Some (rows values) = subst (λ (f : Kinds). guard f (Some matches) ≡ Some (rows values)) none is in
    (values, refl, cc)

none_found : (found : Option Values) (faults : Kinds) (matches : List Row) (k : ErrorKind) → guard faults (Some matches) ≡ option_map rows found
    → IsAmong k faults → found ≡ None
none_found None faults matches k is among = refl
none_found (Some values) [] matches k is among = absurd among
none_found (Some values) (f ∷ faults) matches k is among = absurd (cc)

-- what `clap` answers for the words of a command: their values, and else a fault that is none of memory
pub parsed : (name : Text) (c : Command) (words : List (String Global)) (app : App) → 0 < length words → app ≡ app_for name (syntax_of c)
    → (m : ArgMatches) → HasMatchesOf app (map string_bytes words) m → fault_of app (map string_bytes words) ≡ []
    → (values : Values) × (given (syntax_of c) (map string_bytes (drop 1 words)) ≡ Some values) × ((n : Text) → found_in m n ≡ value_of values n)
parsed name c [] app some is m has none = absurd (omega arith)
parsed name c (word ∷ rest) app some is m has none =
    let made = app_for name (syntax_of c) in
    let texts = map string_bytes rest in
    let first = string_bytes word in
    let has_rows : rows_of (found_of m) ≡ matches_of made (first ∷ texts) = (subst (λ (a : App). HasMatchesOf a (first ∷ texts) m) is has (simple name c)).0 in
    let no_fault : fault_of made (first ∷ texts) ≡ [] = subst (λ (a : App). fault_of a (first ∷ texts) ≡ []) is none in
    let found = values_found (given (syntax_of c) texts) (fault_of made (first ∷ texts)) (matches_of made (first ∷ texts))
    (parse-is name first (syntax_of c) texts (are_text rest) (places c)) no_fault in
    (found.0, found.1, λ n. first_value-rows (found_of m) n ∙ ap (first_of n) (has_rows ∙ found.2) ∙ first_of-rows n found.0)

pub refused : (name : Text) (c : Command) (words : List (String Global)) (app : App) → 0 < length words → app ≡ app_for name (syntax_of c)
    → (e : Error) → HasKind (fault_of app (map string_bytes words)) e → (kind_of e ≡ kind.OutOfMemory → ⊥)
    → given (syntax_of c) (map string_bytes (drop 1 words)) ≡ None
refused name c [] app some is e has other = absurd (omega arith)
refused name c (word ∷ rest) app some is e has other =
    let made = app_for name (syntax_of c) in
    let texts = map string_bytes rest in
    let first = string_bytes word in
    elim (subst (λ (a : App). HasKind (fault_of a (first ∷ texts)) e) is has) [
      | inl memory ↦ absurd (other memory)
      | inr among ↦ none_found (given (syntax_of c) texts) (fault_of made (first ∷ texts)) (matches_of made (first ∷ texts)) (kind_of e)
          (parse-is name first (syntax_of c) texts (are_text rest) (places c)) among
    ]
