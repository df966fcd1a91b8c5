-- A whole parse of a command whose arguments take one value each, against the rules on words.
use Rattle.std.proofs.Common.{◌≡◌, ◌∙◌, ◌+◌, ◌&&◌, ◌||◌, ℕ, Bool, true, false, not, cond, refl, ap, List, [], ◌∷◌, map, Option, Some, None, is_some, if◌then◌else◌}
use Rattle.std.specs.Prelude.{fold, min, option_and_then, option_map}
use Rattle.std.specs.List.{list_any}
use Rattle.hy_words.specs.Parser.{app_for}
use Rattle.hy_words.specs.Words.{Syntax, Values, are_new, given, items_after, named, without_repeats}
use Rattle.hy_words.proofs.ClapRules.{Places, filled_from-arguments, option_built, plain_rule, rules_from}
use Rattle.hy_words.proofs.ClapWalk.{AreText, accepted, guard, nothing, rows, run-is, shape, walks}
use Rattle.clap.specs.Lexer.{usize_max}
use Rattle.clap.specs.Kinds.{Kinds, check_kinds, or_else}
use Rattle.clap.specs.Walk.{Row, Rule, Text, finished, has_row, nothing_held, settled, walk, walk_from, with_default}
use Rattle.clap.specs.Simple.{App, Shape, entered, matches_of}
use Rattle.clap.specs.Takes.{is_given}
use Rattle.clap.specs.Faults.{level_fault}
use Rattle.clap.specs.Faults.{check_fault, default_fault, defaults_fault, given_default_fault, entered_fault, fault_of, settle_fault, walk_fault}

or_else-nil : (f : Kinds) → or_else f [] ≡ f
or_else-nil [] = refl
or_else-nil (k ∷ ks) = refl

-- ---- nothing is left to do after the walk

or-true : (b : Bool) → (b || true) ≡ true
or-true true = refl
or-true false = refl

no_default : (rs : List Row) (name : Text) (long : Option Text) (index : Option ℕ) → with_default rs (plain_rule name long index) ≡ rs
no_default rs name long index = go _
  where
    go : (b : Bool) → cond b rs rs ≡ rs
    go true = refl
    go false = refl

defaults-none : (i : ℕ) (names options : List Text) (rs : List Row) → fold with_default rs (rules_from i names options) ≡ rs
defaults-none i (n ∷ names) options rs =
    ap (λ (x : List Row). fold with_default x (rules_from (min (i + 1) usize_max) names options)) (no_default rs n None (Some i))
    ∙ defaults-none (min (i + 1) usize_max) names options rs
defaults-none i [] [] rs = refl
defaults-none i [] (o ∷ options) rs =
    ap (λ (x : List Row). fold with_default x (map option_built options)) (no_default rs o (Some o) None) ∙ defaults-none i [] options rs

default_fault-none : (rs : List Row) (name : Text) (long : Option Text) (index : Option ℕ) → default_fault rs (plain_rule name long index) ≡ []
default_fault-none rs name long index = ap (λ (b : Bool). if b then [] else given_default_fault (plain_rule name long index) []) (or-true (has_row name rs))

defaults_fault-none : (i : ℕ) (names options : List Text) (rs : List Row) → defaults_fault rs (rules_from i names options) ≡ []
unfolding defaults_fault
defaults_fault-none i (n ∷ names) options rs =
    let later = rules_from (min (i + 1) usize_max) names options in
    ap (λ (f : Kinds). or_else f (defaults_fault (with_default rs (plain_rule n None (Some i))) later)) (default_fault-none rs n None (Some i))
    ∙ ap (λ (x : List Row). defaults_fault x later) (no_default rs n None (Some i)) ∙ defaults_fault-none (min (i + 1) usize_max) names options rs
defaults_fault-none i [] [] rs = refl
defaults_fault-none i [] (o ∷ options) rs =
    let later = map option_built options in
    ap (λ (f : Kinds). or_else f (defaults_fault (with_default rs (option_built o)) later)) (default_fault-none rs o (Some o) None)
    ∙ ap (λ (x : List Row). defaults_fault x later) (no_default rs o (Some o) None) ∙ defaults_fault-none i [] options rs

required-none : (i : ℕ) (names options : List Text) (rs : List Row)
    → list_any (λ a. a.required && not (is_given a.id rs)) (rules_from i names options) ≡ false
required-none i (n ∷ names) options rs = required-none (min (i + 1) usize_max) names options rs
required-none i [] [] rs = refl
required-none i [] (o ∷ options) rs = required-none i [] options rs

-- a command without subcommands enters none
not_entered : (a : Shape) (stop : Option (Text × List Text)) → is_some (entered (record { top = a; subs = [] }) stop) ≡ false
not_entered a None = refl
not_entered a (Some p) = refl

no_fault_entered : (a : Shape) (stop : Option (Text × List Text)) → entered_fault (record { top = a; subs = [] }) stop ≡ []
no_fault_entered a None = refl
no_fault_entered a (Some p) = refl

with_new-nil : (values : Option Values) → accepted [] values ≡ option_map rows (option_and_then without_repeats values)
with_new-nil None = refl
with_new-nil (Some values) = go (are_new [] values)
  where
    go : (b : Bool) → cond b (Some (rows values)) None ≡ option_map rows (cond b (Some values) None)
    go true = refl
    go false = refl

-- after the walk only the last value is settled
level-rest : (name : Text) (names options : List Text) (words : List Text) (has_subcommand : Bool) (below : Kinds) → has_subcommand ≡ false → below ≡ []
    → level_fault (shape name (rules_from 1 names options)) [] nothing_held words has_subcommand below
    ≡ or_else (walk_fault (shape name (rules_from 1 names options)) [] (walk_from nothing_held) words)
    (settle_fault (rules_from 1 names options) false (walk (rules_from 1 names options) [] nothing_held words).held)
level-rest name names options words has_subcommand below has_none below_none =
    let rules = rules_from 1 names options in
    let s = shape name rules in
    let end = (walk rules [] nothing_held words).held in
    let walking = walk_fault s [] (walk_from nothing_held) words in
    let settling = settle_fault rules false end in
    let defaults = defaults_fault (settled rules end).rows rules in
    let checks : check_fault s (finished rules end) false ≡ [] =
    ap (λ (b : Bool). check_kinds false false b) (required-none 1 names options (finished rules end)) in
    ap (λ (b : Bool). level_fault s [] nothing_held words b below) has_none
    ∙ ap (λ (f : Kinds). level_fault s [] nothing_held words false f) below_none
    ∙ ap (λ (f : Kinds). or_else walking (or_else settling (or_else f (check_fault s (finished rules end) false)))) (defaults_fault-none 1 names options (settled rules end).rows)
    ∙ ap (λ (f : Kinds). or_else walking (or_else settling f)) checks
    ∙ ap (λ (f : Kinds). or_else walking f) (or_else-nil settling)

abbrev level_of : Text → List Text → List Rule → Kinds
level_of name words rules =
    let top : App = record { top = shape name rules; subs = [] } in
    let stop = (walk rules [] nothing_held words).stopped in
    level_fault (shape name rules) [] nothing_held words (is_some (entered top stop)) (entered_fault top stop)

fault-is : (name first : Text) (names options : List Text) (words : List Text)
    → fault_of (app_for name (record { positionals = names; options = options })) (first ∷ words)
    ≡ or_else (walk_fault (shape name (rules_from 1 names options)) [] (walk_from nothing_held) words)
    (settle_fault (rules_from 1 names options) false (walk (rules_from 1 names options) [] nothing_held words).held)
fault-is name first names options words =
    let rules = rules_from 1 names options in
    let stop = (walk rules [] nothing_held words).stopped in
    ap (level_of name words) (filled_from-arguments 1 names options)
    ∙ level-rest name names options words _ _ (not_entered (shape name rules) stop) (no_fault_entered (shape name rules) stop)

rows-are : (name first : Text) (names options : List Text) (words : List Text)
    → matches_of (app_for name (record { positionals = names; options = options })) (first ∷ words)
    ≡ (settled (rules_from 1 names options) (walk (rules_from 1 names options) [] nothing_held words).held).rows
rows-are name first names options words =
    let rules = rules_from 1 names options in
    ap (λ (r : List Rule). finished r (walk r [] nothing_held words).held) (filled_from-arguments 1 names options)
    ∙ defaults-none 1 names options (settled rules (walk rules [] nothing_held words).held).rows

-- a parse has no fault exactly where the rules give values, and then its rows are these
pub parse-is : (name first : Text) (syntax : Syntax) (words : List Text) → AreText words
    → Places (rules_from 1 syntax.positionals syntax.options) 1 syntax.positionals
    → guard (fault_of (app_for name syntax) (first ∷ words)) (Some (matches_of (app_for name syntax) (first ∷ words)))
    ≡ option_map rows (given syntax words)
parse-is name first syntax words text places =
    let names = syntax.positionals in
    let options = syntax.options in
    let rules = rules_from 1 names options in
    ap (λ (f : Kinds). guard f (Some (matches_of (app_for name (record { positionals = names; options = options })) (first ∷ words)))) (fault-is name first names options words)
    ∙ ap (λ (rs : List Row). guard (or_else (walk_fault (shape name rules) [] (walk_from nothing_held) words) (settle_fault rules false (walk rules [] nothing_held words).held)) (Some rs))
    (rows-are name first names options words)
    ∙ run-is name rules (walk_from nothing_held) words
    ∙ (walks name names options words text).apart nothing [] 1 names tt places
    ∙ with_new-nil (option_and_then (named options names) (items_after None words))
