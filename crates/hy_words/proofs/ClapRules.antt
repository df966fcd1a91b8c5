-- The arguments that `clap` builds of a command's names, and how it finds them.
use Rattle.std.proofs.Common.{◌≡◌, ◌+◌, ◌||◌, ℕ, Bool, true, false, cond, refl, ap, List, [], ◌∷◌, map, Option, Some, None}
use Rattle.std.specs.Prelude.{min}
use Rattle.std.specs.List.{list_any}
use Rattle.std.specs.Str.{bytes_eq}
use Rattle.std.proofs.lemmas.Slice.Eq.{bytes_eq-Decides}
use Rattle.clap.specs.Lexer.{usize_max}
use Rattle.clap.specs.Walk.{Rule, Text, arg_by_id, arg_by_index, arg_by_long, arg_by_short}
use Rattle.clap.specs.Simple.{filled_from}
use Rattle.hy_words.specs.Parser.{arguments, option_rule}
use Rattle.clap.specs.declared.builder.action.ArgAction.TheVariants.{Set}
use Rattle.clap.specs.declared.builder.value_parser.ValueParser.TheVariants as vp

-- an argument that takes one value, as it is built
abbrev pub plain_rule : Text → Option Text → Option ℕ → Rule
plain_rule name long index = record {
  id = name;
  long = long;
  aliases = [];
  short = None;
  short_aliases = [];
  index = index;
  action = Some Set;
  range = Some (record { start_inclusive = 1; end_inclusive = 1 });
  value_names = 0;
  defaults = [];
  missing = [];
  trailing_var_arg = false;
  parser = Some vp.String;
  ignore_case = false;
  required = false;
  is_simple = true;
  is_free = true;
}

abbrev pub option_built : Text → Rule
option_built name = plain_rule name (Some name) None

-- the arguments of a command, as they are built: the positional ones numbered from i on, and then the options
abbrev pub rules_from : ℕ → List Text → List Text → List Rule
rules_from i [] options = map option_built options
rules_from i (name ∷ names) options = plain_rule name None (Some i) ∷ rules_from (min (i + 1) usize_max) names options

filled_options : (i : ℕ) (options : List Text) → filled_from i (map option_rule options) ≡ map option_built options
filled_options i [] = refl
filled_options i (o ∷ options) = ap (λ rest. option_built o ∷ rest) (filled_options i options)

pub filled_from-arguments : (i : ℕ) (names options : List Text) → filled_from i (arguments names options) ≡ rules_from i names options
filled_from-arguments i [] options = filled_options i options
filled_from-arguments i (name ∷ names) options =
    ap (λ rest. plain_rule name None (Some i) ∷ rest) (filled_from-arguments (min (i + 1) usize_max) names options)

-- the argument of an id is one that takes one value
abbrev pub Knows : List Rule → Text → Type 0
Knows rules id = (long : Option Text) × (index : Option ℕ) × (arg_by_id rules id ≡ Some (plain_rule id long index))

-- the positional arguments from a place on are those of the names
abbrev pub Places : List Rule → ℕ → List Text → Type 0
Places rules i [] = arg_by_index rules i ≡ None
Places rules i (name ∷ names) =
    (arg_by_index rules i ≡ Some (plain_rule name None (Some i))) × (arg_by_id rules name ≡ Some (plain_rule name None (Some i)))
    × Places rules (min (i + 1) usize_max) names

abbrev pub is_option : List Text → Text → Bool
is_option options name = list_any (λ o. bytes_eq o name) options

same_text : (a b : Text) → bytes_eq a b ≡ true → a ≡ b
same_text a b e = (bytes_eq-Decides a b).0 e

-- the options are found by their long names, and the positional arguments are not
pub long_known : (i : ℕ) (names options : List Text) (name : Text) → is_option options name ≡ true
    → arg_by_long (rules_from i names options) name ≡ Some (option_built name)
long_known i (n ∷ names) options name known = long_known (min (i + 1) usize_max) names options name known
long_known i [] [] name known = cc
long_known i [] (o ∷ options) name known = go (bytes_eq o name) refl known (long_known i [] options name)
  where
    go : (b : Bool) → bytes_eq o name ≡ b → (b || is_option options name) ≡ true
        → (is_option options name ≡ true → arg_by_long (map option_built options) name ≡ Some (option_built name))
        → cond (b || false) (Some (option_built o)) (arg_by_long (map option_built options) name) ≡ Some (option_built name)
    go true e k rest = ap (λ (n : Text). Some (option_built n)) (same_text o name e)
    go false e k rest = rest k

pub long_unknown : (i : ℕ) (names options : List Text) (name : Text) → is_option options name ≡ false
    → arg_by_long (rules_from i names options) name ≡ None
long_unknown i (n ∷ names) options name known = long_unknown (min (i + 1) usize_max) names options name known
long_unknown i [] [] name known = refl
long_unknown i [] (o ∷ options) name known = go (bytes_eq o name) known (long_unknown i [] options name)
  where
    go : (b : Bool) → (b || is_option options name) ≡ false
        → (is_option options name ≡ false → arg_by_long (map option_built options) name ≡ None)
        → cond (b || false) (Some (option_built o)) (arg_by_long (map option_built options) name) ≡ None
    go true k rest = cc
    go false k rest = rest k

-- an option is found by its id
pub id_known : (i : ℕ) (names options : List Text) (name : Text) → is_option options name ≡ true → Knows (rules_from i names options) name
id_known i (n ∷ names) options name known = go (bytes_eq n name) refl (id_known (min (i + 1) usize_max) names options name known)
  where
    go : (b : Bool) → bytes_eq n name ≡ b → Knows (rules_from (min (i + 1) usize_max) names options) name
        → (long : Option Text) × (index : Option ℕ) × (cond b (Some (plain_rule n None (Some i))) (arg_by_id (rules_from (min (i + 1) usize_max) names options) name) ≡ Some (plain_rule name long index))
    go true e rest = (None, Some i, ap (λ (m : Text). Some (plain_rule m None (Some i))) (same_text n name e))
    go false e rest = rest
id_known i [] [] name known = cc
id_known i [] (o ∷ options) name known = go (bytes_eq o name) refl known (id_known i [] options name)
  where
    go : (b : Bool) → bytes_eq o name ≡ b → (b || is_option options name) ≡ true
        → (is_option options name ≡ true → Knows (map option_built options) name)
        → (long : Option Text) × (index : Option ℕ) × (cond b (Some (option_built o)) (arg_by_id (map option_built options) name) ≡ Some (plain_rule name long index))
    go true e k rest = (Some name, None, ap (λ (m : Text). Some (option_built m)) (same_text o name e))
    go false e k rest = rest k

-- no argument has a short name
pub short_unknown : (i : ℕ) (names options : List Text) (x : ℕ) → arg_by_short (rules_from i names options) x ≡ None
short_unknown i (n ∷ names) options x = go (short_unknown (min (i + 1) usize_max) names options x)
  where
    go : arg_by_short (rules_from (min (i + 1) usize_max) names options) x ≡ None → arg_by_short (rules_from i (n ∷ names) options) x ≡ None
    go rest = rest
short_unknown i [] [] x = refl
short_unknown i [] (o ∷ options) x = short_unknown i [] options x
