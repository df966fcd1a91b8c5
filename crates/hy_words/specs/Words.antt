-- The rules on the words after a command's name, for every command alike: which are positional, which are options with
-- their values, and which are refused.
use Rattle.std.specs.Prelude.{ℕ, ◌==◌, ◌&&◌, ◌++◌, Bool, true, not, List, [], ◌∷◌, map, find, Option, Some, None, option_map, option_and_then, if◌then◌else◌}
use Rattle.std.specs.List.{list_any, before_first, after_first}
use Rattle.std.specs.Str.{bytes_eq}

abbrev pub Text : Type 0
Text = List ℕ

-- what a word is that stands before any `--`
pub data Kind : Type 0 where
  -- it doesn't begin with `-`, or it is `-` alone
  positional : Kind
  -- it is `--` alone
  separator : Kind
  -- it is `--name`, or `--name=value`
  option : Text → Option Text → Kind
  -- it is `-` with a further byte that is no `-`
  short : Kind

-- `=` is 61, and `-` is 45
abbrev pub is_equals : ℕ → Bool
is_equals b = b == 61

-- what follows the first `=`, if there is one
abbrev pub attached : Text → Option Text
attached text = if list_any is_equals text then Some (after_first is_equals text) else None

-- the kind of a word, by what follows its first two hyphens, its first hyphen, and by all of it
abbrev pub kind_after_two : Text → Kind
kind_after_two [] = separator
kind_after_two (b ∷ rest) = option (before_first is_equals (b ∷ rest)) (attached (b ∷ rest))

abbrev pub kind_after_one : Text → Kind
kind_after_one [] = positional
kind_after_one (b ∷ rest) = if b == 45 then kind_after_two rest else short

abbrev pub kind_of : Text → Kind
kind_of [] = positional
kind_of (b ∷ rest) = if b == 45 then kind_after_one rest else positional

-- ---- words as items

-- a positional word, or an option's name with its value
pub data Item : Type 0 where
  placed : Text → Item
  valued : Text → Text → Item

abbrev pub Items : Type 0
Items = Option (List Item)

-- the item, and the items after it where these are
abbrev pub item_then : Item → Items → Items
item_then item rest = option_map (λ items. item ∷ items) rest

-- the value of an option that stands apart from it: a word that doesn't begin with `-`, or `-` alone
abbrev pub value_then : Kind → Text → Text → Items → Items
value_then positional name word rest = item_then (valued name word) rest
value_then _ name word rest = None

-- the items of a word with the words after it: `rest` as they stand, `next` their items, and `value` their items where
-- the first of them is the value of an option of that name
abbrev pub items_by : Kind → Text → List Text → Items → (Text → Items) → Items
items_by positional word rest next value = item_then (placed word) next
items_by separator word rest next value = Some (map placed rest)
items_by (option name (Some given)) word rest next value = item_then (valued name given) next
items_by (option name None) word rest next value = value name
items_by short word rest next value = None

-- the items of the words, the first of which is the value of the option before it where there is such an option; none
-- where a word is refused
abbrev pub items_after : Option Text → List Text → Items
items_after None [] = Some []
items_after None (word ∷ rest) = items_by (kind_of word) word rest (items_after None rest) (λ name. items_after (Some name) rest)
items_after (Some name) [] = None
items_after (Some name) (word ∷ rest) = value_then (kind_of word) name word (items_after None rest)

-- ---- items by their names

-- the names of a command's positional words, in order, and those of its options
pub record Syntax : Type 0 where
  pub positionals : List Text
  pub options : List Text

-- values, each under its name
abbrev pub Values : Type 0
Values = List (Text × Text)

abbrev pub value_and : Text → Text → Option Values → Option Values
value_and name value rest = option_map (λ values. (name, value) ∷ values) rest

-- each positional word under the next of the names, each option under its own; none where there are more words than
-- names, or the command has no such option
abbrev pub named : List Text → List Text → List Item → Option Values
named options names [] = Some []
named options [] (placed word ∷ rest) = None
named options (name ∷ names) (placed word ∷ rest) = value_and name word (named options names rest)
named options names (valued name value ∷ rest) =
    if list_any (λ o. bytes_eq o name) options then value_and name value (named options names rest) else None

abbrev pub has_name : Text → Values → Bool
has_name name values = list_any (λ v. bytes_eq v.0 name) values

-- no name of `values` is one of those before it or of `earlier`
abbrev pub are_new : Values → Values → Bool
are_new earlier [] = true
are_new earlier (v ∷ values) = not (has_name v.0 earlier) && are_new (earlier ++ v ∷ []) values

abbrev pub without_repeats : Values → Option Values
without_repeats values = if are_new [] values then Some values else None

-- the values that the words give, by their names
abbrev pub given : Syntax → List Text → Option Values
given syntax words =
    option_and_then without_repeats
    (option_and_then (named syntax.options syntax.positionals) (items_after None words))

-- the value under the name
abbrev pub value_of : Values → Text → Option Text
value_of values name = option_map (λ v. v.1) (find (λ v. bytes_eq v.0 name) values)
