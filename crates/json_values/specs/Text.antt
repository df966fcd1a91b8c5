-- The JSON value of a shape and its words.
use Rattle.std.specs.Prelude.{ℕ, zero, suc, ◌&&◌, List, [], ◌∷◌, Bool, true, not, map}
use Rattle.std.specs.List.{flat_map, list_all}
use Rattle.hy_bits.specs.declared.scalar.Scalar.{Scalar}
use Rattle.hy_bits.specs.declared.shape.Shape.{Shape}
use Rattle.hy_bits.specs.declared.shape.Field as F
use Rattle.hy_bits.specs.declared.shape.Shape.TheOpen.{Shape-F, Field-F}
use Rattle.hy_bits.specs.declared.shape.Shape.TheFolds.{fold-Shape}
use Rattle.hy_bits.specs.Scalar.{scalar_width}
use Rattle.hy_bits.specs.Shape.{leaves}
use Rattle.hy_bits.specs.Words.{IsWord}
use Rattle.serde_json.specs.Data.{Data, null, number, array, object, Members, no_members, put}
use Rattle.serde_json.specs.Find.{of_integer}
use Rattle.serde_json.specs.View.{items_of}
use Rattle.json_values.specs.Walk.{is_among}
use Rattle.json_values.specs.Meaning.{number_of}

-- what is made of the first words, and the words after them
abbrev pub Making : Type 0 → Type 0
Making A = List ℕ → A × List ℕ

-- the number that the word is read as; where no word is left, nothing
abbrev pub scalar_value : Scalar → Making Data
scalar_value scalar [] = (null, [])
scalar_value scalar (word ∷ words) = (number (of_integer (number_of scalar word)), words)

-- one more before those that are made of the other words
abbrev pub item_before : Data → List Data × List ℕ → List Data × List ℕ
item_before value made = (value ∷ made.0, made.1)

-- this many elements, one after another
abbrev pub items_value : ℕ → Making Data → Making (List Data)
items_value zero element words = ([], words)
items_value (suc count) element words = item_before (element words).0 (items_value count element (element words).1)

-- a field's name, and the making of its value
abbrev pub Member : Type 0
Member = List ℕ × Making Data

-- the fields' members, put one after another to those there
abbrev pub fields_value : List Member → Members → Making Members
fields_value [] members words = (members, words)
fields_value (field ∷ fields) members words = fields_value fields (put field.0 (field.1 words).0 members) (field.1 words).1

abbrev pub an_array : List Data × List ℕ → Data × List ℕ
an_array made = (array (items_of made.0), made.1)

abbrev pub an_object : Members × List ℕ → Data × List ℕ
an_object made = (object made.0, made.1)

abbrev pub value_step : Shape-F (Making Data) Member → Making Data
value_step (Shape-F.Scalar scalar) words = scalar_value scalar words
value_step (Shape-F.Array count element) words = an_array (items_value count element words)
value_step (Shape-F.Struct fields) words = an_object (fields_value fields no_members words)

abbrev pub member_step : Field-F (Making Data) Member → Member
member_step field = (field.name, field.shape)

-- the value that a shape makes of its words, and the words after them
abbrev pub value_made : Shape → Making Data
value_made = fold-Shape (Making Data) Member value_step member_step

-- the value of a shape and its words
abbrev pub text_value : Shape → List ℕ → Data
text_value shape words = (value_made shape words).0

-- a field, as its member is made
abbrev pub making : F.Field → Member
making field = ((F.out-Field field).name, value_made (F.out-Field field).shape)

-- ---- conditions

-- the first words are one for each scalar, in its width
abbrev pub BeginsWith : List Scalar → List ℕ → Type 0
BeginsWith [] words = Unit {0}
BeginsWith (scalar ∷ scalars) [] = ⊥
BeginsWith (scalar ∷ scalars) (word ∷ words) = IsWord (scalar_width scalar) word × BeginsWith scalars words

-- no name comes twice
abbrev pub are_distinct : List (List ℕ) → Bool
are_distinct [] = true
are_distinct (name ∷ names) = not (is_among name names) && are_distinct names

abbrev pub distinct_names_step : Shape-F Bool (List ℕ × Bool) → Bool
distinct_names_step (Shape-F.Scalar scalar) = true
distinct_names_step (Shape-F.Array count element) = element
distinct_names_step (Shape-F.Struct fields) = are_distinct (map (λ field. field.0) fields) && list_all (λ field. field.1) fields

abbrev pub distinct_name_step : Field-F Bool (List ℕ × Bool) → List ℕ × Bool
distinct_name_step field = (field.name, field.shape)

-- the fields of a struct have names of their own, in a struct at any depth
abbrev pub has_distinct_names : Shape → Bool
has_distinct_names = fold-Shape Bool (List ℕ × Bool) distinct_names_step distinct_name_step

-- ---- the fields of one struct

-- the scalars of the fields, in order
abbrev pub field_leaves : List F.Field → List Scalar
field_leaves = flat_map (λ field. leaves (F.out-Field field).shape)
