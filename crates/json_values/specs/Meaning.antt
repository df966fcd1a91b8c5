-- What a user relies on: which values a shape has in JSON, and the words that they say, by rules.
use Rattle.std.specs.Prelude.{◌≡◌, ℕ, ◌++◌, List, [], ◌∷◌, Some, ℤ, pos, if◌then◌else◌, option_and_then, IsTrue, Ok, Err, ◌⊎◌}
use Rattle.hy_bits.specs.declared.scalar.Scalar.{Scalar}
use Rattle.hy_bits.specs.declared.turns.Role.{Role}
use Rattle.hy_bits.specs.declared.turns.Role.TheVariants.{P0, P1}
use Rattle.hy_bits.specs.declared.shape.Port.{Port}
use Rattle.hy_bits.specs.Ports.{ports_of}
use Rattle.hy_bits.specs.declared.shape.Shape.{Shape}
use Rattle.hy_bits.specs.declared.shape.Shape.TheVariants as V
use Rattle.hy_bits.specs.declared.shape.Field as F
use Rattle.hy_bits.specs.Scalar.{scalar_width, is_signed}
use Rattle.hy_bits.specs.Words.{IsWord, modulus, signed}
use Rattle.serde_json.specs.Data.{Data, Items, no_items, item, Members, no_members, member}
use Rattle.serde_json.specs.Find.{as_number, as_integer, as_array, as_object, get_member}
use Rattle.serde_json.specs.Events.{items_len}
use Rattle.json_values.specs.Walk.{is_among}
use Rattle.json_values.specs.File.{members_of_text, of_role, names_of_role, in_file, own_words}
use Rattle.json_values.specs.declared.fault.InputFault.{InputFault}

-- the number that a word of a scalar is read as
abbrev pub number_of : Scalar → ℕ → ℤ
number_of scalar word = if is_signed scalar then signed (modulus (scalar_width scalar)) word else pos word

-- a whole number that the scalar holds, and its one word
pub record IsNumber (scalar : Scalar) (value : Data) (words : List ℕ) : Type 0 where
  pub word : ℕ
  pub one : words ≡ word ∷ []
  pub fits : IsWord (scalar_width scalar) word
  pub whole : option_and_then as_integer (as_number value) ≡ Some (number_of scalar word)

-- the names of a struct's fields
abbrev pub field_names : List F.Field → List (List ℕ)
field_names [] = []
field_names (field ∷ fields) = (F.out-Field field).name ∷ field_names fields

-- no member has another name than these
abbrev pub HasOnly : List (List ℕ) → Members → Type 0
HasOnly names no_members = Unit {0}
HasOnly names (member name value rest) = IsTrue (is_among name names) × HasOnly names rest

mutual
  -- the value is one of the shape, and these are its words: leaf after leaf, elements from the first on, fields in order
  pub data Says : Shape → Data → List ℕ → Type 0 where
    -- a number
    a_number : (scalar : Scalar) (value : Data) (words : List ℕ) → IsNumber scalar value words → Says (V.Scalar scalar) value words
    -- an array of exactly this length
    an_array : (count : ℕ) (element : Shape) (value : Data) (items : Items) (words : List ℕ)
        → as_array value ≡ Some items → items_len items ≡ count → SayItems element items words → Says (V.Array count element) value words
    -- an object with a member for each field, and no other
    a_struct : (fields : List F.Field) (value : Data) (found : Members) (words : List ℕ)
        → as_object value ≡ Some found → SayFields fields found words → HasOnly (field_names fields) found → Says (V.Struct fields) value words

  -- item after item
  pub data SayItems : Shape → Items → List ℕ → Type 0 where
    all_items : (element : Shape) → SayItems element no_items []
    next_item : (element : Shape) (value : Data) (items : Items) (first rest : List ℕ)
        → Says element value first → SayItems element items rest → SayItems element (item value items) (first ++ rest)

  -- field after field, each in the member of its name
  pub data SayFields : List F.Field → Members → List ℕ → Type 0 where
    all_fields : (found : Members) → SayFields [] found []
    next_field : (field : F.Field) (fields : List F.Field) (found : Members) (value : Data) (first rest : List ℕ)
        → get_member (F.out-Field field).name found ≡ Some value → Says (F.out-Field field).shape value first → SayFields fields found rest → SayFields (field ∷ fields) found (first ++ rest)

-- ---- texts

-- the object has a member of the port's name, which says these words
abbrev pub HasPort : Port → Members → List ℕ → Type 0
HasPort port found words = (value : Data) × (get_member port.name found ≡ Some value) × Says port.shape value words

-- port after port, each in the object that is given for it
abbrev pub HasPorts : (Port → Members) → List Port → List ℕ → Type 0
HasPorts object [] words = words ≡ []
HasPorts object (port ∷ ports) words = (first : List ℕ) × (rest : List ℕ) × HasPort port (object port) first × HasPorts object ports rest × (words ≡ first ++ rest)

-- the text is one object with a member for each of the party's ports and no other
pub record IsText (role : Role) (ports : List Port) (text : List ℕ) (words : List ℕ) : Type 0 where
  pub found : Members
  pub object : members_of_text text ≡ Some found
  pub each : HasPorts (λ port. found) (ports_of role ports) words
  pub exactly : HasOnly (names_of_role role ports) found

-- each text is one object with a member for each of its party's ports and no other; the words are in the order of all ports
pub record AreTexts (ports : List Port) (a b : List ℕ) (words : List ℕ) : Type 0 where
  pub of_a : Members
  pub of_b : Members
  pub object_a : members_of_text a ≡ Some of_a
  pub object_b : members_of_text b ≡ Some of_b
  pub each : HasPorts (λ port. of_role port.role of_a of_b) ports words
  pub exactly_a : HasOnly (names_of_role P0 ports) of_a
  pub exactly_b : HasOnly (names_of_role P1 ports) of_b

-- the fault is the first of A's text, or A's text has none and it is the first of B's
abbrev pub IsFirstFault : List Port → List ℕ → List ℕ → InputFault → Type 0
IsFirstFault ports a b fault = (in_file P0 (own_words P0 ports a) ≡ Err fault) ⊎ (((words : List ℕ) × IsText P0 ports a words) × (in_file P1 (own_words P1 ports b) ≡ Err fault))

-- a text of one object, whose one member has the port's name and this value, is read as these words
abbrev pub IsReadInText : Shape → Data → List ℕ → Type 0
IsReadInText shape value words = (role : Role) (name text : List ℕ) → members_of_text text ≡ Some (member name value no_members) → own_words role (record { role = role; name = name; shape = shape } ∷ []) text ≡ Ok words
