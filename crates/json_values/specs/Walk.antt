-- The words that a JSON value gives to a shape, or the first fault, by a walk over the shape: elements from the first on,
-- fields in order, and what a struct has beyond its fields after them.
use Rattle.std.specs.Prelude.{◌≡◌, ℕ, suc, ◌==◌, ◌||◌, ◌++◌, List, [], ◌∷◌, Bool, false, Option, Some, None, Result, Ok, Err, if◌then◌else◌, codes, decimal, map, ⊤}
use Rattle.std.specs.Cmp.Lexicographic.{slice_cmp}
use Rattle.std.specs.Ordering.{is_lt, nat_cmp}
use Rattle.std.specs.Str.{bytes_eq}
use Rattle.hy_bits.specs.declared.scalar.Scalar.{Scalar}
use Rattle.hy_bits.specs.declared.shape.Shape.{Shape}
use Rattle.hy_bits.specs.declared.shape.Field as F
use Rattle.hy_bits.specs.declared.shape.Shape.TheOpen.{Shape-F, Field-F}
use Rattle.hy_bits.specs.declared.shape.Shape.TheFolds.{fold-Shape}
use Rattle.serde_json.specs.Data.{Num, Data, Items, no_items, item, Members, no_members, member}
use Rattle.serde_json.specs.Find.{as_number, as_array, as_object, get_member}
use Rattle.serde_json.specs.Events.{items_len}
use Rattle.json_values.specs.declared.fault.InputKind.{InputKind}
use Rattle.json_values.specs.declared.fault.InputKind.TheVariants.{Missing, Extra, Shape as Unlike}
use Rattle.json_values.specs.declared.fault.Fault.{Fault}
use Rattle.json_values.specs.declared.fault.Stop.{Stop}
use Rattle.json_values.specs.declared.fault.Stop.TheVariants as stop
use Rattle.json_values.specs.Leaf.{number_word}

-- the words, or the first fault, whose path begins where the walk began
abbrev pub Reading : Type 0
Reading = Result (List ℕ) Fault

-- a fault at this path
abbrev pub fault_at : InputKind → List ℕ → Reading
fault_at kind path = Err (record { kind = kind; path = path })

-- a reading that was made one step further in
abbrev pub under : List ℕ → Reading → Reading
under step (Ok words) = Ok words
under step (Err fault) = fault_at fault.kind (step ++ fault.path)

-- what these words and the reading give together
abbrev pub onto : List ℕ → Reading → Reading
onto words (Ok more) = Ok (words ++ more)
onto words (Err fault) = Err fault

-- one reading, and then the other
abbrev pub then_by : Reading → Reading → Reading
then_by (Ok words) rest = onto words rest
then_by (Err fault) rest = Err fault

-- ---- a scalar

abbrev pub one_word : Result ℕ InputKind → Reading
one_word (Ok word) = Ok (word ∷ [])
one_word (Err kind) = fault_at kind []

abbrev pub scalar_words : Scalar → Option Num → Reading
scalar_words scalar None = fault_at Unlike []
scalar_words scalar (Some number) = one_word (number_word scalar number)

-- ---- an array

-- `[i]`
abbrev pub place : ℕ → List ℕ
place i = codes "[" ++ (decimal i ++ codes "]")

-- the items from the one of this place on
abbrev pub items_words : (Data → Reading) → ℕ → Items → Reading
items_words element i no_items = Ok []
items_words element i (item value items) = then_by (under (place i) (element value)) (items_words element (suc i) items)

abbrev pub array_words : ℕ → (Data → Reading) → Option Items → Reading
array_words count element None = fault_at Unlike []
array_words count element (Some items) = if items_len items == count then items_words element 0 items else fault_at Unlike []

-- ---- a struct

-- a member that must be there
abbrev pub wanted : (Data → Reading) → Option Data → Reading
wanted reading None = fault_at Missing []
wanted reading (Some value) = reading value

-- a field's name, and how its value is read
abbrev pub Named : Type 0
Named = List ℕ × (Data → Reading)

-- `.name`
abbrev pub dotted : List ℕ → List ℕ
dotted name = codes "." ++ name

abbrev pub fields_words : List Named → Members → Reading
fields_words [] found = Ok []
fields_words (field ∷ fields) found = then_by (under (dotted field.0) (wanted field.1 (get_member field.0 found))) (fields_words fields found)

abbrev pub is_among : List ℕ → List (List ℕ) → Bool
is_among name [] = false
is_among name (other ∷ others) = bytes_eq other name || is_among name others

-- of two names the one that is less by bytes
abbrev pub lesser : List ℕ → List ℕ → List ℕ
lesser a b = if is_lt (slice_cmp nat_cmp b a) then b else a

abbrev pub least : List ℕ → Option (List ℕ) → List ℕ
least name None = name
least name (Some other) = lesser name other

-- of the members that have none of these names, the least name by bytes
abbrev pub extra : List (List ℕ) → Members → Option (List ℕ)
extra names no_members = None
extra names (member name value rest) = if is_among name names then extra names rest else Some (least name (extra names rest))

abbrev pub no_extra : Option (List ℕ) → Reading
no_extra None = Ok []
no_extra (Some name) = fault_at Extra name

abbrev pub names_of : List Named → List (List ℕ)
names_of = map (λ field. field.0)

abbrev pub struct_words : List Named → Option Members → Reading
struct_words fields None = fault_at Unlike []
struct_words fields (Some members) = then_by (fields_words fields members) (under (codes ".") (no_extra (extra (names_of fields) members)))

-- ---- any shape

abbrev pub shape_step : Shape-F (Data → Reading) Named → Data → Reading
shape_step (Shape-F.Scalar scalar) value = scalar_words scalar (as_number value)
shape_step (Shape-F.Array count element) value = array_words count element (as_array value)
shape_step (Shape-F.Struct fields) value = struct_words fields (as_object value)

abbrev pub field_step : Field-F (Data → Reading) Named → Named
field_step field = (field.name, field.shape)

-- the words that a value gives to a shape
abbrev pub words_at : Shape → Data → Reading
words_at = fold-Shape (Data → Reading) Named shape_step field_step

-- a field of a struct, as it is read
abbrev pub named : F.Field → Named
named field = ((F.out-Field field).name, words_at (F.out-Field field).shape)

-- ---- what a walk of the program leaves: these words, or this stop

abbrev pub IsStop : Stop → Reading → Type 0
IsStop (stop.Fault fault) reading = reading ≡ Err fault
IsStop stop.Memory reading = ⊤

abbrev pub Leaves : List ℕ → Result ⊤ Stop → Reading → Type 0
Leaves words (Ok done) reading = reading ≡ Ok words
Leaves words (Err why) reading = IsStop why reading
