-- What operations make of values, for all inputs that fit.
use Rattle.std.specs.Prelude.{◌≡◌, ℕ, List, []}
use Rattle.hy_bits.specs.declared.width.Width.{Width}
use Rattle.hy_bits.specs.Scalar.{scalar_width}
use Rattle.word_graph.specs.declared.entry.Entry.{Entry}
use Rattle.word_graph.specs.Meaning.{InputsFit}
use Rattle.word_graph.specs.Term.{width_at}
use Rattle.word_nodes.specs.Nodes.{Stands}
use Rattle.c_meaning.specs.declared.operators.Conversion.{Conversion}
use Rattle.c_meaning.specs.declared.operators.Conversion.TheVariants as conversion
use Rattle.c_meaning.specs.Expressions.{Value}
use Rattle.c_place.specs.Aims.{IsPointer}
use Rattle.exec_state.specs.Seen.{IsSeen}
use Rattle.exec_values.specs.declared.values.WordValue.{WordValue}
use Rattle.exec_values.specs.declared.values.WordValue.TheVariants as value
use Rattle.exec_values.specs.Views.{value_cells}

-- ---- which value it is

abbrev pub IsWordValue : WordValue → Type 0
IsWordValue (value.Word n) = Unit {0}
IsWordValue v = ⊥

abbrev pub IsPointerValue : WordValue → Type 0
IsPointerValue (value.Pointer p) = Unit {0}
IsPointerValue v = ⊥

-- a word of the width
abbrev pub HasWord : List Entry → Width → WordValue → Type 0
HasWord es w value.Nothing = ⊥
HasWord es w (value.Word n) = Stands es w n
HasWord es w (value.Struct ns) = ⊥
HasWord es w (value.Pointer p) = ⊥

abbrev pub HasPointer : List Entry → WordValue → Type 0
HasPointer es value.Nothing = ⊥
HasPointer es (value.Word n) = ⊥
HasPointer es (value.Struct ns) = ⊥
HasPointer es (value.Pointer p) = IsPointer es p

-- a pointer that is null
abbrev pub HasNull : List Entry → WordValue → Type 0
HasNull es value.Nothing = ⊥
HasNull es (value.Word n) = ⊥
HasNull es (value.Struct ns) = ⊥
HasNull es (value.Pointer p) = IsPointer es p × (p.list.items ≡ [])

-- what a conversion takes and gives
abbrev pub TakenBy : List Entry → Conversion → WordValue → Type 0
TakenBy es (conversion.Integer from to) v = HasWord es (scalar_width from) v
TakenBy es conversion.NullPointer v = Unit {0}

abbrev pub GivenBy : List Entry → Conversion → WordValue → Type 0
GivenBy es (conversion.Integer from to) v = HasWord es (scalar_width to) v
GivenBy es conversion.NullPointer v = HasNull es v

-- ---- what the words stand for

-- the new value stands for what f makes of each value that the old one stands for
abbrev pub MakesOf : (Value → Value) → (old new : List Entry) → WordValue → WordValue → Type 0
MakesOf f old new v r = (ins : List ℕ) → InputsFit old ins → (u : Value) → IsSeen (value_cells old ins v) u → IsSeen (value_cells new ins r) (f u)

-- the same of two values
abbrev pub MakesOfTwo : (Value → Value → Value) → (old new : List Entry) → WordValue → WordValue → WordValue → Type 0
MakesOfTwo f old new v w r =
    (ins : List ℕ) → InputsFit old ins → (u x : Value) → IsSeen (value_cells old ins v) u → IsSeen (value_cells old ins w) x → IsSeen (value_cells new ins r) (f u x)

-- integers of one width, or pointers
abbrev pub AreAlike : List Entry → WordValue → WordValue → Type 0
AreAlike es (value.Word n) w = Stands es (width_at es n.index) n × HasWord es (width_at es n.index) w
AreAlike es (value.Pointer p) w = IsPointer es p × HasPointer es w
AreAlike es value.Nothing w = ⊥
AreAlike es (value.Struct ns) w = ⊥
