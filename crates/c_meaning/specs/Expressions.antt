-- What expressions mean (C11 6.5), from left to right: the rule of each production, by the meanings of its parts.
use Rattle.std.specs.Prelude.{ℕ, ◌+◌, ◌==◌, Bool, true, false, not, if◌then◌else◌, Option, None, Some, List, [], ◌∷◌, get_or, replicate, ℤ, neg_ℤ}
use Rattle.hy_bits.specs.declared.scalar.Scalar.{Scalar}
use Rattle.hy_bits.specs.Bits.{bit}
use Rattle.c_tree.specs.declared.token.Place.{Place}
use Rattle.c_meaning.specs.declared.types.ValueKind.{ValueKind}
use Rattle.c_meaning.specs.declared.types.ValueKind.TheVariants as kind
use Rattle.c_meaning.specs.declared.operators.ArithmeticSign.{ArithmeticSign}
use Rattle.c_meaning.specs.declared.operators.Conversion.{Conversion}
use Rattle.c_meaning.specs.declared.operators.Conversion.TheVariants as conversion
use Rattle.c_meaning.specs.declared.operators.Direction.{Direction}
use Rattle.c_meaning.specs.declared.operators.Direction.TheVariants as direction
use Rattle.c_meaning.specs.declared.operators.IntegerOperation.{IntegerOperation}
use Rattle.c_meaning.specs.declared.operators.Operation.{Operation}
use Rattle.c_meaning.specs.declared.operators.Operation.TheVariants as operation
use Rattle.c_meaning.specs.declared.values.Cell.{Cell}
use Rattle.c_meaning.specs.declared.values.Cell.TheVariants as cell
use Rattle.c_meaning.specs.declared.values.Undefined.TheVariants as undefined
use Rattle.c_meaning.specs.Operations.{low, reading, converted_to, operated, undefined_operation, compares, by_equality, signed_by, undefined_sign}
use Rattle.c_meaning.specs.State.{State, Address, Spot, object_at, flagged, flagged_where, cells_from, cell_of, element_of, pointer_to, pointer_into, index_moved, is_in_reach, moved, points_alike}

-- ---- what evaluation gives

-- a value and the state after it, or the state in which a loop passed its bound, which ends the run
pub data Evaluated (A : Type 0) : Type 0 where
  Gives : A → State → Evaluated A
  Past : State → Evaluated A

abbrev pub after : {A B : Type 0} → Evaluated A → (A → State → Evaluated B) → Evaluated B
after (Gives a s) next = next a s
after (Past s) next = Past s

-- a value is the list of its cells: one of an integer or a pointer, those of all members of a struct, none of void
abbrev pub Value : Type 0
Value = List Cell

abbrev pub Eval : Type 0
Eval = State → Evaluated Value

-- an lvalue: the place of its name or of its last operator, and the pointer to what it designates
pub record Locate : Type 0 where
  pub place : Place
  pub locate : State → Evaluated Address

-- a function, by its arguments and the place of the call
abbrev pub Called : Type 0
Called = List Value → Place → Eval

-- the cells of each struct, and the functions that stand before
pub record World : Type 0 where
  pub structs : List ℕ
  pub calls : List Called

-- ---- values

abbrev pub of_word : ℕ → Value
of_word w = cell.Int w ∷ []

abbrev pub of_truth : Bool → Value
of_truth b = of_word (bit b)

abbrev pub of_address : Address → Value
of_address p = cell_of p ∷ []

abbrev pub word_in : Value → ℕ
word_in (cell.Int w ∷ rest) = w
word_in value = 0

abbrev pub address_in : Value → Address
address_in (cell.Pointer p ∷ rest) = Some p
address_in value = None

-- the word of a type that is in a value
abbrev pub word_as : Scalar → Value → ℕ
word_as t value = low t (word_in value)

-- C11 6.8.4.1, 6.5.13: it compares unequal to 0
abbrev pub holds : Value → Bool
holds (cell.Int w ∷ rest) = not (w == 0)
holds (cell.Pointer p ∷ rest) = true
holds value = false

abbrev pub zeros : World → ValueKind → Value
zeros world kind.Void = []
zeros world (kind.Integer t) = of_word 0
zeros world kind.Pointer = of_address None
zeros world (kind.Struct number) = replicate (get_or world.structs number 0) (cell.Int 0)

-- ---- conversions (C11 6.3)

abbrev pub converted : Conversion → Value → Value
converted (conversion.Integer from to) value = of_word (converted_to from to (word_in value))
converted conversion.NullPointer value = of_address None

abbrev pub converted_where : Option Conversion → Value → Value
converted_where None value = value
converted_where (Some conversion) value = converted conversion value

-- ---- reading (C11 6.3.2.1)

abbrev pub read_integer : Place → Cell → Eval
read_integer place (cell.Int w) s = Gives (of_word w) s
read_integer place c s = Gives (of_word 0) (flagged undefined.Unset place s)

-- a pointer to an object that has ended is read as it is
abbrev pub read_pointer : Place → Cell → Eval
read_pointer place (cell.Pointer p) s =
    Gives (of_address (Some p)) (if p.life == (object_at s p.object).life then s else flagged undefined.Dead place s)
read_pointer place cell.Null s = Gives (of_address None) s
read_pointer place c s = Gives (of_address None) (flagged undefined.Unset place s)

-- of a struct the cells are copied, set or not
abbrev pub read_cells : World → ValueKind → Place → ℕ → List Cell → Eval
read_cells world kind.Void place at cells s = Gives [] s
read_cells world (kind.Integer t) place at cells s = read_integer place (get_or cells at cell.Unset) s
read_cells world kind.Pointer place at cells s = read_pointer place (get_or cells at cell.Unset) s
read_cells world (kind.Struct number) place at cells s = Gives (cells_from (get_or world.structs number 0) at cells) s

abbrev pub read_at : World → ValueKind → Place → Option Spot → Eval
read_at world k place None s = Gives (zeros world k) (flagged undefined.Bounds place s)
read_at world k place (Some spot) s = read_cells world k place spot.at (object_at s spot.object).cells s

-- ---- pointers (C11 6.5.6)

abbrev pub offset_by : Direction → Scalar → ℕ → ℤ
offset_by direction.Forward t w = reading t w
offset_by direction.Backward t w = neg_ℤ (reading t w)

abbrev pub moved_from : Place → ℤ → Address → State → Evaluated Address
moved_from place by None s = Gives None (flagged undefined.PointerRange place s)
moved_from place by (Some p) s =
    Gives (Some (moved by p)) (if is_in_reach (index_moved by p) p then s else flagged undefined.PointerRange place s)

abbrev pub as_value : Evaluated Address → Evaluated Value
as_value located = after located (λ address s. Gives (of_address address) s)

-- a part of the element that a pointer points to: `cells` cells from the cell `offset` of it on
abbrev pub part_at : Place → ℕ → ℕ → Option Spot → State → Evaluated Address
part_at place offset cells None s = Gives None (flagged undefined.Bounds place s)
part_at place offset cells (Some spot) s = Gives (Some (pointer_to cells (record spot { at = spot.at + offset }))) s

-- ---- lvalues

-- C11 6.5.1p2: a name
abbrev pub object_located : Place → ℕ → ℕ → Locate
object_located place object cells = record {
  place = place;
  locate = λ s. Gives (Some (pointer_to cells (record { object = object; at = 0; life = (object_at s object).life }))) s;
}

-- C11 6.5.3.2p4: "*" unary
abbrev pub indirection_located : Place → Eval → Locate
indirection_located place pointer = record { place = place; locate = λ s. after (pointer s) (λ p s. Gives (address_in p) s) }

-- C11 6.5.2.1: postfix "[" expression "]"
abbrev pub subscript_located : Place → Eval → Scalar → Eval → Locate
subscript_located place pointer t index = record {
  place = place;
  locate = λ s. after (pointer s) (λ p s. after (index s) (λ i s. moved_from place (reading t (word_as t i)) (address_in p) s));
}

-- C11 6.5.2.3: postfix "." NAME
abbrev pub member_located : Place → Locate → ℕ → ℕ → Locate
member_located place of offset cells = record { place = place; locate = λ s. after (of.locate s) (λ p s. part_at place offset cells (element_of p) s) }

-- C11 6.5.2.3: postfix "->" NAME
abbrev pub arrow_located : Place → Eval → ℕ → ℕ → Locate
arrow_located place pointer offset cells = record {
  place = place;
  locate = λ s. after (pointer s) (λ p s. part_at place offset cells (element_of (address_in p)) s);
}

-- ---- primary expressions and conversions of lvalues

-- C11 6.5.1, 6.4.4: a literal, or an enumerator
abbrev pub constant_value : ℕ → Eval
constant_value w s = Gives (of_word w) s

-- C11 6.3.2.1p2
abbrev pub load_value : World → ValueKind → Locate → Eval
load_value world k from s = after (from.locate s) (λ p s. read_at world k from.place (element_of p) s)

-- C11 6.3.2.1p3
abbrev pub row_at : Place → ℕ → ℕ → Option Spot → State → Evaluated Address
row_at place cells count None s = Gives None (flagged undefined.Bounds place s)
row_at place cells count (Some spot) s = Gives (Some (pointer_into cells count spot)) s

abbrev pub decay_value : ℕ → ℕ → Locate → Eval
decay_value cells count from s = after (from.locate s) (λ p s. as_value (row_at from.place cells count (element_of p) s))

-- C11 6.5.3.2p3: "&" unary. What "*" and "[ ]" designate isn't accessed
abbrev pub address_value : Locate → Eval
address_value of s = as_value (of.locate s)

-- ---- unary expressions

abbrev pub converted_value : Conversion → Eval → Eval
converted_value conversion operand s = after (operand s) (λ v s. Gives (converted conversion v) s)

-- C11 6.5.4: "(" specs ")" unary
abbrev pub cast_value : Scalar → Scalar → Eval → Eval
cast_value from to operand = converted_value (conversion.Integer from to) operand

-- C11 6.5.3.3p2 to p4: ("+" | "-" | "~") unary
abbrev pub unary_value : Place → ArithmeticSign → Scalar → Eval → Eval
unary_value place sign t operand s =
    after (operand s) (λ v s. Gives (of_word (signed_by sign t (word_in v))) (flagged_where (undefined_sign sign t (word_in v)) place s))

-- C11 6.5.3.3p5: "!" unary
abbrev pub not_value : Eval → Eval
not_value operand s = after (operand s) (λ v s. Gives (of_truth (not (holds v))) s)

-- ---- binary operators on a left value and a right one

-- C11 6.5.5, 6.5.6, 6.5.7, 6.5.10 to 6.5.12
abbrev pub integers_combined : IntegerOperation → Place → ℕ → ℕ → Eval
integers_combined op place a b s = Gives (of_word (operated op a b)) (flagged_where (undefined_operation op a b) place s)

abbrev pub combined : Operation → Place → Value → Value → Eval
combined (operation.Integer op) place left right s = integers_combined op place (word_in left) (word_in right) s
combined (operation.Comparison op t) place left right s = Gives (of_truth (compares op t (word_in left) (word_in right))) s
combined (operation.Offset way t) place left right s = as_value (moved_from place (offset_by way t (word_as t right)) (address_in left) s)
combined (operation.OffsetOnLeft t) place left right s = as_value (moved_from place (reading t (word_as t left)) (address_in right) s)
combined (operation.Pointers op) place left right s = Gives (of_truth (by_equality op (points_alike (address_in left) (address_in right)))) s

-- one operator and its right operand, after what stands on the left
abbrev pub step_value : Option Conversion → Place → Operation → Eval → Value → Eval
step_value left place op right value s = after (right s) (λ r s. combined op place (converted_where left value) r s)

-- C11 6.5.5 to 6.5.12: operand (operator operand)*
abbrev pub along : List (Value → Eval) → Value → Eval
along [] value s = Gives value s
along (step ∷ steps) value s = after (step value s) (λ v s. along steps v s)

abbrev pub chain_value : Eval → List (Value → Eval) → Eval
chain_value first steps s = after (first s) (λ v s. along steps v s)

-- C11 6.5.13: operands until one doesn't hold
abbrev pub all_hold : List Eval → State → Evaluated Bool
all_hold [] s = Gives true s
all_hold (operand ∷ operands) s = after (operand s) (λ v s. if holds v then all_hold operands s else Gives false s)

-- C11 6.5.14: operands until one holds
abbrev pub any_holds : List Eval → State → Evaluated Bool
any_holds [] s = Gives false s
any_holds (operand ∷ operands) s = after (operand s) (λ v s. if holds v then Gives true s else any_holds operands s)

abbrev pub and_value : Eval → List Eval → Eval
and_value first rest s = after (all_hold (first ∷ rest) s) (λ b s. Gives (of_truth b) s)

abbrev pub or_value : Eval → List Eval → Eval
or_value first rest s = after (any_holds (first ∷ rest) s) (λ b s. Gives (of_truth b) s)

-- C11 6.5.15: condition "?" second ":" third
abbrev pub conditional_value : Eval → Eval → Eval → Eval
conditional_value condition second third s = after (condition s) (λ v s. if holds v then second s else third s)

-- ---- calls (C11 6.5.2.2)

abbrev pub each_value : List Eval → State → Evaluated (List Value)
each_value [] s = Gives [] s
each_value (argument ∷ arguments) s = after (argument s) (λ v s. after (each_value arguments s) (λ vs s. Gives (v ∷ vs) s))

abbrev pub no_function : Called
no_function arguments place s = Gives [] s

abbrev pub call_value : World → Place → ℕ → List Eval → Eval
call_value world place function arguments s =
    after (each_value arguments s) (λ values s. get_or world.calls function no_function values place s)
