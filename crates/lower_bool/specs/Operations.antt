-- What the circuit of one operation answers: from the words of its operands, given as literals, the word of its result. Private to the crate.
use Rattle.std.specs.Prelude.{◌≡◌, ℕ, ◌+◌, ◌<◌, Bool, true, false, ◌&&◌, ◌||◌, List, [], Option, Some, None, get_or, length}
use Rattle.hy_bits.specs.declared.op.Op.{Op}
use Rattle.hy_bits.specs.declared.op.Op.TheVariants.{And, Or, Xor, DivU, DivS, RemU, RemS, Not, Shl, ShrU, ShrS, Trunc, ZeroExt, SignExt}
use Rattle.hy_bits.specs.declared.width.Width.{Width}
use Rattle.hy_bits.specs.Bits.{xor}
use Rattle.hy_bits.specs.Op.{op_value}
use Rattle.hy_bits.specs.Sizes.{Stated, operation_size, stated}
use Rattle.hy_bits.specs.Words.{bits}
use Rattle.word_graph.specs.Term.{WidthsFit, arity}
use Rattle.gate_net.specs.declared.literal.Lit.{Lit}
use Rattle.gate_net.specs.declared.netlist.Form.{Form}
use Rattle.gate_net.specs.declared.netlist.Form.TheVariants.{Compact, Shallow}
use Rattle.gate_net.specs.Circuit.{Circuit}
use Rattle.gate_net.specs.Spelled.{AllStand, AllWithin, spelled}
use Rattle.lower_bool.specs.declared.call.Call.{Call}

-- the literals of a row; a row past the end has none
abbrev pub row_at : List (List Lit) → ℕ → List Lit
row_at rows k = get_or rows k []

-- the most gates of the operation's circuit, and its stated numbers
abbrev pub call_size : Call → ℕ
call_size c = operation_size c.op c.width c.first c.second

abbrev pub call_stated : Call → Stated
call_stated c = stated c.op c.width c.first

-- the most And gates that are known of a circuit: in the compact form the stated number, where there is one, and else as many as gates
abbrev pub and_limit : Form → Option ℕ → ℕ → ℕ
and_limit Compact (Some n) size = n
and_limit Compact None size = size
and_limit Shallow ands size = size

abbrev pub call_ands : Form → Call → ℕ
call_ands form c = and_limit form (call_stated c).ands (call_size c)

-- the rows are words of the widths that the operation takes
pub record AreOperands (c : Call) (rows : List (List Lit)) : Type 0 where
  pub third : Width
  pub fits : WidthsFit c.op c.width c.first c.second third
  pub first_word : 0 < arity c.op → length (row_at rows 0) ≡ bits c.first
  pub second_word : 1 < arity c.op → length (row_at rows 1) ≡ bits c.second
  pub third_word : 2 < arity c.op → length (row_at rows 2) ≡ bits third

-- all rows stand in the circuit
abbrev pub RowsStand : Circuit → List (List Lit) → Type 0
RowsStand n rows = (k : ℕ) → AllStand n (row_at rows k)

-- no literal of a row has a level above d
abbrev pub RowsWithin : Circuit → ℕ → List (List Lit) → Type 0
RowsWithin n d rows = (k : ℕ) → AllWithin n d (row_at rows k)

-- the literals are the word of the operation's value for all inputs, and in the shallow form at most the stated depth below the rows
pub record IsAnswer (form : Form) (c : Call) (old new : Circuit) (rows : List (List Lit)) (answer : List Lit) : Type 0 where
  pub stand : AllStand new answer
  pub count : length answer ≡ bits c.width
  pub spells : (xs : List Bool) → spelled new xs answer ≡ op_value c.op c.width c.first (spelled old xs (row_at rows 0)) (spelled old xs (row_at rows 1)) (spelled old xs (row_at rows 2))
  pub depth : form ≡ Shallow → (s d : ℕ) → (call_stated c).depth ≡ Some s → RowsWithin old d rows → AllWithin new (d + s) answer

-- ---- place by place

-- what an operation on each place does with two bits
abbrev pub place_of : Op → Bool → Bool → Bool
place_of And x y = x && y
place_of Or x y = x || y
place_of _ x y = xor x y

-- it has an And gate for each place, or none
abbrev pub place_ands : Op → ℕ
place_ands And = 1
place_ands Or = 1
place_ands _ = 0

abbrev pub IsByPlaces : Op → Type 0
IsByPlaces And = Unit {0}
IsByPlaces Or = Unit {0}
IsByPlaces Xor = Unit {0}
IsByPlaces _ = ⊥

-- ---- operations of one circuit

abbrev pub IsQuotient : Op → Type 0
IsQuotient DivU = Unit {0}
IsQuotient DivS = Unit {0}
IsQuotient _ = ⊥

abbrev pub IsRemainder : Op → Type 0
IsRemainder RemU = Unit {0}
IsRemainder RemS = Unit {0}
IsRemainder _ = ⊥

-- the quotient and the remainder of the signed readings
abbrev pub is_signed : Op → Bool
is_signed DivS = true
is_signed RemS = true
is_signed _ = false

abbrev pub IsShift : Op → Type 0
IsShift Shl = Unit {0}
IsShift ShrU = Unit {0}
IsShift ShrS = Unit {0}
IsShift _ = ⊥

abbrev pub IsRewiring : Op → Type 0
IsRewiring Not = Unit {0}
IsRewiring Trunc = Unit {0}
IsRewiring ZeroExt = Unit {0}
IsRewiring SignExt = Unit {0}
IsRewiring _ = ⊥

-- the literals, which stand already, are the answer in every circuit and either form
abbrev pub AnswersByWires : Call → List (List Lit) → List Lit → Type 0
AnswersByWires c rows answer = (form : Form) (n : Circuit) → RowsStand n rows → IsAnswer form c n n rows answer
