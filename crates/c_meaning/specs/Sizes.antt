-- How large the runs of a program can be: the statements that are visited (visits), the nodes of its graph (nodes) and the gates of
-- their circuits (gates), as sums over the tree. Each production's sum is a rule by the sums of its parts.
use Rattle.std.specs.Prelude.{ℕ, ◌+◌, ◌*◌, ◌==◌, Bool, true, false, ◌&&◌, if◌then◌else◌, Option, None, Some, List, [], ◌∷◌, map, get_or}
use Rattle.std.specs.List.{list_all, list_any}
use Rattle.hy_bits.specs.declared.op.Op.TheVariants.{Add, Sub, Mul, Neg, DivU, RemU, And, Or, Xor, Not, Shl, LtU, Eq}
use Rattle.hy_bits.specs.declared.scalar.Scalar.{Scalar}
use Rattle.hy_bits.specs.declared.scalar.Scalar.TheVariants.{B1, S8, U8, S16, U16, S32, U32, S64, U64}
use Rattle.hy_bits.specs.declared.width.Width.{Width}
use Rattle.hy_bits.specs.declared.width.Width.TheVariants.{W1}
use Rattle.hy_bits.specs.Scalar.{scalar_width}
use Rattle.hy_bits.specs.Sizes.{operation_size}
use Rattle.c_meaning.specs.declared.types.ValueKind.{ValueKind}
use Rattle.c_meaning.specs.declared.types.ValueKind.TheVariants as kind
use Rattle.c_meaning.specs.declared.operators.ArithmeticOperator.{ArithmeticOperator}
use Rattle.c_meaning.specs.declared.operators.ArithmeticOperator.TheVariants as operator
use Rattle.c_meaning.specs.declared.operators.ArithmeticSign.{ArithmeticSign}
use Rattle.c_meaning.specs.declared.operators.ArithmeticSign.TheVariants as sign
use Rattle.c_meaning.specs.declared.operators.Comparison.{Comparison}
use Rattle.c_meaning.specs.declared.operators.Comparison.TheVariants as comparison
use Rattle.c_meaning.specs.declared.operators.IntegerOperation.{IntegerOperation}
use Rattle.c_meaning.specs.declared.operators.IntegerOperation.TheVariants as integer
use Rattle.c_meaning.specs.declared.operators.Operation.{Operation}
use Rattle.c_meaning.specs.declared.operators.Operation.TheVariants as operation

-- ---- sums

pub record Size : Type 0 where
  pub visits : ℕ
  pub nodes : ℕ
  pub gates : ℕ

abbrev pub nothing : Size
nothing = record { visits = 0; nodes = 0; gates = 0 }

abbrev pub plus : Size → Size → Size
plus a b = record { visits = a.visits + b.visits; nodes = a.nodes + b.nodes; gates = a.gates + b.gates }

abbrev pub times : ℕ → Size → Size
times n a = record { visits = n * a.visits; nodes = n * a.nodes; gates = n * a.gates }

abbrev pub total : List Size → Size
total [] = nothing
total (a ∷ rest) = plus a (total rest)

-- ---- what is counted

-- the cells of all objects and one more, the pointers among the objects, which objects are arrays, which parameters of `mpc_main` always
-- point to the first element of their array, and the functions that stand before
pub record FunctionSize : Type 0 where
  pub parameters : List ValueKind
  pub size : Size

pub record Measure : Type 0 where
  pub cells : ℕ
  pub pointers : ℕ
  pub is_array : ℕ → Bool
  pub is_steady : ℕ → Bool
  pub functions : List FunctionSize

abbrev pub visit : Size
visit = record { visits = 1; nodes = 0; gates = 0 }

abbrev pub tokens_size : ℕ → Size
tokens_size n = times n (record { visits = 0; nodes = 16; gates = 512 })

-- a unary "*", a "[" outside of a fixed place, a "->", a sum or a comparison of pointers, a "?:" with pointers, and each
-- initialization, assignment, argument or result of a pointer, an array or a struct
abbrev pub access : Measure → Size
access m = record { visits = 0; nodes = 64 * m.cells; gates = 8192 * m.cells }

-- besides, where pointers are compared
abbrev pub pointer_comparison : Measure → Size
pointer_comparison m = record { visits = 0; nodes = 0; gates = 65536 * m.cells }

-- a visit of an `if` or a `switch`, a turn, a call
abbrev pub branch : Measure → Size
branch m = record { visits = 0; nodes = 16 * m.cells * (m.pointers + 1); gates = 64 * m.cells * (m.pointers + 8) }

abbrev pub program_start : Measure → Size
program_start m = record { visits = 0; nodes = 16 * m.cells; gates = 512 * m.cells }

abbrev pub gates_alone : ℕ → Size
gates_alone n = record { visits = 0; nodes = 0; gates = n }

-- of a value that is moved as a whole
abbrev pub moved_size : Measure → ValueKind → Size
moved_size m kind.Void = nothing
moved_size m (kind.Integer t) = nothing
moved_size m kind.Pointer = access m
moved_size m (kind.Struct number) = access m

-- ---- integer operators, at the width that their operands are converted to

abbrev pub arithmetic_gates : ArithmeticOperator → Width → ℕ
arithmetic_gates operator.Multiply w = operation_size Mul w w w
arithmetic_gates operator.Divide w = operation_size DivU w w w
arithmetic_gates operator.Remainder w = operation_size RemU w w w
arithmetic_gates operator.Add w = operation_size Add w w w
arithmetic_gates operator.Subtract w = operation_size Sub w w w
arithmetic_gates operator.And w = operation_size And w w w
arithmetic_gates operator.Xor w = operation_size Xor w w w
arithmetic_gates operator.Or w = operation_size Or w w w

abbrev pub integer_gates : IntegerOperation → ℕ
integer_gates (integer.Arithmetic op t) = arithmetic_gates op (scalar_width t)
integer_gates (integer.Shift op t count) = operation_size Shl (scalar_width t) (scalar_width t) (scalar_width count)

abbrev pub comparison_gates : Comparison → Width → ℕ
comparison_gates comparison.Less w = operation_size LtU W1 w w
comparison_gates comparison.Greater w = operation_size LtU W1 w w
comparison_gates comparison.LessOrEqual w = operation_size LtU W1 w w
comparison_gates comparison.GreaterOrEqual w = operation_size LtU W1 w w
comparison_gates comparison.Equal w = operation_size Eq W1 w w
comparison_gates comparison.Unequal w = operation_size Eq W1 w w

abbrev pub operation_cost : Measure → Operation → Size
operation_cost m (operation.Integer op) = gates_alone (integer_gates op)
operation_cost m (operation.Comparison op t) = gates_alone (comparison_gates op (scalar_width t))
operation_cost m (operation.Offset way t) = access m
operation_cost m (operation.OffsetOnLeft t) = access m
operation_cost m (operation.Pointers op) = plus (access m) (pointer_comparison m)

abbrev pub sign_gates : ArithmeticSign → Width → ℕ
sign_gates sign.Plus w = 0
sign_gates sign.Minus w = operation_size Neg w w w
sign_gates sign.Complement w = operation_size Not w w w

-- C11 6.3.1.1p2
abbrev pub promoted : Scalar → Scalar
promoted B1 = S32
promoted S8 = S32
promoted U8 = S32
promoted S16 = S32
promoted U16 = S32
promoted S32 = S32
promoted U32 = U32
promoted S64 = S64
promoted U64 = U64

-- "!" on an integer is a comparison with 0
abbrev pub not_cost : ValueKind → Size
not_cost kind.Void = nothing
not_cost (kind.Integer t) = gates_alone (comparison_gates comparison.Equal (scalar_width (promoted t)))
not_cost kind.Pointer = nothing
not_cost (kind.Struct number) = nothing

-- ---- lvalues and expressions

-- the objects that count the loops around, each of which has one number in each turn
abbrev pub Counters : Type 0
Counters = List ℕ

abbrev pub is_among : ℕ → Counters → Bool
is_among k counters = list_any (λ j. k == j) counters

-- an lvalue: the object that it names, if it is a name; whether it is fixed: a name of an array and after it "[ ]" with indices that are
-- numbers in each turn, and "."; and its size
pub record LvalueSize : Type 0 where
  pub named : Option ℕ
  pub is_fixed : Counters → Bool
  pub size : Counters → Size

-- an expression: whether it is built by operators from constants and counters; whether it points to the first element of a fixed array; and
-- its size
pub record ExprSize : Type 0 where
  pub is_number : Counters → Bool
  pub is_row : Counters → Bool
  pub size : Counters → Size

abbrev pub names : (ℕ → Bool) → Option ℕ → Bool
names P None = false
names P (Some k) = P k

abbrev pub object_size : Measure → ℕ → LvalueSize
object_size m k = record { named = Some k; is_fixed = λ counters. m.is_array k; size = λ counters. nothing }

abbrev pub indirection_size : Measure → ExprSize → LvalueSize
indirection_size m pointer = record { named = None; is_fixed = λ counters. false; size = λ counters. plus (pointer.size counters) (access m) }

abbrev pub is_fixed_subscript : ExprSize → ExprSize → Counters → Bool
is_fixed_subscript pointer index counters = index.is_number counters && pointer.is_row counters

abbrev pub subscript_size : Measure → ExprSize → ExprSize → LvalueSize
subscript_size m pointer index = record {
  named = None;
  is_fixed = is_fixed_subscript pointer index;
  size = λ counters.
      plus (plus (pointer.size counters) (index.size counters)) (if is_fixed_subscript pointer index counters then nothing else access m);
}

abbrev pub member_size : LvalueSize → LvalueSize
member_size of = record { named = None; is_fixed = of.is_fixed; size = of.size }

-- no number, and no array
abbrev pub plain_size : (Counters → Size) → ExprSize
plain_size size = record { is_number = λ counters. false; is_row = λ counters. false; size = size }

abbrev pub constant_size : ExprSize
constant_size = record { is_number = λ counters. true; is_row = λ counters. false; size = λ counters. nothing }

abbrev pub load_size : Measure → LvalueSize → ExprSize
load_size m from = record {
  is_number = λ counters. names (λ k. is_among k counters) from.named;
  is_row = λ counters. names m.is_steady from.named;
  size = from.size;
}

abbrev pub decay_size : LvalueSize → ExprSize
decay_size from = record { is_number = λ counters. false; is_row = from.is_fixed; size = from.size }

-- an operator on one operand, with what it costs itself
abbrev pub unary_size : Size → ExprSize → ExprSize
unary_size cost operand = record { is_number = operand.is_number; is_row = λ counters. false; size = λ counters. plus (operand.size counters) cost }

-- operands, with what operators between them cost
abbrev pub operands_size : Size → List ExprSize → ExprSize
operands_size cost operands = record {
  is_number = λ counters. list_all (λ operand. operand.is_number counters) operands;
  is_row = λ counters. false;
  size = λ counters. plus (total (map (λ operand. operand.size counters) operands)) cost;
}

abbrev pub arguments_size : Measure → List ValueKind → List ExprSize → Counters → Size
arguments_size m kinds [] counters = nothing
arguments_size m [] (argument ∷ arguments) counters = plus (argument.size counters) (arguments_size m [] arguments counters)
arguments_size m (k ∷ kinds) (argument ∷ arguments) counters =
    plus (plus (argument.size counters) (moved_size m k)) (arguments_size m kinds arguments counters)

abbrev pub no_function_size : FunctionSize
no_function_size = record { parameters = []; size = nothing }

abbrev pub function_at : Measure → ℕ → FunctionSize
function_at m function = get_or m.functions function no_function_size

abbrev pub call_size : Measure → ℕ → List ExprSize → ExprSize
call_size m function arguments = plain_size (λ counters.
    plus (plus (branch m) (function_at m function).size) (arguments_size m (function_at m function).parameters arguments counters))
