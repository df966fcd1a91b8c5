-- Which operation on words an operator of C is at a type.
use Rattle.std.specs.Prelude.{Bool, if◌then◌else◌}
use Rattle.hy_bits.specs.declared.op.Op.{Op}
use Rattle.hy_bits.specs.declared.op.Op.TheVariants as op
use Rattle.c_meaning.specs.declared.operators.ArithmeticOperator.{ArithmeticOperator}
use Rattle.c_meaning.specs.declared.operators.ArithmeticOperator.TheVariants as operator
use Rattle.c_meaning.specs.declared.operators.ShiftOperator.{ShiftOperator}
use Rattle.c_meaning.specs.declared.operators.ShiftOperator.TheVariants as shift

-- by whether the type is signed
abbrev pub arithmetic_op : ArithmeticOperator → Bool → Op
arithmetic_op operator.Multiply signed = op.Mul
arithmetic_op operator.Divide signed = if signed then op.DivS else op.DivU
arithmetic_op operator.Remainder signed = if signed then op.RemS else op.RemU
arithmetic_op operator.Add signed = op.Add
arithmetic_op operator.Subtract signed = op.Sub
arithmetic_op operator.And signed = op.And
arithmetic_op operator.Xor signed = op.Xor
arithmetic_op operator.Or signed = op.Or

abbrev pub shift_op : ShiftOperator → Bool → Op
shift_op shift.Left signed = op.Shl
shift_op shift.Right signed = if signed then op.ShrS else op.ShrU

abbrev pub less_op : Bool → Op
less_op signed = if signed then op.LtS else op.LtU

abbrev pub extension_op : Bool → Op
extension_op signed = if signed then op.SignExt else op.ZeroExt
