-- What operators, assignments and casts make of the types of their operands (C11 6.5): the conversions that are written out and the
-- operation, or how a rule is broken.
use Rattle.std.specs.Prelude.{◌==◌, Bool, true, false, if◌then◌else◌, Option, None, Some, Result, Ok, Err}
use Rattle.hy_bits.specs.declared.scalar.Scalar.{Scalar}
use Rattle.hy_bits.specs.declared.scalar.Scalar.TheVariants.{B1}
use Rattle.c_tree.specs.declared.expressions.BinaryOperator.{BinaryOperator}
use Rattle.c_tree.specs.declared.expressions.BinaryOperator.TheVariants as binary
use Rattle.c_tree.specs.declared.statements.AssignmentOperator.{AssignmentOperator}
use Rattle.c_tree.specs.declared.statements.AssignmentOperator.TheVariants as assignment
use Rattle.c_meaning.specs.declared.types.ValueKind.{ValueKind}
use Rattle.c_meaning.specs.declared.types.ValueKind.TheVariants as kind
use Rattle.c_meaning.specs.declared.operators.ArithmeticOperator.{ArithmeticOperator}
use Rattle.c_meaning.specs.declared.operators.ArithmeticOperator.TheVariants as arithmetic
use Rattle.c_meaning.specs.declared.operators.ShiftOperator.TheVariants as shift
use Rattle.c_meaning.specs.declared.operators.Comparison.{Comparison}
use Rattle.c_meaning.specs.declared.operators.Comparison.TheVariants as comparison
use Rattle.c_meaning.specs.declared.operators.Equality.{Equality}
use Rattle.c_meaning.specs.declared.operators.Equality.TheVariants as equality
use Rattle.c_meaning.specs.declared.operators.Direction.TheVariants.{Forward, Backward}
use Rattle.c_meaning.specs.declared.operators.Conversion.{Conversion}
use Rattle.c_meaning.specs.declared.operators.Conversion.TheVariants as conversion
use Rattle.c_meaning.specs.declared.operators.IntegerOperation.TheVariants as integer
use Rattle.c_meaning.specs.declared.operators.Operation.{Operation}
use Rattle.c_meaning.specs.declared.operators.Operation.TheVariants as operation
use Rattle.c_meaning.specs.Sizes.{promoted}
use Rattle.c_conversions.specs.declared.fault.TypeKind.{TypeKind}
use Rattle.c_conversions.specs.declared.fault.TypeKind.TheVariants.{Mismatch, PointerForm}
use Rattle.c_conversions.specs.declared.operands.Operand.{Operand}
use Rattle.c_conversions.specs.declared.operands.Operand.TheVariants as operand
use Rattle.c_conversions.specs.declared.operands.Pointees.{Pointees}
use Rattle.c_conversions.specs.declared.operands.Pointees.TheVariants.{Compatible, Incompatible}
use Rattle.c_conversions.specs.declared.operands.Sides.{Sides}
use Rattle.c_conversions.specs.declared.operands.Sides.TheVariants as sides
use Rattle.c_conversions.specs.declared.operators.Operator.{Operator}
use Rattle.c_conversions.specs.declared.operators.Operator.TheVariants as operator
use Rattle.c_conversions.specs.declared.operators.Combination.{Combination}
use Rattle.c_conversions.specs.declared.operators.Change.{Change}
use Rattle.c_conversions.specs.declared.operators.Change.TheVariants as change
use Rattle.c_conversions.specs.declared.operators.Branches.{Branches}
use Rattle.c_conversions.specs.declared.assignments.Promotion.{Promotion}
use Rattle.c_conversions.specs.Scalars.{same_scalar, usual, conversion_between}

-- ---- operators as they are written

abbrev pub operator_of : BinaryOperator → Option Operator
operator_of binary.LogicalOr = None
operator_of binary.LogicalAnd = None
operator_of binary.Or = Some (operator.Arithmetic arithmetic.Or)
operator_of binary.Xor = Some (operator.Arithmetic arithmetic.Xor)
operator_of binary.And = Some (operator.Arithmetic arithmetic.And)
operator_of binary.Equal = Some (operator.Comparison comparison.Equal)
operator_of binary.Unequal = Some (operator.Comparison comparison.Unequal)
operator_of binary.Less = Some (operator.Comparison comparison.Less)
operator_of binary.Greater = Some (operator.Comparison comparison.Greater)
operator_of binary.LessOrEqual = Some (operator.Comparison comparison.LessOrEqual)
operator_of binary.GreaterOrEqual = Some (operator.Comparison comparison.GreaterOrEqual)
operator_of binary.ShiftLeft = Some (operator.Shift shift.Left)
operator_of binary.ShiftRight = Some (operator.Shift shift.Right)
operator_of binary.Add = Some (operator.Arithmetic arithmetic.Add)
operator_of binary.Subtract = Some (operator.Arithmetic arithmetic.Subtract)
operator_of binary.Multiply = Some (operator.Arithmetic arithmetic.Multiply)
operator_of binary.Divide = Some (operator.Arithmetic arithmetic.Divide)
operator_of binary.Remainder = Some (operator.Arithmetic arithmetic.Remainder)

abbrev pub operator_in : AssignmentOperator → Option Operator
operator_in assignment.Plain = None
operator_in assignment.Multiply = Some (operator.Arithmetic arithmetic.Multiply)
operator_in assignment.Divide = Some (operator.Arithmetic arithmetic.Divide)
operator_in assignment.Remainder = Some (operator.Arithmetic arithmetic.Remainder)
operator_in assignment.Add = Some (operator.Arithmetic arithmetic.Add)
operator_in assignment.Subtract = Some (operator.Arithmetic arithmetic.Subtract)
operator_in assignment.ShiftLeft = Some (operator.Shift shift.Left)
operator_in assignment.ShiftRight = Some (operator.Shift shift.Right)
operator_in assignment.And = Some (operator.Arithmetic arithmetic.And)
operator_in assignment.Xor = Some (operator.Arithmetic arithmetic.Xor)
operator_in assignment.Or = Some (operator.Arithmetic arithmetic.Or)

-- ---- operands

abbrev pub beside_integer : Scalar → Operand → Sides
beside_integer a (operand.Integer b) = sides.Integers a b
beside_integer a (operand.NullConstant b) = sides.Integers a b
beside_integer a operand.Pointer = sides.IntegerAndPointer a
beside_integer a operand.Void = sides.Others
beside_integer a (operand.Struct number) = sides.Others

abbrev pub beside_null : Scalar → Operand → Sides
beside_null a (operand.Integer b) = sides.Integers a b
beside_null a (operand.NullConstant b) = sides.Integers a b
beside_null a operand.Pointer = sides.NullAndPointer a
beside_null a operand.Void = sides.Others
beside_null a (operand.Struct number) = sides.Others

abbrev pub beside_pointer : Operand → Sides
beside_pointer (operand.Integer b) = sides.PointerAndInteger b
beside_pointer (operand.NullConstant b) = sides.PointerAndNull b
beside_pointer operand.Pointer = sides.Pointers
beside_pointer operand.Void = sides.Others
beside_pointer (operand.Struct number) = sides.Others

-- what stands on the left and on the right of an operator
abbrev pub sides_of : Operand → Operand → Sides
sides_of (operand.Integer a) right = beside_integer a right
sides_of (operand.NullConstant a) right = beside_null a right
sides_of operand.Pointer right = beside_pointer right
sides_of operand.Void right = sides.Others
sides_of (operand.Struct number) right = sides.Others

-- ---- operators on integers

abbrev pub on_integers : Operator → Scalar → Scalar → Combination
-- C11 6.5.5p3, 6.5.6p4, 6.5.10p3, 6.5.11p3, 6.5.12p3
on_integers (operator.Arithmetic op) a b = record {
  left = conversion_between a (usual a b);
  operation = operation.Integer (integer.Arithmetic op (usual a b));
  right = conversion_between b (usual a b);
}
-- C11 6.5.7p3
on_integers (operator.Shift op) a b = record {
  left = conversion_between a (promoted a);
  operation = operation.Integer (integer.Shift op (promoted a) (promoted b));
  right = conversion_between b (promoted b);
}
-- C11 6.5.8p3, 6.5.9p4
on_integers (operator.Comparison op) a b = record {
  left = conversion_between a (usual a b);
  operation = operation.Comparison op (usual a b);
  right = conversion_between b (usual a b);
}

-- ---- operators on pointers

abbrev pub as_they_are : Operation → Combination
as_they_are op = record { left = None; operation = op; right = None }

-- C11 6.5.6p2, p3
abbrev pub with_sum : ArithmeticOperator → Sides → Result Combination TypeKind
with_sum arithmetic.Add (sides.PointerAndInteger t) = Ok (as_they_are (operation.Offset Forward t))
with_sum arithmetic.Add (sides.PointerAndNull t) = Ok (as_they_are (operation.Offset Forward t))
with_sum arithmetic.Add (sides.IntegerAndPointer t) = Ok (as_they_are (operation.OffsetOnLeft t))
with_sum arithmetic.Add (sides.NullAndPointer t) = Ok (as_they_are (operation.OffsetOnLeft t))
with_sum arithmetic.Subtract (sides.PointerAndInteger t) = Ok (as_they_are (operation.Offset Backward t))
with_sum arithmetic.Subtract (sides.PointerAndNull t) = Ok (as_they_are (operation.Offset Backward t))
with_sum arithmetic.Subtract sides.Pointers = Err PointerForm
with_sum op at = Err Mismatch

-- C11 6.5.9p2
abbrev pub with_equality : Equality → Sides → Pointees → Result Combination TypeKind
with_equality op sides.Pointers Compatible = Ok (as_they_are (operation.Pointers op))
with_equality op (sides.PointerAndNull t) pointees = Ok (record { left = None; operation = operation.Pointers op; right = Some conversion.NullPointer })
with_equality op (sides.NullAndPointer t) pointees = Ok (record { left = Some conversion.NullPointer; operation = operation.Pointers op; right = None })
with_equality op at pointees = Err Mismatch

-- no pointers are ordered
abbrev pub without_order : Sides → Result Combination TypeKind
without_order sides.Pointers = Err PointerForm
without_order at = Err Mismatch

abbrev pub with_comparison : Comparison → Sides → Pointees → Result Combination TypeKind
with_comparison comparison.Equal at pointees = with_equality equality.Equal at pointees
with_comparison comparison.Unequal at pointees = with_equality equality.Unequal at pointees
with_comparison op at pointees = without_order at

abbrev pub with_pointers : Operator → Sides → Pointees → Result Combination TypeKind
with_pointers (operator.Arithmetic op) at pointees = with_sum op at
with_pointers (operator.Shift op) at pointees = Err Mismatch
with_pointers (operator.Comparison op) at pointees = with_comparison op at pointees

abbrev pub combined_at : Operator → Sides → Pointees → Result Combination TypeKind
combined_at op (sides.Integers a b) pointees = Ok (on_integers op a b)
combined_at op at pointees = with_pointers op at pointees

-- a binary operator but "&&" and "||"
abbrev pub combined : Operator → Operand → Operand → Pointees → Result Combination TypeKind
combined op left right pointees = combined_at op (sides_of left right) pointees

-- ---- "x op= e" (C11 6.5.16.2): the place's type stands on the left

abbrev pub changed_integer : Operator → Scalar → Scalar → Result Change TypeKind
changed_integer (operator.Arithmetic op) a b = Ok (change.Integer (integer.Arithmetic op (usual a b)) (conversion_between b (usual a b)))
changed_integer (operator.Shift op) a b = Ok (change.Integer (integer.Shift op (promoted a) (promoted b)) (conversion_between b (promoted b)))
changed_integer (operator.Comparison op) a b = Err Mismatch

abbrev pub changed_pointer : Operator → Sides → Result Change TypeKind
changed_pointer (operator.Arithmetic arithmetic.Add) (sides.PointerAndInteger t) = Ok (change.Advance Forward t)
changed_pointer (operator.Arithmetic arithmetic.Add) (sides.PointerAndNull t) = Ok (change.Advance Forward t)
changed_pointer (operator.Arithmetic arithmetic.Subtract) (sides.PointerAndInteger t) = Ok (change.Advance Backward t)
changed_pointer (operator.Arithmetic arithmetic.Subtract) (sides.PointerAndNull t) = Ok (change.Advance Backward t)
changed_pointer (operator.Arithmetic arithmetic.Subtract) sides.Pointers = Err PointerForm
changed_pointer op at = Err Mismatch

abbrev pub changed_at : Operator → Sides → Result Change TypeKind
changed_at op (sides.Integers a b) = changed_integer op a b
changed_at op other = changed_pointer op other

abbrev pub changed : Operator → Operand → Operand → Result Change TypeKind
changed op target value = changed_at op (sides_of target value)

-- ---- "?:" (C11 6.5.15p3, p5, p6)

abbrev pub chosen_at : Sides → Pointees → Result Branches TypeKind
chosen_at (sides.Integers a b) pointees =
    Ok (record { kind = kind.Integer (usual a b); second = conversion_between a (usual a b); third = conversion_between b (usual a b) })
chosen_at sides.Pointers Compatible = Ok (record { kind = kind.Pointer; second = None; third = None })
chosen_at (sides.PointerAndNull t) pointees = Ok (record { kind = kind.Pointer; second = None; third = Some conversion.NullPointer })
chosen_at (sides.NullAndPointer t) pointees = Ok (record { kind = kind.Pointer; second = Some conversion.NullPointer; third = None })
chosen_at at pointees = Err Mismatch

abbrev pub chosen : Operand → Operand → Pointees → Result Branches TypeKind
chosen second third pointees = chosen_at (sides_of second third) pointees

-- ---- assignments, initializers, arguments and results (C11 6.5.16.1p1)

-- a conversion of a pointer to `_Bool` that no operator asks for
abbrev pub pointer_as : Scalar → TypeKind
pointer_as t = if same_scalar t B1 then PointerForm else Mismatch

abbrev pub assigned_integer : Scalar → Operand → Result (Option Conversion) TypeKind
assigned_integer t (operand.Integer from) = Ok (conversion_between from t)
assigned_integer t (operand.NullConstant from) = Ok (conversion_between from t)
assigned_integer t operand.Pointer = Err (pointer_as t)
assigned_integer t operand.Void = Err Mismatch
assigned_integer t (operand.Struct number) = Err Mismatch

abbrev pub assigned_pointer : Operand → Pointees → Result (Option Conversion) TypeKind
assigned_pointer operand.Pointer Compatible = Ok None
assigned_pointer operand.Pointer Incompatible = Err Mismatch
assigned_pointer (operand.NullConstant from) pointees = Ok (Some conversion.NullPointer)
assigned_pointer (operand.Integer from) pointees = Err Mismatch
assigned_pointer operand.Void pointees = Err Mismatch
assigned_pointer (operand.Struct number) pointees = Err Mismatch

abbrev pub assigned_struct : Operand → Operand → Result (Option Conversion) TypeKind
assigned_struct (operand.Struct target) (operand.Struct number) = if target == number then Ok None else Err Mismatch
assigned_struct target value = Err Mismatch

abbrev pub assigned : ValueKind → Operand → Pointees → Result (Option Conversion) TypeKind
assigned kind.Void value pointees = Err Mismatch
assigned (kind.Integer t) value pointees = assigned_integer t value
assigned kind.Pointer value pointees = assigned_pointer value pointees
assigned (kind.Struct number) value pointees = assigned_struct (operand.Struct number) value

-- ---- operators on one operand

-- C11 6.5.3.3p1: "+", "-" and "~", with the promoted type
abbrev pub signed : Operand → Result Promotion TypeKind
signed (operand.Integer t) = Ok (record { conversion = conversion_between t (promoted t); scalar = promoted t })
signed (operand.NullConstant t) = Ok (record { conversion = conversion_between t (promoted t); scalar = promoted t })
signed operand.Pointer = Err Mismatch
signed operand.Void = Err Mismatch
signed (operand.Struct number) = Err Mismatch

-- C11 6.5.13p2, 6.5.14p2, 6.5.15p2, 6.8.4.1p1, 6.8.5p2: an integer or a pointer
abbrev pub is_condition : Operand → Bool
is_condition (operand.Integer t) = true
is_condition (operand.NullConstant t) = true
is_condition operand.Pointer = true
is_condition operand.Void = false
is_condition (operand.Struct number) = false

abbrev pub cast_to : ValueKind → Scalar → Result Scalar TypeKind
cast_to (kind.Integer t) from = Ok t
cast_to other from = Err Mismatch

-- C11 6.5.4p2: to an integer, of an integer. No pointer is cast
abbrev pub cast : ValueKind → Operand → Result Scalar TypeKind
cast target (operand.Integer from) = cast_to target from
cast target (operand.NullConstant from) = cast_to target from
cast target operand.Pointer = Err PointerForm
cast target operand.Void = Err Mismatch
cast target (operand.Struct number) = Err Mismatch
