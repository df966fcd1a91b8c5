-- Values with their types, and what they are to operators.
use Rattle.std.specs.Prelude.{ℕ, ◌==◌, Bool, true, false, if◌then◌else◌, Option, None, Some, List, [], ◌∷◌, ◌++◌}
use Rattle.hy_bits.specs.declared.scalar.Scalar.{Scalar}
use Rattle.hy_bits.specs.declared.scalar.Scalar.TheVariants.{S32}
use Rattle.c_meaning.specs.declared.types.CType.{CType, out-CType}
use Rattle.c_meaning.specs.declared.types.CType.TheVariants as ctype
use Rattle.c_meaning.specs.declared.types.CType.TheOpen.{CType-F}
use Rattle.c_meaning.specs.declared.types.Qualifier.{Qualifier}
use Rattle.c_meaning.specs.declared.types.Qualifier.TheVariants.{Unqualified, Const}
use Rattle.c_meaning.specs.declared.types.StructType.{StructType}
use Rattle.c_meaning.specs.declared.types.ValueKind.{ValueKind}
use Rattle.c_meaning.specs.declared.types.ValueKind.TheVariants as kind
use Rattle.c_meaning.specs.declared.operators.Conversion.{Conversion}
use Rattle.c_meaning.specs.declared.operators.Operation.{Operation}
use Rattle.c_meaning.specs.declared.operators.Operation.TheVariants as operation
use Rattle.c_meaning.specs.declared.expressions.TypedExpr.{TypedExpr}
use Rattle.c_meaning.specs.declared.expressions.TypedExpr.TheVariants as expr
use Rattle.c_meaning.specs.declared.expressions.Lvalue.{Lvalue}
use Rattle.c_meaning.specs.Operations.{left_type}
use Rattle.c_meaning.specs.Types.{kind_of}
use Rattle.c_meaning.specs.Constants.{Constant, Variable, Faulty, Word, constant_of}
use Rattle.c_conversions.specs.declared.operands.Operand.{Operand}
use Rattle.c_conversions.specs.declared.operands.Operand.TheVariants as operand
use Rattle.c_conversions.specs.declared.operands.Pointees.{Pointees}
use Rattle.c_conversions.specs.declared.operands.Pointees.TheVariants.{Compatible, Incompatible}
use Rattle.c_conversions.specs.CTypes.{same_type, counted_cells}
use Rattle.c_typing.specs.declared.postfix.Pointee.{Pointee}
use Rattle.c_typing.specs.declared.values.TypedValue.{TypedValue}
use Rattle.c_typing.specs.declared.values.Typing.{Typing}
use Rattle.c_typing.specs.declared.values.Typing.TheVariants as typing

-- ---- values

-- C11 6.3.2.1p2, p3: the value that an lvalue designates. An array is a pointer to its first element
abbrev pub layer_value : List StructType → Lvalue → CType → Qualifier → CType-F CType → TypedValue
layer_value structs from c qualifier (CType-F.Array count element) =
    record { expr = expr.Decay (counted_cells structs element) count from; ctype = ctype.Pointer qualifier element }
layer_value structs from c qualifier other = record { expr = expr.Load (kind_of c) from; ctype = c }

abbrev pub value_of : List StructType → Typing → TypedValue
value_of structs (typing.Gives value) = value
value_of structs (typing.Designates from c qualifier) = layer_value structs from c qualifier (out-CType c)

-- C11 6.3.2.3p3: an integer constant expression of value 0
abbrev pub is_zero : Constant → Bool
is_zero Variable = false
is_zero Faulty = false
is_zero (Word w) = w == 0

abbrev pub integer_operand : Scalar → Bool → Operand
integer_operand t true = operand.NullConstant t
integer_operand t false = operand.Integer t

abbrev pub operand_of_kind : ValueKind → TypedExpr → Operand
operand_of_kind kind.Void e = operand.Void
operand_of_kind (kind.Integer t) e = integer_operand t (is_zero (constant_of e))
operand_of_kind kind.Pointer e = operand.Pointer
operand_of_kind (kind.Struct number) e = operand.Struct number

-- what a value is to an operator, where a null pointer constant is wanted
abbrev pub operand_of : TypedValue → Operand
operand_of value = operand_of_kind (kind_of value.ctype) value.expr

-- and where none is
abbrev pub kind_operand : ValueKind → Operand
kind_operand kind.Void = operand.Void
kind_operand (kind.Integer t) = operand.Integer t
kind_operand kind.Pointer = operand.Pointer
kind_operand (kind.Struct number) = operand.Struct number

-- a null pointer constant is wanted beside a pointer alone
abbrev pub operand_beside : ValueKind → TypedValue → Operand
operand_beside kind.Pointer value = operand_of value
operand_beside other value = kind_operand (kind_of value.ctype)

abbrev pub converted : Option Conversion → TypedExpr → TypedExpr
converted None e = e
converted (Some conversion) e = expr.Converted conversion e

-- ---- pointers

abbrev pub compatible_if : Bool → Pointees
compatible_if true = Compatible
compatible_if false = Incompatible

abbrev pub layers_compatible : CType-F CType → CType-F CType → Pointees
layers_compatible (CType-F.Pointer qualifier to) (CType-F.Pointer other of) = compatible_if (same_type to of)
layers_compatible left right = Incompatible

-- C11 6.5.9p2, 6.5.15p3: pointers to one type
abbrev pub pointees : CType → CType → Pointees
pointees left right = layers_compatible (out-CType left) (out-CType right)

abbrev pub admits_qualifier : Qualifier → Qualifier → Bool → Pointees
admits_qualifier Unqualified Const same = Incompatible
admits_qualifier target value same = compatible_if same

abbrev pub layer_admits_layer : CType-F CType → CType-F CType → Pointees
layer_admits_layer (CType-F.Pointer qualifier to) (CType-F.Pointer other of) = admits_qualifier qualifier other (same_type to of)
layer_admits_layer target value = Incompatible

-- C11 6.5.16.1p1: `const` may be added to what is pointed to, and not taken away
abbrev pub admits : CType → CType → Pointees
admits target value = layer_admits_layer (out-CType target) (out-CType value)

-- what a pointer points to
abbrev pub layer_pointee : CType-F CType → Option Pointee
layer_pointee (CType-F.Pointer qualifier to) = Some (record { qualifier = qualifier; ctype = to })
layer_pointee other = None

abbrev pub pointee_of : CType → Option Pointee
pointee_of c = layer_pointee (out-CType c)

abbrev pub scalar_of_kind : ValueKind → Option Scalar
scalar_of_kind (kind.Integer t) = Some t
scalar_of_kind other = None

-- the type of an integer
abbrev pub scalar_of : CType → Option Scalar
scalar_of c = scalar_of_kind (kind_of c)

abbrev pub int_type : CType
int_type = ctype.Int S32

-- the type of what an operation gives
abbrev pub combined_ctype : Operation → CType → CType → CType
combined_ctype (operation.Integer op) left right = ctype.Int (left_type op)
combined_ctype (operation.Comparison op t) left right = int_type
combined_ctype (operation.Offset way t) left right = left
combined_ctype (operation.OffsetOnLeft t) left right = right
combined_ctype (operation.Pointers op) left right = int_type

abbrev pub either_qualifier : Qualifier → Qualifier → Qualifier
either_qualifier Unqualified other = other
either_qualifier Const other = Const

abbrev pub chosen_layer : CType → CType → CType-F CType → CType-F CType → CType
chosen_layer second third (CType-F.Pointer qualifier to) (CType-F.Pointer other of) = ctype.Pointer (either_qualifier qualifier other) to
chosen_layer second third (CType-F.Pointer qualifier to) other = second
chosen_layer second third other layer = third

-- C11 6.5.15p5, p6: the type of what "?:" gives
abbrev pub chosen_ctype : ValueKind → CType → CType → CType
chosen_ctype (kind.Integer t) second third = ctype.Int t
chosen_ctype other second third = chosen_layer second third (out-CType second) (out-CType third)

abbrev pub struct_number_of_kind : ValueKind → Option ℕ
struct_number_of_kind (kind.Struct number) = Some number
struct_number_of_kind other = None

abbrev pub struct_number : CType → Option ℕ
struct_number c = struct_number_of_kind (kind_of c)
