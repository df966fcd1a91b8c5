-- The types of expressions, and the rules that a typed program keeps (C11 6.3 to 6.8), each of them a rule of one production.
use Rattle.std.specs.Prelude.{ℕ, Option, None, Some, List, [], ◌∷◌, slice_get}
use Rattle.hy_bits.specs.declared.scalar.Scalar.{Scalar}
use Rattle.hy_bits.specs.declared.scalar.Scalar.TheVariants.{S32}
use Rattle.c_meaning.specs.declared.types.CType.{CType, out-CType}
use Rattle.c_meaning.specs.declared.types.CType.TheVariants as ctype
use Rattle.c_meaning.specs.declared.types.CType.TheOpen.{CType-F}
use Rattle.c_meaning.specs.declared.types.Qualifier.{Qualifier}
use Rattle.c_meaning.specs.declared.types.Qualifier.TheVariants.{Unqualified, Const}
use Rattle.c_meaning.specs.declared.types.Member.{Member}
use Rattle.c_meaning.specs.declared.types.StructType.{StructType}
use Rattle.c_meaning.specs.declared.types.Object.{Object}
use Rattle.c_meaning.specs.declared.operators.Conversion.{Conversion}
use Rattle.c_meaning.specs.declared.operators.Conversion.TheVariants as conversion
use Rattle.c_meaning.specs.declared.operators.Operation.{Operation}
use Rattle.c_meaning.specs.declared.operators.Operation.TheVariants as operation
use Rattle.c_meaning.specs.declared.expressions.TypedExpr.{TypedExpr}
use Rattle.c_meaning.specs.declared.expressions.Lvalue.{Lvalue}
use Rattle.c_meaning.specs.declared.expressions.Lvalue.TheOpen.{Lvalue-F, TypedExpr-F, ChainStep-F, LogicalOperand-F}
use Rattle.c_meaning.specs.declared.expressions.Lvalue.TheFolds.{fold-TypedExpr, fold-Lvalue}
use Rattle.c_meaning.specs.declared.programs.TypedFunction.{TypedFunction}
use Rattle.c_meaning.specs.Operations.{left_type}

-- ---- what names stand for

-- structs and objects by their numbers, and the functions that stand before
pub record Scope : Type 0 where
  pub structs : List StructType
  pub objects : List Object
  pub functions : List TypedFunction

-- ---- the types of lvalues and of expressions

-- what an lvalue designates: its type, and whether it is const
pub record Designated : Type 0 where
  pub ctype : Option CType
  pub qualifier : Qualifier

-- the type of an expression. A null pointer constant that was converted has the type of any pointer
pub data ExprType : Type 0 where
  Untyped : ExprType
  AnyPointer : ExprType
  Typed : CType → ExprType

abbrev pub of_scalar : Scalar → ExprType
of_scalar t = Typed (ctype.Int t)

abbrev pub nowhere : Designated
nowhere = record { ctype = None; qualifier = Unqualified }

abbrev pub object_designated : Option Object → Designated
object_designated None = nowhere
object_designated (Some object) = record { ctype = Some object.ctype; qualifier = object.qualifier }

abbrev pub layer_pointee : CType-F CType → Designated
layer_pointee (CType-F.Pointer qualifier to) = record { ctype = Some to; qualifier = qualifier }
layer_pointee other = nowhere

-- what a pointer of the type points to
abbrev pub pointee : ExprType → Designated
pointee Untyped = nowhere
pointee AnyPointer = nowhere
pointee (Typed c) = layer_pointee (out-CType c)

abbrev pub layer_members : List StructType → CType-F CType → List Member
layer_members structs (CType-F.Struct number) = elim (slice_get structs number) [ None ↦ [] | Some s ↦ s.members ]
layer_members structs other = []

abbrev pub members_of : List StructType → Option CType → List Member
members_of structs None = []
members_of structs (Some c) = layer_members structs (out-CType c)

abbrev pub member_designated : Qualifier → Option Member → Designated
member_designated qualifier None = nowhere
member_designated qualifier (Some member) = record { ctype = Some member.ctype; qualifier = qualifier }

-- a member is const where its struct is
abbrev pub member_in : List StructType → Designated → ℕ → Designated
member_in structs of m = member_designated of.qualifier (slice_get (members_of structs of.ctype) m)

abbrev pub loaded : Option CType → ExprType
loaded None = Untyped
loaded (Some c) = Typed c

abbrev pub layer_decayed : Qualifier → CType-F CType → ExprType
layer_decayed qualifier (CType-F.Array count element) = Typed (ctype.Pointer qualifier element)
layer_decayed qualifier other = Untyped

abbrev pub decayed_as : Qualifier → Option CType → ExprType
decayed_as qualifier None = Untyped
decayed_as qualifier (Some c) = layer_decayed qualifier (out-CType c)

-- a pointer to it, to const where it is const
abbrev pub pointer_at : Qualifier → Option CType → ExprType
pointer_at qualifier None = Untyped
pointer_at qualifier (Some c) = Typed (ctype.Pointer qualifier c)

abbrev pub either_const : Qualifier → Qualifier → Qualifier
either_const Unqualified second = second
either_const Const second = Const

abbrev pub layer_with : Qualifier → CType → CType-F CType → ExprType
layer_with qualifier c (CType-F.Pointer own to) = Typed (ctype.Pointer (either_const own qualifier) to)
layer_with qualifier c other = Typed c

-- the type, and where it is a pointer, to const also where the qualifier says so
abbrev pub with_qualifier : Qualifier → ExprType → ExprType
with_qualifier qualifier Untyped = Untyped
with_qualifier qualifier AnyPointer = AnyPointer
with_qualifier qualifier (Typed c) = layer_with qualifier c (out-CType c)

-- C11 6.5.15p6: the second type, or where that is of a null pointer constant the third; const where either is
abbrev pub chosen_type : ExprType → ExprType → ExprType
chosen_type Untyped third = Untyped
chosen_type AnyPointer third = third
chosen_type (Typed c) third = with_qualifier (pointee third).qualifier (Typed c)

abbrev pub returned_type : Option TypedFunction → ExprType
returned_type None = Untyped
returned_type (Some f) = Typed f.result

abbrev pub converted_type : Conversion → ExprType
converted_type (conversion.Integer from to) = of_scalar to
converted_type conversion.NullPointer = AnyPointer

-- of an operator's result, by what stands on its left and on its right
abbrev pub combined_type : Operation → ExprType → ExprType → ExprType
combined_type (operation.Integer op) left right = of_scalar (left_type op)
combined_type (operation.Comparison op t) left right = of_scalar S32
combined_type (operation.Offset way t) left right = left
combined_type (operation.OffsetOnLeft t) left right = right
combined_type (operation.Pointers op) left right = of_scalar S32

abbrev pub StepType : Type 0
StepType = ExprType → ExprType

abbrev pub along_types : List StepType → ExprType → ExprType
along_types [] left = left
along_types (step ∷ steps) left = along_types steps (step left)

abbrev pub lvalue_type_rule : Scope → Lvalue-F Designated ExprType StepType ExprType → Designated
lvalue_type_rule scope (Lvalue-F.Object place object cells) = object_designated (slice_get scope.objects object)
lvalue_type_rule scope (Lvalue-F.Indirection place pointer) = pointee pointer
lvalue_type_rule scope (Lvalue-F.Subscript place pointer t index) = pointee pointer
lvalue_type_rule scope (Lvalue-F.Member place of member offset cells) = member_in scope.structs of member
lvalue_type_rule scope (Lvalue-F.Arrow place pointer member offset cells) = member_in scope.structs (pointee pointer) member

abbrev pub expr_type_rule : Scope → TypedExpr-F Designated ExprType StepType ExprType → ExprType
expr_type_rule scope (TypedExpr-F.Constant place t w) = of_scalar t
expr_type_rule scope (TypedExpr-F.Load k from) = loaded from.ctype
expr_type_rule scope (TypedExpr-F.Decay cells count from) = decayed_as from.qualifier from.ctype
expr_type_rule scope (TypedExpr-F.Address place of) = pointer_at of.qualifier of.ctype
expr_type_rule scope (TypedExpr-F.Converted conversion operand) = converted_type conversion
expr_type_rule scope (TypedExpr-F.Cast place from to operand) = of_scalar to
expr_type_rule scope (TypedExpr-F.Unary place sign t operand) = of_scalar t
expr_type_rule scope (TypedExpr-F.Not place k operand) = of_scalar S32
expr_type_rule scope (TypedExpr-F.Chain first steps) = along_types steps first
expr_type_rule scope (TypedExpr-F.LogicalAnd first rest) = of_scalar S32
expr_type_rule scope (TypedExpr-F.LogicalOr first rest) = of_scalar S32
expr_type_rule scope (TypedExpr-F.Conditional condition place k second third) = chosen_type second third
expr_type_rule scope (TypedExpr-F.Call place function k arguments) = returned_type (slice_get scope.functions function)

abbrev pub converted_where : Option Conversion → ExprType → ExprType
converted_where None left = left
converted_where (Some conversion) left = converted_type conversion

abbrev pub step_type_rule : ChainStep-F Designated ExprType StepType ExprType → StepType
step_type_rule step left = combined_type step.operation (converted_where step.left left) step.right

abbrev pub operand_type_rule : LogicalOperand-F Designated ExprType StepType ExprType → ExprType
operand_type_rule operand = operand.operand

abbrev pub type_of : Scope → TypedExpr → ExprType
type_of scope = fold-TypedExpr Designated ExprType StepType ExprType (lvalue_type_rule scope) (expr_type_rule scope) step_type_rule operand_type_rule

abbrev pub designated_by : Scope → Lvalue → Designated
designated_by scope = fold-Lvalue Designated ExprType StepType ExprType (lvalue_type_rule scope) (expr_type_rule scope) step_type_rule operand_type_rule
