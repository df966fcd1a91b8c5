-- The rules that the parts of a typed program keep (C11 6.3 to 6.9), each of them a rule of one production about that node alone.
use Rattle.std.specs.Prelude.{◌≡◌, ◌≢◌, ℕ, ◌⊎◌, Bool, true, false, Option, None, Some, List, [], ◌∷◌, ◌++◌, slice_get, IsSome}
use Rattle.hy_bits.specs.declared.scalar.Scalar.{Scalar}
use Rattle.hy_bits.specs.Scalar.{scalar_width}
use Rattle.hy_bits.specs.Words.{IsWord}
use Rattle.c_meaning.specs.declared.types.CType.{CType}
use Rattle.c_meaning.specs.declared.types.CType.TheVariants as ctype
use Rattle.c_meaning.specs.declared.types.CType.TheOpen.{CType-F}
use Rattle.c_meaning.specs.declared.types.CType.{out-CType}
use Rattle.c_meaning.specs.declared.types.Qualifier.TheVariants.{Unqualified}
use Rattle.c_meaning.specs.declared.types.Member.{Member}
use Rattle.c_meaning.specs.declared.types.Object.{Object}
use Rattle.c_meaning.specs.declared.types.ValueKind.{ValueKind}
use Rattle.c_meaning.specs.declared.types.ValueKind.TheVariants as kind
use Rattle.c_meaning.specs.declared.operators.Conversion.{Conversion}
use Rattle.c_meaning.specs.declared.operators.Conversion.TheVariants as conversion
use Rattle.c_meaning.specs.declared.operators.IntegerOperation.TheVariants as integer
use Rattle.c_meaning.specs.declared.operators.Operation.{Operation}
use Rattle.c_meaning.specs.declared.operators.Operation.TheVariants as operation
use Rattle.c_meaning.specs.declared.expressions.TypedExpr.{TypedExpr}
use Rattle.c_meaning.specs.declared.expressions.TypedExpr.TheVariants as expr
use Rattle.c_meaning.specs.declared.expressions.Lvalue.{Lvalue}
use Rattle.c_meaning.specs.declared.expressions.ChainStep.{ChainStep}
use Rattle.c_meaning.specs.declared.expressions.LogicalOperand.{LogicalOperand}
use Rattle.c_meaning.specs.declared.expressions.Lvalue.TheViews.{out-ChainStep, out-LogicalOperand}
use Rattle.c_meaning.specs.declared.expressions.Lvalue.TheOpen.{Lvalue-F, TypedExpr-F}
use Rattle.c_meaning.specs.declared.expressions.Lvalue.TheFolds.{every-TypedExpr, every-Lvalue}
use Rattle.c_meaning.specs.declared.programs.TypedFunction.{TypedFunction}
use Rattle.c_meaning.specs.Types.{cells_of, struct_cells, kind_of}
use Rattle.c_meaning.specs.Sizes.{promoted}
use Rattle.c_meaning.specs.Constants.{Constant, Word, constant_of}
use Rattle.c_meaning.specs.TypeRules.{Scope, ExprType, Untyped, AnyPointer, Typed, of_scalar, pointee, members_of, type_of, designated_by, combined_type, converted_where}

-- ---- what a type is

abbrev pub IsOfType : Scope → Lvalue → CType → Type 0
IsOfType scope target c = (designated_by scope target).ctype ≡ Some c

-- an integer of the type
abbrev pub IsInteger : Scope → TypedExpr → Scalar → Type 0
IsInteger scope e t = type_of scope e ≡ of_scalar t

abbrev pub is_pointer_type : ExprType → Bool
is_pointer_type Untyped = false
is_pointer_type AnyPointer = true
is_pointer_type (Typed c) = elim (kind_of c) [ kind.Void ↦ false | kind.Integer t ↦ false | kind.Pointer ↦ true | kind.Struct number ↦ false ]

abbrev pub kind_of_type : ExprType → ValueKind
kind_of_type Untyped = kind.Void
kind_of_type AnyPointer = kind.Pointer
kind_of_type (Typed c) = kind_of c

-- C11 6.8.4.1p1, 6.5.13p2: an integer or a pointer
abbrev pub is_scalar_kind : ValueKind → Bool
is_scalar_kind kind.Void = false
is_scalar_kind (kind.Integer t) = true
is_scalar_kind kind.Pointer = true
is_scalar_kind (kind.Struct number) = false

abbrev pub IsCondition : Scope → TypedExpr → Type 0
IsCondition scope e = is_scalar_kind (kind_of_type (type_of scope e)) ≡ true

-- C11 6.5.16.1p1: the same type, or for a pointer a null pointer or one to the same type, to const only where the target is to const
abbrev pub layer_admits : ExprType → CType-F CType → Type 0
layer_admits value (CType-F.Pointer qualifier to) =
    (value ≡ AnyPointer) ⊎ (value ≡ Typed (ctype.Pointer Unqualified to)) ⊎ (value ≡ Typed (ctype.Pointer qualifier to))
layer_admits value (CType-F.Int t) = value ≡ of_scalar t
layer_admits value (CType-F.Struct number) = value ≡ Typed (ctype.Struct number)
layer_admits value (CType-F.Array count element) = ⊥
layer_admits value CType-F.Void = ⊥

abbrev pub IsAssignable : Scope → TypedExpr → CType → Type 0
IsAssignable scope value target = layer_admits (type_of scope value) (out-CType target)

-- C11 6.5.9p2: pointers to one type, or a null pointer
abbrev pub ArePointersAlike : ExprType → ExprType → Type 0
ArePointersAlike left right =
    (is_pointer_type left ≡ true) × (is_pointer_type right ≡ true)
    × ((left ≡ AnyPointer) ⊎ (right ≡ AnyPointer) ⊎ ((pointee left).ctype ≡ (pointee right).ctype))

-- ---- lvalues

abbrev pub IsMember : List Member → ℕ → ℕ → ℕ → Type 0
IsMember members m offset cells = (member : Member) × (slice_get members m ≡ Some member) × (member.offset ≡ offset) × (member.cells ≡ cells)

abbrev pub LvalueFits : Scope → Lvalue-F Lvalue TypedExpr ChainStep LogicalOperand → Type 0
-- C11 6.5.1p2
LvalueFits scope (Lvalue-F.Object place object cells) = (found : Object) × (slice_get scope.objects object ≡ Some found) × (found.cells ≡ cells)
-- C11 6.5.3.2p2
LvalueFits scope (Lvalue-F.Indirection place pointer) = IsSome (pointee (type_of scope pointer)).ctype
-- C11 6.5.2.1p1
LvalueFits scope (Lvalue-F.Subscript place pointer t index) = IsSome (pointee (type_of scope pointer)).ctype × IsInteger scope index t
-- C11 6.5.2.3p1, p2
LvalueFits scope (Lvalue-F.Member place of member offset cells) =
    IsMember (members_of scope.structs (designated_by scope of).ctype) member offset cells
LvalueFits scope (Lvalue-F.Arrow place pointer member offset cells) =
    IsMember (members_of scope.structs (pointee (type_of scope pointer)).ctype) member offset cells

-- ---- expressions

-- C11 6.3.1, 6.3.2.3p3
abbrev pub ConversionFits : Conversion → ExprType → Constant → Type 0
ConversionFits (conversion.Integer from to) operand constant = operand ≡ of_scalar from
ConversionFits conversion.NullPointer operand constant = ((t : Scalar) × (operand ≡ of_scalar t)) × (constant ≡ Word 0)

-- C11 6.5.5p2, 6.5.6p2, p3, 6.5.7p2, 6.5.8p2, 6.5.9p2, 6.5.10p2: the types on both sides
abbrev pub OperationFits : Operation → ExprType → ExprType → Type 0
OperationFits (operation.Integer (integer.Arithmetic op t)) left right = (left ≡ of_scalar t) × (right ≡ of_scalar t) × (promoted t ≡ t)
OperationFits (operation.Integer (integer.Shift op t count)) left right =
    (left ≡ of_scalar t) × (right ≡ of_scalar count) × (promoted t ≡ t) × (promoted count ≡ count)
OperationFits (operation.Comparison op t) left right = (left ≡ of_scalar t) × (right ≡ of_scalar t) × (promoted t ≡ t)
OperationFits (operation.Offset way t) left right = IsSome (pointee left).ctype × (right ≡ of_scalar t)
OperationFits (operation.OffsetOnLeft t) left right = (left ≡ of_scalar t) × IsSome (pointee right).ctype
OperationFits (operation.Pointers op) left right = ArePointersAlike left right

-- what stands on the left of a step, and its word if it is constant
abbrev pub LeftFits : Option Conversion → ExprType → Constant → Type 0
LeftFits None left constant = Unit {0}
LeftFits (Some conversion) left constant = ConversionFits conversion left constant

-- the steps of a chain, by what stands on the left of the first: `before` are the operands and operators up to there
abbrev pub StepsFit : Scope → TypedExpr → List ChainStep → List ChainStep → ExprType → Type 0
StepsFit scope first before [] left = Unit {0}
StepsFit scope first before (step ∷ steps) left =
    let s = out-ChainStep step in
    LeftFits s.left left (constant_of (expr.Chain first before))
    × OperationFits s.operation (converted_where s.left left) (type_of scope s.right)
    × StepsFit scope first (before ++ step ∷ []) steps (combined_type s.operation (converted_where s.left left) (type_of scope s.right))

abbrev pub OperandsAreConditions : Scope → List LogicalOperand → Type 0
OperandsAreConditions scope [] = Unit {0}
OperandsAreConditions scope (operand ∷ operands) = IsCondition scope (out-LogicalOperand operand).operand × OperandsAreConditions scope operands

-- C11 6.5.15p3: integers of one type, or pointers to one type
abbrev pub BranchesFit : Scope → ValueKind → TypedExpr → TypedExpr → Type 0
BranchesFit scope kind.Void second third = ⊥
BranchesFit scope (kind.Integer t) second third = IsInteger scope second t × IsInteger scope third t
BranchesFit scope kind.Pointer second third = ArePointersAlike (type_of scope second) (type_of scope third)
BranchesFit scope (kind.Struct number) second third = ⊥

-- C11 6.5.2.2p2
abbrev pub ArgumentsFit : Scope → List ℕ → List TypedExpr → Type 0
ArgumentsFit scope [] [] = Unit {0}
ArgumentsFit scope [] (argument ∷ arguments) = ⊥
ArgumentsFit scope (k ∷ ks) [] = ⊥
ArgumentsFit scope (k ∷ ks) (argument ∷ arguments) =
    ((object : Object) × (slice_get scope.objects k ≡ Some object) × IsAssignable scope argument object.ctype) × ArgumentsFit scope ks arguments

abbrev pub ExprFits : Scope → TypedExpr-F Lvalue TypedExpr ChainStep LogicalOperand → Type 0
-- C11 6.4.4.1p5
ExprFits scope (TypedExpr-F.Constant place t w) = IsWord (scalar_width t) w
-- C11 6.3.2.1p2
ExprFits scope (TypedExpr-F.Load k from) = (c : CType) × IsOfType scope from c × (kind_of c ≡ k) × (k ≢ kind.Void)
-- C11 6.3.2.1p3
ExprFits scope (TypedExpr-F.Decay cells count from) =
    (element : CType) × IsOfType scope from (ctype.Array count element) × (cells_of (struct_cells scope.structs) element ≡ cells)
-- C11 6.5.3.2p1; no pointer points to a pointer
ExprFits scope (TypedExpr-F.Address place of) = (c : CType) × IsOfType scope of c × (kind_of c ≢ kind.Pointer)
ExprFits scope (TypedExpr-F.Converted conversion operand) = ConversionFits conversion (type_of scope operand) (constant_of operand)
-- C11 6.5.4p2
ExprFits scope (TypedExpr-F.Cast place from to operand) = IsInteger scope operand from
-- C11 6.5.3.3p1
ExprFits scope (TypedExpr-F.Unary place sign t operand) = IsInteger scope operand t × (promoted t ≡ t)
ExprFits scope (TypedExpr-F.Not place k operand) = IsCondition scope operand × (kind_of_type (type_of scope operand) ≡ k)
ExprFits scope (TypedExpr-F.Chain first steps) = (steps ≢ []) × StepsFit scope first [] steps (type_of scope first)
ExprFits scope (TypedExpr-F.LogicalAnd first rest) = (rest ≢ []) × IsCondition scope first × OperandsAreConditions scope rest
ExprFits scope (TypedExpr-F.LogicalOr first rest) = (rest ≢ []) × IsCondition scope first × OperandsAreConditions scope rest
ExprFits scope (TypedExpr-F.Conditional condition place k second third) = IsCondition scope condition × BranchesFit scope k second third
ExprFits scope (TypedExpr-F.Call place function k arguments) =
    (f : TypedFunction) × (slice_get scope.functions function ≡ Some f) × (kind_of f.result ≡ k) × ArgumentsFit scope f.params arguments

-- ---- whole expressions

abbrev pub IsTypedExpr : Scope → TypedExpr → Type 0
IsTypedExpr scope = every-TypedExpr (LvalueFits scope) (ExprFits scope) (λ step. Unit {0}) (λ operand. Unit {0})

abbrev pub IsTypedLvalue : Scope → Lvalue → Type 0
IsTypedLvalue scope = every-Lvalue (LvalueFits scope) (ExprFits scope) (λ step. Unit {0}) (λ operand. Unit {0})
