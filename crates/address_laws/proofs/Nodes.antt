-- The objects whose addresses a typed node takes, by those of its parts.
use Rattle.std.proofs.Common.{◌≡◌, ◌++◌, ℕ, List, [], ◌∷◌, map, ap, sym, ◌∙◌}
use Rattle.hy_bits.specs.declared.scalar.Scalar.{Scalar}
use Rattle.c_tree.specs.declared.token.Place.{Place}
use Rattle.c_meaning.specs.declared.types.ValueKind.{ValueKind}
use Rattle.c_meaning.specs.declared.operators.ArithmeticSign.{ArithmeticSign}
use Rattle.c_meaning.specs.declared.operators.Conversion.{Conversion}
use Rattle.c_meaning.specs.declared.operators.Operation.{Operation}
use Rattle.c_meaning.specs.declared.expressions.TypedExpr.{TypedExpr}
use Rattle.c_meaning.specs.declared.expressions.TypedExpr.TheVariants as expr
use Rattle.c_meaning.specs.declared.expressions.Lvalue.{Lvalue}
use Rattle.c_meaning.specs.declared.expressions.Lvalue.TheVariants as lvalue
use Rattle.c_meaning.specs.declared.expressions.ChainStep.{ChainStep}
use Rattle.c_meaning.specs.declared.expressions.LogicalOperand.{LogicalOperand}
use Rattle.c_meaning.specs.declared.expressions.Lvalue.TheOpen.{Lvalue-F, TypedExpr-F, ChainStep-F, LogicalOperand-F}
use Rattle.c_meaning.specs.declared.expressions.Lvalue.TheViews.{roll-ChainStep, roll-LogicalOperand}
use Rattle.c_meaning.specs.declared.expressions.Lvalue.TheFolds as T
use Rattle.c_meaning.specs.Uses.{Taken, Numbers, lvalue_takes, expr_takes, step_takes, operand_takes, taken_in, taken_by_lvalue, all_of}
use Rattle.c_typing.specs.declared.values.TypedValue.{TypedValue}
use Rattle.c_typing.specs.Expressions.{logical_operand}
use Rattle.address_laws.specs.Taking.{lvalue_taken, step_taken, operand_taken}

pub at-constant : (place : Place) (t : Scalar) (w : ℕ) → taken_in (expr.Constant place t w) ≡ []
at-constant place t w = ap taken_in (sym (expr.rolls-Constant place t w)) ∙ T.fold-roll-TypedExpr Taken Numbers Numbers Numbers lvalue_takes expr_takes step_takes operand_takes (TypedExpr-F.Constant place t w)

pub at-load : (k : ValueKind) (from : Lvalue) → taken_in (expr.Load k from) ≡ taken_by_lvalue from
at-load k from = ap taken_in (sym (expr.rolls-Load k from)) ∙ T.fold-roll-TypedExpr Taken Numbers Numbers Numbers lvalue_takes expr_takes step_takes operand_takes (TypedExpr-F.Load k from)

pub at-decay : (cells : ℕ) (count : ℕ) (from : Lvalue) → taken_in (expr.Decay cells count from) ≡ taken_by_lvalue from
at-decay cells count from = ap taken_in (sym (expr.rolls-Decay cells count from)) ∙ T.fold-roll-TypedExpr Taken Numbers Numbers Numbers lvalue_takes expr_takes step_takes operand_takes (TypedExpr-F.Decay cells count from)

pub at-address : (place : Place) (of : Lvalue) → taken_in (expr.Address place of) ≡ (lvalue_taken of).named ++ taken_by_lvalue of
at-address place of = ap taken_in (sym (expr.rolls-Address place of)) ∙ T.fold-roll-TypedExpr Taken Numbers Numbers Numbers lvalue_takes expr_takes step_takes operand_takes (TypedExpr-F.Address place of)

pub at-converted : (conversion : Conversion) (operand : TypedExpr) → taken_in (expr.Converted conversion operand) ≡ taken_in operand
at-converted conversion operand = ap taken_in (sym (expr.rolls-Converted conversion operand)) ∙ T.fold-roll-TypedExpr Taken Numbers Numbers Numbers lvalue_takes expr_takes step_takes operand_takes (TypedExpr-F.Converted conversion operand)

pub at-cast : (place : Place) (one : Scalar) (two : Scalar) (operand : TypedExpr) → taken_in (expr.Cast place one two operand) ≡ taken_in operand
at-cast place one two operand = ap taken_in (sym (expr.rolls-Cast place one two operand)) ∙ T.fold-roll-TypedExpr Taken Numbers Numbers Numbers lvalue_takes expr_takes step_takes operand_takes (TypedExpr-F.Cast place one two operand)

pub at-unary : (place : Place) (sign : ArithmeticSign) (t : Scalar) (operand : TypedExpr) → taken_in (expr.Unary place sign t operand) ≡ taken_in operand
at-unary place sign t operand = ap taken_in (sym (expr.rolls-Unary place sign t operand)) ∙ T.fold-roll-TypedExpr Taken Numbers Numbers Numbers lvalue_takes expr_takes step_takes operand_takes (TypedExpr-F.Unary place sign t operand)

pub at-not : (place : Place) (k : ValueKind) (operand : TypedExpr) → taken_in (expr.Not place k operand) ≡ taken_in operand
at-not place k operand = ap taken_in (sym (expr.rolls-Not place k operand)) ∙ T.fold-roll-TypedExpr Taken Numbers Numbers Numbers lvalue_takes expr_takes step_takes operand_takes (TypedExpr-F.Not place k operand)

pub at-chain : (first : TypedExpr) (steps : List ChainStep) → taken_in (expr.Chain first steps) ≡ taken_in first ++ all_of (map step_taken steps)
at-chain first steps = ap taken_in (sym (expr.rolls-Chain first steps)) ∙ T.fold-roll-TypedExpr Taken Numbers Numbers Numbers lvalue_takes expr_takes step_takes operand_takes (TypedExpr-F.Chain first steps)

pub at-and : (first : TypedExpr) (rest : List LogicalOperand) → taken_in (expr.LogicalAnd first rest) ≡ taken_in first ++ all_of (map operand_taken rest)
at-and first rest = ap taken_in (sym (expr.rolls-LogicalAnd first rest)) ∙ T.fold-roll-TypedExpr Taken Numbers Numbers Numbers lvalue_takes expr_takes step_takes operand_takes (TypedExpr-F.LogicalAnd first rest)

pub at-or : (first : TypedExpr) (rest : List LogicalOperand) → taken_in (expr.LogicalOr first rest) ≡ taken_in first ++ all_of (map operand_taken rest)
at-or first rest = ap taken_in (sym (expr.rolls-LogicalOr first rest)) ∙ T.fold-roll-TypedExpr Taken Numbers Numbers Numbers lvalue_takes expr_takes step_takes operand_takes (TypedExpr-F.LogicalOr first rest)

pub at-conditional : (condition : TypedExpr) (place : Place) (k : ValueKind) (second : TypedExpr) (third : TypedExpr) → taken_in (expr.Conditional condition place k second third) ≡ taken_in condition ++ taken_in second ++ taken_in third
at-conditional condition place k second third = ap taken_in (sym (expr.rolls-Conditional condition place k second third)) ∙ T.fold-roll-TypedExpr Taken Numbers Numbers Numbers lvalue_takes expr_takes step_takes operand_takes (TypedExpr-F.Conditional condition place k second third)

pub at-call : (place : Place) (function : ℕ) (k : ValueKind) (arguments : List TypedExpr) → taken_in (expr.Call place function k arguments) ≡ all_of (map taken_in arguments)
at-call place function k arguments = ap taken_in (sym (expr.rolls-Call place function k arguments)) ∙ T.fold-roll-TypedExpr Taken Numbers Numbers Numbers lvalue_takes expr_takes step_takes operand_takes (TypedExpr-F.Call place function k arguments)

pub at-object : (place : Place) (object : ℕ) (cells : ℕ) → lvalue_taken (lvalue.Object place object cells) ≡ record { named = object ∷ []; taken = [] }
at-object place object cells = ap lvalue_taken (sym (lvalue.rolls-Object place object cells)) ∙ T.fold-roll-Lvalue Taken Numbers Numbers Numbers lvalue_takes expr_takes step_takes operand_takes (Lvalue-F.Object place object cells)

pub at-indirection : (place : Place) (pointer : TypedExpr) → lvalue_taken (lvalue.Indirection place pointer) ≡ record { named = []; taken = taken_in pointer }
at-indirection place pointer = ap lvalue_taken (sym (lvalue.rolls-Indirection place pointer)) ∙ T.fold-roll-Lvalue Taken Numbers Numbers Numbers lvalue_takes expr_takes step_takes operand_takes (Lvalue-F.Indirection place pointer)

pub at-subscript : (place : Place) (pointer : TypedExpr) (t : Scalar) (index : TypedExpr) → lvalue_taken (lvalue.Subscript place pointer t index) ≡ record { named = []; taken = taken_in pointer ++ taken_in index }
at-subscript place pointer t index = ap lvalue_taken (sym (lvalue.rolls-Subscript place pointer t index)) ∙ T.fold-roll-Lvalue Taken Numbers Numbers Numbers lvalue_takes expr_takes step_takes operand_takes (Lvalue-F.Subscript place pointer t index)

pub at-member : (place : Place) (of : Lvalue) (member : ℕ) (offset : ℕ) (cells : ℕ) → lvalue_taken (lvalue.Member place of member offset cells) ≡ record { named = []; taken = taken_by_lvalue of }
at-member place of member offset cells = ap lvalue_taken (sym (lvalue.rolls-Member place of member offset cells)) ∙ T.fold-roll-Lvalue Taken Numbers Numbers Numbers lvalue_takes expr_takes step_takes operand_takes (Lvalue-F.Member place of member offset cells)

pub at-arrow : (place : Place) (pointer : TypedExpr) (member : ℕ) (offset : ℕ) (cells : ℕ) → lvalue_taken (lvalue.Arrow place pointer member offset cells) ≡ record { named = []; taken = taken_in pointer }
at-arrow place pointer member offset cells = ap lvalue_taken (sym (lvalue.rolls-Arrow place pointer member offset cells)) ∙ T.fold-roll-Lvalue Taken Numbers Numbers Numbers lvalue_takes expr_takes step_takes operand_takes (Lvalue-F.Arrow place pointer member offset cells)

pub at-step : (y : ChainStep-F Lvalue TypedExpr ChainStep LogicalOperand) → step_taken (roll-ChainStep y) ≡ taken_in y.right
at-step y = T.fold-roll-ChainStep Taken Numbers Numbers Numbers lvalue_takes expr_takes step_takes operand_takes y

pub at-operand : (place : Place) (value : TypedValue) → operand_taken (logical_operand place value) ≡ taken_in value.expr
at-operand place value = T.fold-roll-LogicalOperand Taken Numbers Numbers Numbers lvalue_takes expr_takes step_takes operand_takes (record { place = place; operand = value.expr })
