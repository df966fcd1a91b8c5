use Rattle.std.proofs.Common.{◌≡◌, ◌∙◌, ℕ, List, map, ap, ◌&&◌, Bool, if◌then◌else◌}
use Rattle.c_meaning.specs.declared.expressions.TypedExpr.{TypedExpr}
use Rattle.c_meaning.specs.declared.expressions.ChainStep.{ChainStep}
use Rattle.c_meaning.specs.declared.expressions.LogicalOperand.{LogicalOperand}
use Rattle.hy_bits.specs.Scalar.{scalar_width}
use Rattle.c_meaning.specs.Sizes.{nothing, access, total, ExprSize, arguments_size, gates_alone, sign_gates, function_at}
use Rattle.c_meaning.specs.SizeFolds.{size_of_expr}
use Rattle.c_meaning.specs.declared.types.ValueKind.{ValueKind}
use Rattle.c_sizes.specs.declared.totals.Totals.{Totals}
use Rattle.c_sizes.specs.Totals.{totals_of, joined}
use Rattle.c_sizes.specs.Views.{measure_as, kinds_as, size_of_step, size_of_operand}
use Rattle.c_sizes.proofs.Saturation.{joined_as, both_as, third_as, called_as}
use Rattle.c_sizes.proofs.Sums.{parts_more, all_more, arguments_more}
use Rattle.c_sizes.proofs.Laws.{expr_by, lvalue_by, step_by, size_Converted, size_Cast, size_Unary, size_Not, size_Chain, size_LogicalAnd, size_LogicalOr, size_Conditional, size_Call, place_Indirection, place_Subscript, place_Arrow}
use Rattle.c_sizes.proofs.expressions.+expressions.Goals as goal

pub locate-returns-in-Indirection-clause-total : goal.locate-returns-in-Indirection-clause-total
locate-returns-in-Indirection-clause-total t c =
    c.plus.ensures ∙ joined_as _ _ _ _ _ (c.measure.ensures.total ∙ ap (λ (x : TypedExpr). totals_of ((size_of_expr (measure_as c.args.m.now) x).size c.args.counters.now)) c.get.ensures) c.access.ensures (lvalue_by (measure_as c.args.m.now) c.args.counters.now c.args.lvalue.now _ _ c.in-Indirection.is (place_Indirection (measure_as c.args.m.now) _ _))

pub locate-returns-in-Arrow-clause-total : goal.locate-returns-in-Arrow-clause-total
locate-returns-in-Arrow-clause-total t c =
    c.plus-in-Arrow.ensures ∙ joined_as _ _ _ _ _ (c.measure-in-Arrow.ensures.total ∙ ap (λ (x : TypedExpr). totals_of ((size_of_expr (measure_as c.args.m.now) x).size c.args.counters.now)) c.get-in-Arrow.ensures) c.access-in-Arrow.ensures (lvalue_by (measure_as c.args.m.now) c.args.counters.now c.args.lvalue.now _ _ c.in-Arrow.is (place_Arrow (measure_as c.args.m.now) _ _ _ _ _))

pub locate-returns-in-Subscript-clause-total : goal.locate-returns-in-Subscript-clause-total
locate-returns-in-Subscript-clause-total t c =
    let number : c.measure-index.result.is_number ≡ (size_of_expr (measure_as c.args.m.now) c.in-Subscript.index).is_number c.args.counters.now = c.measure-index.ensures.number ∙ ap (λ (x : TypedExpr). (size_of_expr (measure_as c.args.m.now) x).is_number c.args.counters.now) c.get-in-Subscript-2.ensures in
    let row : c.measure-pointer.result.is_row ≡ (size_of_expr (measure_as c.args.m.now) c.in-Subscript.pointer).is_row c.args.counters.now = c.measure-pointer.ensures.row ∙ ap (λ (x : TypedExpr). (size_of_expr (measure_as c.args.m.now) x).is_row c.args.counters.now) c.get-in-Subscript.ensures in
    let cost : totals_of (if c.measure-index.result.is_number && c.measure-pointer.result.is_row then nothing else access (measure_as c.args.m.now)) ≡ totals_of (if (size_of_expr (measure_as c.args.m.now) c.in-Subscript.index).is_number c.args.counters.now && (size_of_expr (measure_as c.args.m.now) c.in-Subscript.pointer).is_row c.args.counters.now then nothing else access (measure_as c.args.m.now)) =
    ap (λ (b : Bool). totals_of (if b && c.measure-pointer.result.is_row then nothing else access (measure_as c.args.m.now))) number
    ∙ ap (λ (b : Bool). totals_of (if (size_of_expr (measure_as c.args.m.now) c.in-Subscript.index).is_number c.args.counters.now && b then nothing else access (measure_as c.args.m.now))) row in
    c.subscript.ensures.total ∙ called_as _ _ _ _ _ _ _ (c.measure-pointer.ensures.total ∙ ap (λ (x : TypedExpr). totals_of ((size_of_expr (measure_as c.args.m.now) x).size c.args.counters.now)) c.get-in-Subscript.ensures) (c.measure-index.ensures.total ∙ ap (λ (x : TypedExpr). totals_of ((size_of_expr (measure_as c.args.m.now) x).size c.args.counters.now)) c.get-in-Subscript-2.ensures) cost (lvalue_by (measure_as c.args.m.now) c.args.counters.now c.args.lvalue.now _ _ c.in-Subscript.is (place_Subscript (measure_as c.args.m.now) _ _ _ _))

pub measure-returns-in-Converted-clause-total : goal.measure-returns-in-Converted-clause-total
measure-returns-in-Converted-clause-total t c =
    c.with_cost.ensures.total ∙ joined_as _ _ _ _ _ (c.measure.ensures.total ∙ ap (λ (x : TypedExpr). totals_of ((size_of_expr (measure_as c.args.m.now) x).size c.args.counters.now)) c.get-in-Converted.ensures) c.nothing.ensures (expr_by (measure_as c.args.m.now) c.args.counters.now c.args.expr.now _ _ c.in-Converted.is (size_Converted (measure_as c.args.m.now) _ _))

pub measure-returns-in-Cast-clause-total : goal.measure-returns-in-Cast-clause-total
measure-returns-in-Cast-clause-total t c =
    c.with_cost-in-Cast.ensures.total ∙ joined_as _ _ _ _ _ (c.measure-in-Cast.ensures.total ∙ ap (λ (x : TypedExpr). totals_of ((size_of_expr (measure_as c.args.m.now) x).size c.args.counters.now)) c.get-in-Cast.ensures) c.nothing-in-Cast.ensures (expr_by (measure_as c.args.m.now) c.args.counters.now c.args.expr.now _ _ c.in-Cast.is (size_Cast (measure_as c.args.m.now) _ _ _ _))

pub measure-returns-in-Unary-clause-total : goal.measure-returns-in-Unary-clause-total
measure-returns-in-Unary-clause-total t c =
    let cost : c.gates_alone-cost.result ≡ totals_of (gates_alone (sign_gates c.in-Unary.operator (scalar_width c.in-Unary.scalar))) = c.gates_alone-cost.ensures ∙ ap (λ (n : ℕ). totals_of (gates_alone n)) (c.sign_gates.ensures ∙ ap (sign_gates c.in-Unary.operator) c.width.ensures) in
    c.with_cost-in-Unary.ensures.total ∙ joined_as _ _ _ _ _ (c.measure-in-Unary.ensures.total ∙ ap (λ (x : TypedExpr). totals_of ((size_of_expr (measure_as c.args.m.now) x).size c.args.counters.now)) c.get-in-Unary.ensures) cost (expr_by (measure_as c.args.m.now) c.args.counters.now c.args.expr.now _ _ c.in-Unary.is (size_Unary (measure_as c.args.m.now) _ _ _ _))

pub measure-returns-in-Not-clause-total : goal.measure-returns-in-Not-clause-total
measure-returns-in-Not-clause-total t c =
    c.with_cost-in-Not.ensures.total ∙ joined_as _ _ _ _ _ (c.measure-in-Not.ensures.total ∙ ap (λ (x : TypedExpr). totals_of ((size_of_expr (measure_as c.args.m.now) x).size c.args.counters.now)) c.get-in-Not.ensures) c.not_cost.ensures (expr_by (measure_as c.args.m.now) c.args.counters.now c.args.expr.now _ _ c.in-Not.is (size_Not (measure_as c.args.m.now) _ _ _))

pub measure-returns-in-Chain-clause-total : goal.measure-returns-in-Chain-clause-total
measure-returns-in-Chain-clause-total t c =
    c.both.ensures.total ∙ both_as _ _ _ _ _ (c.measure-first.ensures.total ∙ ap (λ (x : TypedExpr). totals_of ((size_of_expr (measure_as c.args.m.now) x).size c.args.counters.now)) c.get-in-Chain.ensures) (c.steps_measured.ensures.total ∙ ap (λ (xs : List ChainStep). totals_of (total (map (λ (e : ExprSize). e.size c.args.counters.now) (map (size_of_step (measure_as c.args.m.now)) xs)))) c.as_slice.ensures) (expr_by (measure_as c.args.m.now) c.args.counters.now c.args.expr.now _ _ c.in-Chain.is (size_Chain (measure_as c.args.m.now) _ _))

pub measure-returns-in-LogicalAnd-clause-total : goal.measure-returns-in-LogicalAnd-clause-total
measure-returns-in-LogicalAnd-clause-total t c =
    c.both-in-LogicalAnd.ensures.total ∙ both_as _ _ _ _ _ (c.measure-first-in-LogicalAnd.ensures.total ∙ ap (λ (x : TypedExpr). totals_of ((size_of_expr (measure_as c.args.m.now) x).size c.args.counters.now)) c.get-in-LogicalAnd.ensures) (c.operands_measured.ensures.total ∙ ap (λ (xs : List LogicalOperand). totals_of (total (map (λ (e : ExprSize). e.size c.args.counters.now) (map (size_of_operand (measure_as c.args.m.now)) xs)))) c.as_slice-in-LogicalAnd.ensures) (expr_by (measure_as c.args.m.now) c.args.counters.now c.args.expr.now _ _ c.in-LogicalAnd.is (size_LogicalAnd (measure_as c.args.m.now) _ _))

pub measure-returns-in-LogicalOr-clause-total : goal.measure-returns-in-LogicalOr-clause-total
measure-returns-in-LogicalOr-clause-total t c =
    c.both-in-LogicalOr.ensures.total ∙ both_as _ _ _ _ _ (c.measure-first-in-LogicalOr.ensures.total ∙ ap (λ (x : TypedExpr). totals_of ((size_of_expr (measure_as c.args.m.now) x).size c.args.counters.now)) c.get-in-LogicalOr.ensures) (c.operands_measured-in-LogicalOr.ensures.total ∙ ap (λ (xs : List LogicalOperand). totals_of (total (map (λ (e : ExprSize). e.size c.args.counters.now) (map (size_of_operand (measure_as c.args.m.now)) xs)))) c.as_slice-in-LogicalOr.ensures) (expr_by (measure_as c.args.m.now) c.args.counters.now c.args.expr.now _ _ c.in-LogicalOr.is (size_LogicalOr (measure_as c.args.m.now) _ _))

pub measure-returns-in-Conditional-clause-total : goal.measure-returns-in-Conditional-clause-total
measure-returns-in-Conditional-clause-total t c =
    c.conditional.ensures.total ∙ third_as _ _ _ _ _ _ _ _ _ (c.measure-condition.ensures.total ∙ ap (λ (x : TypedExpr). totals_of ((size_of_expr (measure_as c.args.m.now) x).size c.args.counters.now)) c.get-in-Conditional.ensures) (c.measure-second.ensures.total ∙ ap (λ (x : TypedExpr). totals_of ((size_of_expr (measure_as c.args.m.now) x).size c.args.counters.now)) c.get-in-Conditional-2.ensures) (c.measure-third.ensures.total ∙ ap (λ (x : TypedExpr). totals_of ((size_of_expr (measure_as c.args.m.now) x).size c.args.counters.now)) c.get-in-Conditional-3.ensures) c.moved_size.ensures (expr_by (measure_as c.args.m.now) c.args.counters.now c.args.expr.now _ _ c.in-Conditional.is (size_Conditional (measure_as c.args.m.now) _ _ _ _ _))

pub measure-returns-in-Call-clause-total : goal.measure-returns-in-Call-clause-total
measure-returns-in-Call-clause-total t c =
    let arguments : c.arguments_size.result ≡ totals_of (arguments_size (measure_as c.args.m.now) (function_at (measure_as c.args.m.now) c.in-Call.function).parameters (map (size_of_expr (measure_as c.args.m.now)) c.in-Call.arguments) c.args.counters.now) =
    c.arguments_size.ensures
    ∙ ap (λ (kinds : List ValueKind). totals_of (arguments_size (measure_as c.args.m.now) kinds (map (size_of_expr (measure_as c.args.m.now)) c.as_slice-in-Call.result.now) c.args.counters.now)) c.parameters-params.ensures
    ∙ ap (λ (xs : List TypedExpr). totals_of (arguments_size (measure_as c.args.m.now) (function_at (measure_as c.args.m.now) c.in-Call.function).parameters (map (size_of_expr (measure_as c.args.m.now)) xs) c.args.counters.now)) c.as_slice-in-Call.ensures in
    c.plain-in-Call.ensures.total ∙ c.plus.ensures ∙ ap (λ (t : Totals). joined t c.arguments_size.result) c.plus-called.ensures ∙ called_as _ _ _ _ _ _ _ c.branch-m.ensures c.function_size.ensures arguments (expr_by (measure_as c.args.m.now) c.args.counters.now c.args.expr.now _ _ c.in-Call.is (size_Call (measure_as c.args.m.now) _ _ _ _))

pub step_measured-returns-clause-total : goal.step_measured-returns-clause-total
step_measured-returns-clause-total t c =
    c.with_cost.ensures.total ∙ joined_as _ _ _ _ _ c.measure.ensures.total c.operation_cost.ensures (step_by (measure_as c.args.m.now) c.args.step.now c.args.counters.now)

pub steps_measured-loop-step-preserved : goal.steps_measured-loop-step-preserved
steps_measured-loop-step-preserved t c =
    record {
      total = c.both-all.ensures.total ∙ parts_more (size_of_step (measure_as c.args.m.now)) (λ (e : ExprSize). e.size c.args.counters.now) c.args.steps.now c.loop-step.step-index c.step-item.result c.loop-step.all.total c.step_measured.result.total c.loop-step-test.true c.step-item.is c.loop-step.invariant.total c.step_measured.ensures.total;
      number = c.both-all.ensures.number ∙ all_more (size_of_step (measure_as c.args.m.now)) (λ (e : ExprSize). e.is_number c.args.counters.now) c.args.steps.now c.loop-step.step-index c.step-item.result c.loop-step.all.is_number c.step_measured.result.is_number c.loop-step-test.true c.step-item.is c.loop-step.invariant.number c.step_measured.ensures.number;
    }

pub operands_measured-loop-operand-preserved : goal.operands_measured-loop-operand-preserved
operands_measured-loop-operand-preserved t c =
    record {
      total = c.both-all.ensures.total ∙ parts_more (size_of_operand (measure_as c.args.m.now)) (λ (e : ExprSize). e.size c.args.counters.now) c.args.operands.now c.loop-operand.operand-index c.operand-item.result c.loop-operand.all.total c.operand_measured.result.total c.loop-operand-test.true c.operand-item.is c.loop-operand.invariant.total c.operand_measured.ensures.total;
      number = c.both-all.ensures.number ∙ all_more (size_of_operand (measure_as c.args.m.now)) (λ (e : ExprSize). e.is_number c.args.counters.now) c.args.operands.now c.loop-operand.operand-index c.operand-item.result c.loop-operand.all.is_number c.operand_measured.result.is_number c.loop-operand-test.true c.operand-item.is c.loop-operand.invariant.number c.operand_measured.ensures.number;
    }

pub arguments_size-loop-number-preserved : goal.arguments_size-loop-number-preserved
arguments_size-loop-number-preserved t c =
    c.plus-total.ensures ∙ ap (joined c.loop-number.total) c.plus.ensures
    ∙ arguments_more (size_of_expr (measure_as c.args.m.now)) c.args.arguments.now (measure_as c.args.m.now) (map (kinds_as c.args.m.now) c.args.params.now) c.args.counters.now c.loop-number.number c.index-arguments-number.result c.loop-number.total c.measure.result.total c.whole_parameter.result c.loop-number-test.true c.index-arguments-number.is c.loop-number.invariant c.measure.ensures.total c.whole_parameter.ensures
