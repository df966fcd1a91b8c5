use Rattle.std.proofs.Common.{◌∙◌, List, map, sym, ap}
use Rattle.c_meaning.specs.declared.expressions.TypedExpr.{TypedExpr}
use Rattle.c_meaning.specs.declared.expressions.ChainStep.{ChainStep}
use Rattle.c_meaning.specs.declared.expressions.LogicalOperand.{LogicalOperand}
use Rattle.c_uses.proofs.Laws.{two_marks, three_marks, taken_Subscript, taken_Chain, taken_LogicalAnd, taken_LogicalOr, taken_Conditional}
use Rattle.c_meaning.specs.Uses.{all_of, taken_in, taken_by_lvalue}
use Rattle.c_uses.specs.Marks.{marked, step_taken, operand_taken}
use Rattle.c_uses.proofs.Marking.{marks_more}
use Rattle.c_uses.proofs.addresses.+addresses.Goals as goal

pub mark_steps-loop-step-preserved : goal.mark_steps-loop-step-preserved
mark_steps-loop-step-preserved t c =
    marks_more step_taken c.args.steps.now c.loop-step.step-index c.step-item.result c.loop-step.marks c.mark_step.new.marks c.loop-step-test.true c.step-item.is c.mark_step.ensures
    ∙ c.loop-step.invariant

pub mark_operands-loop-operand-preserved : goal.mark_operands-loop-operand-preserved
mark_operands-loop-operand-preserved t c =
    marks_more operand_taken c.args.operands.now c.loop-operand.operand-index c.operand-item.result c.loop-operand.marks c.mark_operand.new.marks c.loop-operand-test.true c.operand-item.is c.mark_operand.ensures
    ∙ c.loop-operand.invariant

pub mark_exprs-loop-argument-preserved : goal.mark_exprs-loop-argument-preserved
mark_exprs-loop-argument-preserved t c =
    marks_more taken_in c.args.arguments.now c.loop-argument.argument-index c.argument-item.result c.loop-argument.marks c.mark_expr.new.marks c.loop-argument-test.true c.argument-item.is c.mark_expr.ensures
    ∙ c.loop-argument.invariant

pub mark_lvalue-returns-in-Subscript : goal.mark_lvalue-returns-in-Subscript
mark_lvalue-returns-in-Subscript t c =
    two_marks c.args.marks.now c.mark_expr-in-Subscript.new.marks _ (taken_in c.in-Subscript.pointer) (taken_in c.in-Subscript.index) _ (c.mark_expr-in-Subscript.ensures ∙ ap (λ (x : TypedExpr). marked c.args.marks.now (taken_in x)) c.get-in-Subscript.ensures) (c.mark_expr-in-Subscript-2.ensures ∙ ap (λ (x : TypedExpr). marked c.mark_expr-in-Subscript.new.marks (taken_in x)) c.get-in-Subscript-2.ensures) (sym (ap taken_by_lvalue c.in-Subscript.is ∙ taken_Subscript _ _ _ _))

pub mark_expr-returns-in-Chain : goal.mark_expr-returns-in-Chain
mark_expr-returns-in-Chain t c =
    two_marks c.args.marks.now c.mark_expr-in-Chain.new.marks _ (taken_in c.in-Chain.first) (all_of (map step_taken c.in-Chain.steps)) _ (c.mark_expr-in-Chain.ensures ∙ ap (λ (x : TypedExpr). marked c.args.marks.now (taken_in x)) c.get-in-Chain.ensures) (c.mark_steps.ensures ∙ ap (λ (xs : List ChainStep). marked c.mark_expr-in-Chain.new.marks (all_of (map step_taken xs))) c.as_slice.ensures) (sym (ap taken_in c.in-Chain.is ∙ taken_Chain _ _))

pub mark_expr-returns-in-LogicalAnd : goal.mark_expr-returns-in-LogicalAnd
mark_expr-returns-in-LogicalAnd t c =
    two_marks c.args.marks.now c.mark_expr-in-LogicalAnd.new.marks _ (taken_in c.in-LogicalAnd.first) (all_of (map operand_taken c.in-LogicalAnd.rest)) _ (c.mark_expr-in-LogicalAnd.ensures ∙ ap (λ (x : TypedExpr). marked c.args.marks.now (taken_in x)) c.get-in-LogicalAnd.ensures) (c.mark_operands.ensures ∙ ap (λ (xs : List LogicalOperand). marked c.mark_expr-in-LogicalAnd.new.marks (all_of (map operand_taken xs))) c.as_slice-in-LogicalAnd.ensures) (sym (ap taken_in c.in-LogicalAnd.is ∙ taken_LogicalAnd _ _))

pub mark_expr-returns-in-LogicalOr : goal.mark_expr-returns-in-LogicalOr
mark_expr-returns-in-LogicalOr t c =
    two_marks c.args.marks.now c.mark_expr-in-LogicalOr.new.marks _ (taken_in c.in-LogicalOr.first) (all_of (map operand_taken c.in-LogicalOr.rest)) _ (c.mark_expr-in-LogicalOr.ensures ∙ ap (λ (x : TypedExpr). marked c.args.marks.now (taken_in x)) c.get-in-LogicalOr.ensures) (c.mark_operands-in-LogicalOr.ensures ∙ ap (λ (xs : List LogicalOperand). marked c.mark_expr-in-LogicalOr.new.marks (all_of (map operand_taken xs))) c.as_slice-in-LogicalOr.ensures) (sym (ap taken_in c.in-LogicalOr.is ∙ taken_LogicalOr _ _))

pub mark_expr-returns-in-Conditional : goal.mark_expr-returns-in-Conditional
mark_expr-returns-in-Conditional t c =
    three_marks c.args.marks.now c.mark_expr-in-Conditional.new.marks c.mark_expr-in-Conditional-2.new.marks _ (taken_in c.in-Conditional.condition) (taken_in c.in-Conditional.second) (taken_in c.in-Conditional.third) _ (c.mark_expr-in-Conditional.ensures ∙ ap (λ (x : TypedExpr). marked c.args.marks.now (taken_in x)) c.get-in-Conditional.ensures) (c.mark_expr-in-Conditional-2.ensures ∙ ap (λ (x : TypedExpr). marked c.mark_expr-in-Conditional.new.marks (taken_in x)) c.get-in-Conditional-2.ensures) (c.mark_expr-in-Conditional-3.ensures ∙ ap (λ (x : TypedExpr). marked c.mark_expr-in-Conditional-2.new.marks (taken_in x)) c.get-in-Conditional-3.ensures) (sym (ap taken_in c.in-Conditional.is ∙ taken_Conditional _ _ _ _ _))
