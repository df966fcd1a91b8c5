use Rattle.std.proofs.Common.{◌∙◌}
use Rattle.std.proofs.lemmas.Result.{IfOk-weaker}
use Rattle.word_graph.specs.Term.{width_at}
use Rattle.word_nodes.specs.Nodes.{worth}
use Rattle.word_nodes.proofs.NodeLaws.{worth-word}
use Rattle.exec_expressions.proofs.OperationLaws.{operated-arithmetic, operated-shift}
use Rattle.exec_expressions.proofs.operators.operate.Goals as goal

pub returns-in-Arithmetic-clause-value : goal.returns-in-Arithmetic-clause-value
returns-in-Arithmetic-clause-value c =
    let g = c.args.graph.now in
    IfOk-weaker c.apply_two.result _ _
    (λ n v ins fit.
    v ins fit
    ∙ operated-arithmetic (worth g ins c.args.left) (worth g ins c.args.right) c.args.operation c.in-Arithmetic.operator c.in-Arithmetic.scalar c.arithmetic_op-op.result c.signed.result c.width.result (width_at g c.args.left.index)
    c.in-Arithmetic.is c.arithmetic_op-op.ensures c.signed.ensures c.width.ensures
    (worth-word g ins _ c.args.left c.entries-entries.ensures.graph fit c.requires.left)
    (worth-word g ins _ c.args.right c.entries-entries.ensures.graph fit c.requires.right))
    c.apply_two.ensures.value

pub returns-in-Shift-clause-value : goal.returns-in-Shift-clause-value
returns-in-Shift-clause-value c =
    let g = c.args.graph.now in
    IfOk-weaker c.apply_two-in-Shift.result _ _
    (λ n v ins fit.
    v ins fit
    ∙ operated-shift (worth g ins c.args.left) (worth g ins c.args.right) c.args.operation c.in-Shift.operator c.in-Shift.scalar c.in-Shift.count c.shift_op-op.result c.signed-in-Shift.result c.width-in-Shift.result (width_at g c.args.left.index)
    c.in-Shift.is c.shift_op-op.ensures c.signed-in-Shift.ensures c.width-in-Shift.ensures
    (worth-word g ins _ c.args.left c.entries-entries.ensures.graph fit c.requires.left)
    (worth-word g ins _ c.args.right c.entries-entries.ensures.graph fit c.requires.right))
    c.apply_two-in-Shift.ensures.value
