use Rattle.std.proofs.Common.{◌∙◌}
use Rattle.std.proofs.lemmas.Result.{IfOk-weaker}
use Rattle.word_graph.specs.Term.{width_at}
use Rattle.word_nodes.specs.Nodes.{worth}
use Rattle.word_nodes.proofs.NodeLaws.{worth-word}
use Rattle.exec_expressions.proofs.OperationLaws.{less-operated}
use Rattle.exec_expressions.proofs.operators.less.Goals as goal

pub returns-clause-value : goal.returns-clause-value
returns-clause-value c =
    let g = c.args.graph.now in
    IfOk-weaker c.apply_two.result _ _
    (λ n v ins fit.
    v ins fit
    ∙ less-operated c.args.scalar c.less_op-op.result c.signed.result (width_at g c.args.left.index) (worth g ins c.args.left) (worth g ins c.args.right) c.less_op-op.ensures c.signed.ensures c.requires.left.width
    (worth-word g ins _ c.args.left c.entries-entries.ensures.graph fit c.requires.left)
    (worth-word g ins _ c.args.right c.entries-entries.ensures.graph fit c.requires.right))
    c.apply_two.ensures.value
