use Rattle.std.proofs.Common.{◌∙◌}
use Rattle.std.proofs.lemmas.Result.{IfOk-weaker}
use Rattle.exec_expressions.proofs.OperationLaws.{term-one}
use Rattle.exec_expressions.proofs.nodes.apply_one.Goals as goal

pub returns-clause-value : goal.returns-clause-value
returns-clause-value c =
    IfOk-weaker c.node.result _ _
    (λ n v ins fit. v ins fit ∙ term-one c.args.graph.now ins c.entries-entries.ensures.graph fit c.args.op c.args.width c.args.a c.args.a c.requires.one)
    c.node.ensures.value
