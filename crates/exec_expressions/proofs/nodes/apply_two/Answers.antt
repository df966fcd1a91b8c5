use Rattle.std.proofs.Common.{ap, ◌∙◌, arith}
use Rattle.std.proofs.lemmas.Result.{IfOk-weaker}
use Rattle.word_graph.specs.Term.{arity}
use Rattle.word_nodes.proofs.NodeLaws.{Extends_of}
use Rattle.exec_expressions.proofs.OperationLaws.{term-two}
use Rattle.exec_expressions.proofs.nodes.apply_two.Goals as goal

pub returns-clause-value : goal.returns-clause-value
returns-clause-value c =
    IfOk-weaker c.node.result _ _
    (λ n v ins fit. v ins fit ∙ term-two c.args.graph.now ins c.entries-entries.ensures.graph fit c.args.op c.args.width c.args.a c.args.b c.requires.two)
    c.node.ensures.value

pub returns-clause-extends : goal.returns-clause-extends
returns-clause-extends c = Extends_of _ _ _ _ _ (c.node.ensures.made (λ e. absurd (omega (arith, c.requires.two, ap arity e))))
