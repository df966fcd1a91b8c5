use Rattle.std.proofs.Common.{◌∙◌}
use Rattle.std.proofs.lemmas.Result.{IfOk-weaker}
use Rattle.word_graph.specs.Term.{width_at}
use Rattle.word_nodes.specs.Nodes.{worth}
use Rattle.word_nodes.proofs.NodeLaws.{worth-word}
use Rattle.exec_expressions.proofs.OperationLaws.{signed-plus, signed-minus, signed-complement}
use Rattle.exec_expressions.proofs.operators.apply_sign.Goals as goal

pub returns-in-Plus-clause-value : goal.returns-in-Plus-clause-value
returns-in-Plus-clause-value c = λ ins fit.
    signed-plus c.args.scalar c.args.sign (worth c.args.graph.now ins c.args.word) c.in-Plus.is (worth-word c.args.graph.now ins _ c.args.word c.entries-entries.ensures.graph fit c.requires)

pub returns-in-Minus-clause-value : goal.returns-in-Minus-clause-value
returns-in-Minus-clause-value c =
    let g = c.args.graph.now in
    IfOk-weaker c.apply_one.result _ _
    (λ n v ins fit.
    v ins fit
    ∙ signed-minus c.args.scalar c.args.sign c.width.result (width_at g c.args.word.index) (worth g ins c.args.word) c.in-Minus.is c.width.ensures (worth-word g ins _ c.args.word c.entries-entries.ensures.graph fit c.requires))
    c.apply_one.ensures.value

pub returns-in-Complement-clause-value : goal.returns-in-Complement-clause-value
returns-in-Complement-clause-value c =
    let g = c.args.graph.now in
    IfOk-weaker c.apply_one-in-Complement.result _ _
    (λ n v ins fit.
    v ins fit
    ∙ signed-complement c.args.scalar c.args.sign c.width-in-Complement.result (width_at g c.args.word.index) (worth g ins c.args.word) c.in-Complement.is c.width-in-Complement.ensures (worth-word g ins _ c.args.word c.entries-entries.ensures.graph fit c.requires))
    c.apply_one-in-Complement.ensures.value
