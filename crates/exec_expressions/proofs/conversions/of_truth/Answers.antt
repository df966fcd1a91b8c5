use Rattle.std.proofs.Common.{◌∙◌, ◌<◌, ◌^◌, arith}
use Rattle.std.proofs.Math.Nat.{mod-eq_of_lt}
use Rattle.std.proofs.lemmas.Result.{IfOk-weaker}
use Rattle.word_nodes.specs.Nodes.{worth}
use Rattle.word_nodes.proofs.NodeLaws.{worth-bit}
use Rattle.exec_expressions.proofs.conversions.of_truth.Goals as goal

pub returns-clause-value : goal.returns-clause-value
returns-clause-value c =
    let g = c.args.graph.now in
    IfOk-weaker c.apply_one.result _ _
    (λ n v ins fit.
    let bit = worth-bit g ins c.args.truth c.entries-entries.ensures.graph fit c.requires in
    let small : worth g ins c.args.truth < 2 ^ 32 = omega (arith, bit) in
    v ins fit ∙ mod-eq_of_lt small)
    c.apply_one.ensures.value
