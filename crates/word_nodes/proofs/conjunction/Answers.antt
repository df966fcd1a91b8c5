use Rattle.std.proofs.Common.{◌∙◌}
use Rattle.std.proofs.lemmas.Result.{IfOk-weaker}
use Rattle.word_nodes.proofs.NodeLaws.{bit-before, bit_and-product}
use Rattle.word_nodes.proofs.conjunction.Goals as goal

pub returns-clause-value : goal.returns-clause-value
returns-clause-value c =
    let grows = c.node.ensures.made (λ e. absurd (cc)) in
    let bit = bit-before c.args.region _ _ _ _ grows c.node.ensures.graph in
    IfOk-weaker c.node.result _ _
    (λ n value ins fit. value ins fit ∙ bit_and-product _ _ (bit ins fit c.args.a c.requires.first) (bit ins fit c.args.b c.requires.second))
    c.node.ensures.value
