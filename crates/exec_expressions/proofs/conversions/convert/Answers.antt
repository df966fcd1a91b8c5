use Rattle.std.proofs.Common.{◌≡◌, ◌∙◌, rules}
use Rattle.std.proofs.lemmas.Result.{IfOk-weaker}
use Rattle.hy_bits.specs.declared.scalar.Scalar.TheVariants.{B1}
use Rattle.hy_bits.specs.Scalar.{scalar_width}
use Rattle.word_graph.specs.Term.{width_at}
use Rattle.word_nodes.specs.Nodes.{worth}
use Rattle.word_nodes.proofs.NodeLaws.{worth-word}
use Rattle.exec_expressions.proofs.OperationLaws.{converted-truth, converted-same, converted-extended}
use Rattle.exec_expressions.proofs.conversions.convert.Goals as goal

pub returns-then-eq-clause-value : goal.returns-then-eq-clause-value
returns-then-eq-clause-value c =
    let g = c.args.graph.now in
    let bool : c.args.to ≡ B1 = search rules in
    IfOk-weaker c.truth.result _ _
    (λ n v ins fit. v ins fit ∙ converted-truth c.args.from c.args.to (worth g ins c.args.word) bool (worth-word g ins _ c.args.word c.entries-entries.ensures.graph fit c.requires))
    c.truth.ensures.value

pub returns-then-eq-2-clause-value : goal.returns-then-eq-2-clause-value
returns-then-eq-2-clause-value c = λ ins fit.
    let g = c.args.graph.now in
    let other : c.args.to ≡ B1 → ⊥ = search rules in
    let same : scalar_width c.args.from ≡ scalar_width c.args.to = search rules in
    converted-same c.args.from c.args.to (worth g ins c.args.word) other same (worth-word g ins _ c.args.word c.entries-entries.ensures.graph fit c.requires)

pub returns-clause-value : goal.returns-clause-value
returns-clause-value c =
    let g = c.args.graph.now in
    let other : c.args.to ≡ B1 → ⊥ = search rules in
    IfOk-weaker c.apply_one-2.result _ _
    (λ n v ins fit.
    v ins fit
    ∙ converted-extended c.args.from c.args.to c.extension_op-op.result c.width-6.result (width_at g c.args.word.index) c.signed.result (worth g ins c.args.word) other c.extension_op-op.ensures c.signed.ensures c.width-6.ensures c.requires.width
    (worth-word g ins _ c.args.word c.entries-entries.ensures.graph fit c.requires))
    c.apply_one-2.ensures.value
