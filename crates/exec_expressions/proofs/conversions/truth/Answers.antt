use Rattle.std.specs.Prelude.{not}
use Rattle.std.proofs.Common.{ℕ, ◌-◌, ◌==◌, ap, ◌∙◌, rules}
use Rattle.std.proofs.lemmas.Result.{IfOk-weaker}
use Rattle.hy_bits.specs.Bits.{bit}
use Rattle.hy_bits.specs.declared.width.Width.TheVariants.{W1}
use Rattle.word_nodes.specs.Nodes.{Stands, worth}
use Rattle.word_nodes.proofs.NodeLaws.{Extends-then, Extends-inputs, Stands-later, worth-later, worth-bit}
use Rattle.exec_expressions.proofs.OperationLaws.{not-bit, truth-bit}
use Rattle.exec_expressions.proofs.conversions.truth.Goals as goal

pub returns-then-eq-clause-value : goal.returns-then-eq-clause-value
returns-then-eq-clause-value c = λ ins fit.
    let one : Stands c.args.graph.now W1 c.args.word = search rules in
    truth-bit (worth c.args.graph.now ins c.args.word) (worth-bit c.args.graph.now ins c.args.word c.entries-entries.ensures.graph fit one)

pub returns-in-Some-clause-value : goal.returns-in-Some-clause-value
returns-in-Some-clause-value c = λ ins fit.
    let same = c.in-Some.ensures.value ins fit in
    truth-bit (worth c.args.graph.now ins c.in-Some.truth) (worth-bit c.args.graph.now ins c.in-Some.truth c.entries-entries.ensures.graph fit c.in-Some.ensures.stands)
    ∙ ap (λ (k : ℕ). bit (not (k == 0))) same

pub equality-requires-clause-first : goal.equality-requires-clause-first
equality-requires-clause-first c = Stands-later (c.in_ok-zero.ensures.extends 0) _ _ c.requires

pub returns-in_err-equal-clause-extends : goal.returns-in_err-equal-clause-extends
returns-in_err-equal-clause-extends c = Extends-then _ _ _ _ (c.in_ok-zero.ensures.extends _) c.in_err-equal.ensures.extends

pub returns-clause-value : goal.returns-clause-value
returns-clause-value c =
    let g = c.args.graph.now in
    let one = c.in_ok-zero.ensures.extends c.args.region in
    IfOk-weaker c.complement.result _ _
    (λ n v ins fit.
    v ins (Extends-inputs c.in_ok-equal.ensures.extends ins (Extends-inputs one ins fit))
    ∙ ap (λ (k : ℕ). 1 - k)
    (c.in_ok-equal.ensures.value ins (Extends-inputs one ins fit)
    ∙ ap (λ (k : ℕ). bit (k == worth c.constant.new.graph ins c.in_ok-zero.zero)) (worth-later one ins c.args.word c.requires.within)
    ∙ ap (λ (k : ℕ). bit (worth g ins c.args.word == k)) (c.in_ok-zero.ensures.value ins fit))
    ∙ not-bit (worth g ins c.args.word == 0))
    c.complement.ensures.value

pub returns-clause-extends : goal.returns-clause-extends
returns-clause-extends c = Extends-then _ _ _ _ (Extends-then _ _ _ _ (c.in_ok-zero.ensures.extends _) c.in_ok-equal.ensures.extends) c.complement.ensures.extends
