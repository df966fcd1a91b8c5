use Rattle.std.proofs.Common.{ℕ, ◌-◌, sym, ap, ◌∙◌}
use Rattle.std.proofs.lemmas.Result.{IfOk-weaker}
use Rattle.hy_bits.specs.Bits.{bit}
use Rattle.word_nodes.specs.Nodes.{worth}
use Rattle.word_nodes.proofs.NodeLaws.{Extends-then, Extends-inputs, worth-word}
use Rattle.c_meaning.specs.declared.operators.Comparison.{Comparison}
use Rattle.c_meaning.specs.Operations.{compares}
use Rattle.exec_expressions.proofs.OperationLaws.{not-bit, equal-compared, unequal-compared}
use Rattle.exec_expressions.proofs.operators.compare.Goals as goal

pub returns-in_ok-greater-in-LessOrEqual-clause-extends : goal.returns-in_ok-greater-in-LessOrEqual-clause-extends
returns-in_ok-greater-in-LessOrEqual-clause-extends c = Extends-then _ _ _ _ c.in_ok-greater-in-LessOrEqual.ensures.extends c.complement.ensures.extends

pub returns-in_ok-greater-in-LessOrEqual-clause-value : goal.returns-in_ok-greater-in-LessOrEqual-clause-value
returns-in_ok-greater-in-LessOrEqual-clause-value c =
    let g = c.args.graph.now in
    IfOk-weaker c.complement.result _ _
    (λ n v ins fit.
    v ins (Extends-inputs c.in_ok-greater-in-LessOrEqual.ensures.extends ins fit)
    ∙ ap (λ (k : ℕ). 1 - k) (c.in_ok-greater-in-LessOrEqual.ensures.value ins fit)
    ∙ not-bit _
    ∙ ap (λ (o : Comparison). bit (compares o c.args.scalar (worth g ins c.args.left) (worth g ins c.args.right))) (sym c.in-LessOrEqual.is))
    c.complement.ensures.value

pub returns-in_ok-smaller-in-GreaterOrEqual-clause-extends : goal.returns-in_ok-smaller-in-GreaterOrEqual-clause-extends
returns-in_ok-smaller-in-GreaterOrEqual-clause-extends c = Extends-then _ _ _ _ c.in_ok-smaller-in-GreaterOrEqual.ensures.extends c.complement-in-GreaterOrEqual.ensures.extends

pub returns-in_ok-smaller-in-GreaterOrEqual-clause-value : goal.returns-in_ok-smaller-in-GreaterOrEqual-clause-value
returns-in_ok-smaller-in-GreaterOrEqual-clause-value c =
    let g = c.args.graph.now in
    IfOk-weaker c.complement-in-GreaterOrEqual.result _ _
    (λ n v ins fit.
    v ins (Extends-inputs c.in_ok-smaller-in-GreaterOrEqual.ensures.extends ins fit)
    ∙ ap (λ (k : ℕ). 1 - k) (c.in_ok-smaller-in-GreaterOrEqual.ensures.value ins fit)
    ∙ not-bit _
    ∙ ap (λ (o : Comparison). bit (compares o c.args.scalar (worth g ins c.args.left) (worth g ins c.args.right))) (sym c.in-GreaterOrEqual.is))
    c.complement-in-GreaterOrEqual.ensures.value

pub returns-in-Equal-clause-value : goal.returns-in-Equal-clause-value
returns-in-Equal-clause-value c =
    let g = c.args.graph.now in
    IfOk-weaker c.equality.result _ _
    (λ n v ins fit.
    v ins fit
    ∙ equal-compared c.args.comparison c.args.scalar (worth g ins c.args.left) (worth g ins c.args.right) c.in-Equal.is
    (worth-word g ins _ c.args.left c.entries-entries.ensures.graph fit c.requires.left)
    (worth-word g ins _ c.args.right c.entries-entries.ensures.graph fit c.requires.right))
    c.equality.ensures.value

pub returns-in_ok-equal-in-Unequal-clause-extends : goal.returns-in_ok-equal-in-Unequal-clause-extends
returns-in_ok-equal-in-Unequal-clause-extends c = Extends-then _ _ _ _ c.in_ok-equal-in-Unequal.ensures.extends c.complement-in-Unequal.ensures.extends

pub returns-in_ok-equal-in-Unequal-clause-value : goal.returns-in_ok-equal-in-Unequal-clause-value
returns-in_ok-equal-in-Unequal-clause-value c =
    let g = c.args.graph.now in
    IfOk-weaker c.complement-in-Unequal.result _ _
    (λ n v ins fit.
    v ins (Extends-inputs c.in_ok-equal-in-Unequal.ensures.extends ins fit)
    ∙ ap (λ (k : ℕ). 1 - k) (c.in_ok-equal-in-Unequal.ensures.value ins fit)
    ∙ unequal-compared c.args.comparison c.args.scalar (worth g ins c.args.left) (worth g ins c.args.right) c.in-Unequal.is
    (worth-word g ins _ c.args.left c.entries-entries.ensures.graph fit c.requires.left)
    (worth-word g ins _ c.args.right c.entries-entries.ensures.graph fit c.requires.right))
    c.complement-in-Unequal.ensures.value
