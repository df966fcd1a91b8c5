use Rattle.std.proofs.Common.{ℕ, ◌+◌, ◌*◌, ◌%◌, ◌^◌, ap, ◌∙◌}
use Rattle.std.proofs.lemmas.Result.{IfOk-weaker}
use Rattle.hy_bits.specs.declared.width.Width.TheVariants.{W64}
use Rattle.word_nodes.specs.Nodes.{worth}
use Rattle.word_nodes.proofs.NodeLaws.{Extends-then, Extends-inputs, Stands-later, worth-later}
use Rattle.c_place.proofs.SameLaws.{cell-sum}
use Rattle.c_place.proofs.equality.cell_number.Goals as goal

pub returns-in_err-first-clause-extends : goal.returns-in_err-first-clause-extends
returns-in_err-first-clause-extends c = Extends-then _ _ _ _ c.in_ok-scaled.ensures.extends (c.in_err-first.ensures.extends _)

pub sum-requires-clause-first : goal.sum-requires-clause-first
sum-requires-clause-first c = Stands-later (c.in_ok-first.ensures.extends 0) W64 _ c.in_ok-scaled.ensures.stands

pub returns-clause-extends : goal.returns-clause-extends
returns-clause-extends c = Extends-then _ _ _ _ (Extends-then _ _ _ _ c.in_ok-scaled.ensures.extends (c.in_ok-first.ensures.extends _)) c.sum.ensures.extends

pub returns-clause-value : goal.returns-clause-value
returns-clause-value c =
    let one = c.in_ok-scaled.ensures.extends in
    let two = c.in_ok-first.ensures.extends c.args.region in
    IfOk-weaker c.sum.result _ _
    (λ n value ins fit.
    value ins (Extends-inputs two ins (Extends-inputs one ins fit))
    ∙ ap (λ (k : ℕ). (k + worth c.constant.new.graph ins c.in_ok-first.first) % 2 ^ 64) (worth-later two ins c.in_ok-scaled.scaled c.in_ok-scaled.ensures.stands.within ∙ c.in_ok-scaled.ensures.value ins fit)
    ∙ ap (λ (k : ℕ). ((worth c.args.graph.now ins c.args.target.now.index * c.args.target.now.size) % 2 ^ 64 + k) % 2 ^ 64) (c.in_ok-first.ensures.value ins (Extends-inputs one ins fit))
    ∙ cell-sum (worth c.args.graph.now ins c.args.target.now.index * c.args.target.now.size) c.args.target.now.first)
    c.sum.ensures.value
