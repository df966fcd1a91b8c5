use Rattle.std.proofs.Common.{ℕ, ◌==◌, ◌∙◌}
use Rattle.hy_bits.specs.declared.width.Width.TheVariants.{W1}
use Rattle.word_nodes.specs.Nodes.{worth}
use Rattle.word_nodes.proofs.NodeLaws.{Extends-then, Extends-inputs, Stands-later, worth-later}
use Rattle.c_place.specs.Aims.{place_of}
use Rattle.c_place.proofs.ChoiceLaws.{seen-same, seen-chosen, chosen-aims}
use Rattle.c_place.proofs.choosing.merged.Goals as goal

pub returns-in_err-index-clause-extends : goal.returns-in_err-index-clause-extends
returns-in_err-index-clause-extends c = Extends-then _ _ _ _ c.in_ok-guard.ensures.extends c.in_err-index.ensures.extends

pub returns-clause-target : goal.returns-clause-target
returns-clause-target c = record { guard = Stands-later c.in_ok-index.ensures.extends W1 _ c.in_ok-guard.ensures.stands; index = c.in_ok-index.ensures.stands }

pub returns-clause-extends : goal.returns-clause-extends
returns-clause-extends c = Extends-then _ _ _ _ c.in_ok-guard.ensures.extends c.in_ok-index.ensures.extends

pub returns-clause-value : goal.returns-clause-value
returns-clause-value c = λ ins fit.
    let f = c.in_ok-guard.ensures.extends in
    let g0 = c.args.graph.now in
    let g = c.in_ok-index.ensures.extends in
    seen-same (place_of c.args.one.now) _ _ _ _
    (worth-later g ins c.in_ok-guard.guard c.in_ok-guard.ensures.stands.within ∙ c.in_ok-guard.ensures.value ins fit)
    (c.in_ok-index.ensures.value ins (Extends-inputs f ins fit)
    ∙ chosen-aims {A = ℕ} _ _ _ _ _ _
    (worth-later f ins c.args.c c.requires.condition.within)
    (worth-later f ins c.args.one.now.index c.requires.first.index.within)
    (worth-later f ins c.args.other.now.index c.requires.second.index.within))
    ∙ seen-chosen (worth g0 ins c.args.c == 1) (place_of c.args.one.now) (place_of c.args.other.now)
    (worth g0 ins c.args.one.now.guard) (worth g0 ins c.args.other.now.guard) (worth g0 ins c.args.one.now.index) (worth g0 ins c.args.other.now.index) c.requires.same
