use Rattle.std.proofs.Common.{refl, ◌∙◌}
use Rattle.std.proofs.lemmas.Result.{IfOk-weaker}
use Rattle.word_nodes.proofs.NodeLaws.{Extends-then, Extends-inputs, Stands-later, worth-later}
use Rattle.c_place.proofs.selecting.hit.Goals as goal

pub equality-requires-clause-first : goal.equality-requires-clause-first
equality-requires-clause-first c = Stands-later (c.in_ok-number.ensures.extends 0) _ _ c.requires.index

pub returns-in_err-here-clause-extends : goal.returns-in_err-here-clause-extends
returns-in_err-here-clause-extends c = Extends-then _ _ _ _ (c.in_ok-number.ensures.extends _) c.in_err-here.ensures.extends

pub conjunction-requires-clause-first : goal.conjunction-requires-clause-first
conjunction-requires-clause-first c =
    Stands-later c.in_ok-here.ensures.extends _ _ (Stands-later (c.in_ok-number.ensures.extends 0) _ _ c.requires.guard)

pub returns-clause-extends : goal.returns-clause-extends
returns-clause-extends c =
    Extends-then _ _ _ _ (Extends-then _ _ _ _ (c.in_ok-number.ensures.extends _) c.in_ok-here.ensures.extends) c.conjunction.ensures.extends

pub returns-clause-value : goal.returns-clause-value
returns-clause-value c =
    let one = c.in_ok-number.ensures.extends c.args.region in
    let two = c.in_ok-here.ensures.extends in
    IfOk-weaker c.conjunction.result _ _
    (λ n value ins fit.
    let here = c.in_ok-here.ensures.value ins (Extends-inputs one ins fit) in
    let guard = worth-later (Extends-then _ _ _ _ one two) ins c.args.guard c.requires.guard.within in
    value ins (Extends-inputs two ins (Extends-inputs one ins fit))
    ∙ simp (guard, here, worth-later one ins c.args.index c.requires.index.within, c.in_ok-number.ensures.value ins fit) refl)
    c.conjunction.ensures.value
