use Rattle.std.proofs.Common.{ap, ◌∙◌}
use Rattle.std.specs.List.{fold}
use Rattle.std.proofs.lemmas.List.{take_all}
use Rattle.plan_figures.specs.Walk.{walk_step, walked}
use Rattle.plan_figures.proofs.StretchLaws.{greatest_is}
use Rattle.plan_figures.proofs.stretches.greatest_stretch.Goals as goal

pub returns : goal.returns
returns c =
    c.max.ensures ∙ greatest_is c.args.steps.now c.loop-step.walk (c.loop-step.invariant ∙ ap (fold walk_step (walked 0 0)) (take_all c.loop-step.step-index c.args.steps.now c.loop-step-test.false))
