use Rattle.std.proofs.Common.{◌≡◌, take}
use Rattle.std.specs.List.{fold}
use Rattle.plan_figures.specs.Walk.{walk_step, walked}
use Rattle.plan_figures.proofs.stretches.greatest_stretch.Given as goal

abbrev pub invariant-loop-step : goal.invariant-loop-step
invariant-loop-step l = l.walk ≡ fold walk_step (walked 0 0) (take l.step-index l.steps)
