use Rattle.std.proofs.Common.{◌≡◌, take}
use Rattle.share_core.specs.Levels.{level_drawn}
use Rattle.plan_figures.proofs.sizes.gates_drawn.Given as goal

abbrev pub invariant-loop-gate : goal.invariant-loop-gate
invariant-loop-gate l = l.total ≡ level_drawn (take l.gate-index l.gates)
