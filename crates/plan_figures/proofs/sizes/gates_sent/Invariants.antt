use Rattle.std.proofs.Common.{◌≡◌, take}
use Rattle.share_core.specs.Levels.{level_sent}
use Rattle.plan_figures.proofs.sizes.gates_sent.Given as goal

abbrev pub invariant-loop-gate : goal.invariant-loop-gate
invariant-loop-gate l = l.total ≡ level_sent l.role (take l.gate-index l.gates)
