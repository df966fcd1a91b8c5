use Rattle.std.proofs.Common.{◌-◌, ◌≤◌, ◌<◌, ℕ, ◌^◌}
use Rattle.adder_blocks.proofs.shifts.stages.Given as goal

abbrev pub invariant-loop-stages : goal.invariant-loop-stages
invariant-loop-stages l = (l.stages ≤ l.bits) × ((place : ℕ) → place < l.stages → 2 ^ place < l.width)

abbrev pub decreases-loop-stages : goal.decreases-loop-stages
decreases-loop-stages l = l.bits - l.stages
