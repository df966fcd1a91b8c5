use Rattle.std.proofs.Common.{◌≤◌, ◌<◌, ℕ, zero, suc, ◌^◌, arith}
use Rattle.adder_blocks.proofs.TreeLaws.{below_power}
use Rattle.adder_blocks.proofs.shifts.stages.Goals as goal

bounded : (w s : ℕ) → w ≤ 64 → ((place : ℕ) → place < s → 2 ^ place < w) → s < 64
bounded w zero h short = omega arith
bounded w (suc s) h short = omega (arith, short s (omega arith), below_power s)

pub overflow_shl-stages : goal.overflow_shl-stages
overflow_shl-stages c = bounded c.args.width c.loop-stages.stages c.requires c.loop-stages.invariant.1
