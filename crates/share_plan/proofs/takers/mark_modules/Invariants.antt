use Rattle.std.proofs.Common.{take}
use Rattle.share_plan.specs.Inputs.{is_taken}
use Rattle.share_plan.specs.Takers.{Adds}
use Rattle.share_plan.proofs.takers.mark_modules.Given as goal

abbrev pub invariant-loop-number : goal.invariant-loop-number
invariant-loop-number l = Adds l.initial.takers l.takers (λ s k. is_taken s k (take l.number l.list) (take l.number l.choices))
