use Rattle.std.proofs.Common.{◌==◌, ◌&&◌, take}
use Rattle.std.specs.List.{list_any}
use Rattle.choice_core.specs.Choices.{same_sharing}
use Rattle.share_plan.specs.Takers.{Adds}
use Rattle.share_plan.proofs.takers.mark_each.Given as goal

abbrev pub invariant-loop-node : goal.invariant-loop-node
invariant-loop-node l = Adds l.initial.takers l.takers (λ s k. same_sharing l.sharing s && list_any (λ used. used == k) (take l.node-index l.nodes))
