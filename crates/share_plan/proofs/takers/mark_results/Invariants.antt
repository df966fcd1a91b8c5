use Rattle.std.proofs.Common.{◌&&◌, take}
use Rattle.module_split.specs.Cut.{is_result}
use Rattle.choice_core.specs.Choices.{same_sharing}
use Rattle.choice_core.specs.declared.sharings.Sharing.TheVariants.{Boolean}
use Rattle.share_plan.specs.Takers.{Adds}
use Rattle.share_plan.proofs.takers.mark_results.Given as goal

abbrev pub invariant-loop-result_node : goal.invariant-loop-result_node
invariant-loop-result_node l = Adds l.initial.takers l.takers (λ s k. same_sharing Boolean s && is_result (take l.result_node-index l.results) k)
