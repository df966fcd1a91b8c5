use Rattle.std.proofs.Common.{◌≡◌, take}
use Rattle.std.specs.List.{sum_by, filter}
use Rattle.choice_core.specs.declared.sharings.Sharing.{Sharing}
use Rattle.choice_core.specs.Problems.{touches}
use Rattle.choice_core.specs.Growing.{entry_of}
use Rattle.choice_core.proofs.Growth.{added}
use Rattle.choice_core.proofs.bounds.dues.Given as goal

abbrev pub invariant-loop-place : goal.invariant-loop-place
invariant-loop-place l = (t : Sharing) → entry_of l.dues t ≡ sum_by (λ f. added f l.prefix l.number t) (take l.place (filter (λ f. touches f l.number) l.problem.fans))
