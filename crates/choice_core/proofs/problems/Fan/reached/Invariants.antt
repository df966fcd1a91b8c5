use Rattle.std.proofs.Common.{◌≡◌, take}
use Rattle.std.specs.List.{list_any}
use Rattle.choice_core.specs.declared.sharings.Sharing.{Sharing}
use Rattle.choice_core.specs.Problems.{sharing_at, is_in}
use Rattle.choice_core.specs.Growing.{mark_of}
use Rattle.choice_core.proofs.problems.Fan.reached.Given as goal

-- the marks of the consumers so far
abbrev pub invariant-loop-consumer : goal.invariant-loop-consumer
invariant-loop-consumer l = (t : Sharing) → mark_of l.reached t ≡ list_any (λ m. is_in (sharing_at l.choices m) t) (take l.consumer-index l.consumer-items)
