use Rattle.std.proofs.Common.{◌≡◌, drop}
use Rattle.std.specs.List.{list_any}
use Rattle.choice_core.specs.Problems.{sharing_at, is_in}
use Rattle.choice_core.proofs.problems.Fan.reaches.Given as goal

-- what is left of the consumers decides
abbrev pub invariant-loop-consumer : goal.invariant-loop-consumer
invariant-loop-consumer l = list_any (λ m. is_in (sharing_at l.choices m) l.sharing) (drop l.consumer-index l.consumer-items) ≡ list_any (λ m. is_in (sharing_at l.choices m) l.sharing) l.self.to
