use Rattle.std.proofs.Common.{◌≡◌, drop}
use Rattle.choice_core.specs.Problems.{next_from}
use Rattle.choice_core.proofs.problems.Fan.next_from.Given as goal

-- what is left of the consumers decides
abbrev pub invariant-loop-consumer : goal.invariant-loop-consumer
invariant-loop-consumer l = next_from l.count (drop l.consumer-index l.consumer-items) ≡ next_from l.count l.self.to
