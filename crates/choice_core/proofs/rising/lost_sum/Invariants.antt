use Rattle.std.proofs.Common.{◌≡◌, take}
use Rattle.std.specs.List.{sum_by, filter}
use Rattle.choice_core.specs.Problems.{touches}
use Rattle.choice_core.specs.Growing.{lost}
use Rattle.choice_core.proofs.rising.lost_sum.Given as goal

abbrev pub invariant-loop-place : goal.invariant-loop-place
invariant-loop-place l = l.total ≡ sum_by (lost l.problem.own l.number) (take l.place (filter (λ f. touches f l.number) l.problem.fans))
