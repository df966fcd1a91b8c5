use Rattle.std.proofs.Common.{◌≡◌, take, length, cond, nat_lt}
use Rattle.std.specs.List.{sum_by}
use Rattle.choice_core.specs.Bound.{least_price}
use Rattle.choice_core.proofs.bounds.unplaced_sum.Given as goal

abbrev pub invariant-loop-fan : goal.invariant-loop-fan
invariant-loop-fan l = l.total ≡ sum_by (λ f. cond (nat_lt f.from (length l.prefix)) 0 (least_price l.problem.own f)) (take l.fan-index l.fan-items)
