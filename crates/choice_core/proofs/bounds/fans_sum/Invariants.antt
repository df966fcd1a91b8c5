use Rattle.std.proofs.Common.{◌≡◌, take, sum_by}
use Rattle.choice_core.specs.Problems.{fan_cost}
use Rattle.choice_core.proofs.bounds.fans_sum.Given as goal

abbrev pub invariant-loop-fan : goal.invariant-loop-fan
invariant-loop-fan l = l.total ≡ sum_by (λ f. fan_cost f l.choices) (take l.fan-index l.fans)
