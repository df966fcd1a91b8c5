use Rattle.std.proofs.Common.{◌≡◌, take}
use Rattle.choice_core.specs.Problems.{own_sum}
use Rattle.choice_core.proofs.bounds.own_sum.Given as goal

abbrev pub invariant-loop-number : goal.invariant-loop-number
invariant-loop-number l = l.total ≡ own_sum l.rows (take l.number l.choices)
