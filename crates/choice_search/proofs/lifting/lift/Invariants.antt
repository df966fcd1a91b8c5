use Rattle.choice_search.proofs.Upward.{IsLifted}
use Rattle.choice_search.proofs.lifting.lift.Given as goal

-- only the parent may still have a wrong least bound
abbrev pub invariant-loop-number : goal.invariant-loop-number
invariant-loop-number l = IsLifted l.nodes l.fn.leasts l.leasts l.number

abbrev pub decreases-loop-number : goal.decreases-loop-number
decreases-loop-number l = l.number
