use Rattle.std.proofs.Common.{◌≢◌, ℕ, ◌≤◌, ◌<◌, get_or}
use Rattle.choice_search.proofs.finding.first_child.Given as goal

-- no child so far has the least bound
abbrev pub invariant-loop-number : goal.invariant-loop-number
invariant-loop-number l = (k : ℕ) → l.first ≤ k → k < l.number → get_or l.leasts k 0 ≢ l.least
