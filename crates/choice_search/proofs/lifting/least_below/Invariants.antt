use Rattle.std.proofs.Common.{◌≡◌, ℕ, ◌≤◌, ◌<◌, get_or}
use Rattle.choice_search.proofs.lifting.least_below.Given as goal

-- the least of the children so far
abbrev pub invariant-loop-number : goal.invariant-loop-number
invariant-loop-number l = ((k : ℕ) → l.first ≤ k → k < l.number → l.least ≤ get_or l.leasts k 0) × ((k : ℕ) × (l.first ≤ k) × (k < l.number) × (get_or l.leasts k 0 ≡ l.least))
