use Rattle.std.proofs.Common.{◌≡◌, ◌*◌, ◌≤◌, length}
use Rattle.std.specs.List.{All, sum_by}
use Rattle.choice_core.specs.Problems.{HasChoice, IsFan, greatest_own, greatest_price}
use Rattle.choice_tests.proofs.searches.small.Given as goal

-- the rows so far have choices, and cost 3 at most
abbrev pub invariant-loop : goal.invariant-loop
invariant-loop g l = (length l.own.items ≡ l.counter) × All HasChoice l.own.items × (sum_by greatest_own l.own.items ≤ 3 * l.counter)

-- the fans so far are fans, and cost 3 at most
abbrev pub invariant-loop-from : goal.invariant-loop-from
invariant-loop-from g l = All (IsFan 4) l.fans.items × (sum_by (λ f. 2 * greatest_price f) l.fans.items ≤ 6 * l.from-index) × (length l.fans.items ≡ l.from-index)
