use Rattle.std.proofs.Common.{◌≡◌, ◌≢◌, ◌*◌, length, IsSome}
use Rattle.std.specs.List.{All, sum_by}
use Rattle.choice_core.specs.declared.sharings.Choice.{Choice}
use Rattle.choice_core.specs.declared.sharings.Choice.TheVariants.{A}
use Rattle.choice_core.specs.Problems.{Row, own_of, IsFan, greatest_own, greatest_price}
use Rattle.choice_tests.proofs.samples.ladder.Given as goal

-- the rows so far allow each choice but A, and cost 1000 at most
abbrev pub invariant-loop-number : goal.invariant-loop-number
invariant-loop-number l = (length l.own.items ≡ l.number) × All (λ (row : Row). (c : Choice) → c ≢ A → IsSome (own_of row c)) l.own.items × (sum_by greatest_own l.own.items ≡ 1000 * l.number)

-- the fans so far are fans, two for each leaf, and cost 1000 each
abbrev pub invariant-loop-leaf : goal.invariant-loop-leaf
invariant-loop-leaf l = All (IsFan l.count) l.fans.items × (sum_by (λ f. 2 * greatest_price f) l.fans.items ≡ 4000 * l.leaf) × (length l.fans.items ≡ 2 * l.leaf)
