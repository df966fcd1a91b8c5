use Rattle.std.proofs.Common.{◌≡◌, ◌*◌, length, replicate}
use Rattle.std.specs.List.{All, sum_by}
use Rattle.choice_core.specs.Problems.{IsFan, greatest_price}
use Rattle.choice_tests.proofs.Ladders.{star_row}
use Rattle.choice_tests.proofs.costs.star.Given as goal

abbrev pub invariant-loop : goal.invariant-loop
invariant-loop l = l.own.items ≡ replicate l.counter star_row

-- the fans so far are fans, one for each leaf, and cost 1000 each
abbrev pub invariant-loop-leaf : goal.invariant-loop-leaf
invariant-loop-leaf l = All (IsFan l.count) l.fans.items × (sum_by (λ f. 2 * greatest_price f) l.fans.items ≡ 2000 * l.leaf) × (length l.fans.items ≡ l.leaf)
