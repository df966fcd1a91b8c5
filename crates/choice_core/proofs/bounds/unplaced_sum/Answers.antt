use Rattle.std.proofs.Common.{◌≡◌, ap, ◌∙◌, arith, length, List, cond, nat_lt, false}
use Rattle.std.specs.List.{sum_by}
use Rattle.std.proofs.lemmas.Bool.Decides.{nat_tests}
use Rattle.choice_core.specs.declared.problems.Fan.{Fan}
use Rattle.choice_core.specs.Problems.{Row}
use Rattle.choice_core.specs.Bound.{least_price}
use Rattle.choice_core.proofs.Limits.{bound_small}
use Rattle.choice_core.proofs.Loops.{sum_read}
use Rattle.choice_core.proofs.bounds.unplaced_sum.Goals as goal

pub overflow_add-total : goal.overflow_add-total
overflow_add-total c =
    let items = c.fans-fan-items.ensures in
    let read = (sum_read (λ f. cond (nat_lt f.from (length c.args.prefix.now)) 0 (least_price c.args.problem.now.own f)) c.fans-fan-items.result.now c.loop-fan.fan-index c.fan-item.result c.loop-fan-test.true c.fan-item.is).1 in
    let past : nat_lt c.fan-item.result.from (length c.args.prefix.now) ≡ false = grind (arith, nat_tests) in
    let price = c.least_price-total.ensures ∙ ap (λ (rows : List Row). least_price rows c.fan-item.result) c.own.ensures in
    let sum = rw past at read in
    let all = ap (λ (xs : List Fan). sum_by (λ f. cond (nat_lt f.from (length c.args.prefix.now)) 0 (least_price c.args.problem.now.own f)) xs) items in
    let limit = bound_small c.args.problem.now c.requires.problem c.args.prefix.now c.requires.fits in
    omega (arith, sum, price, all, limit, c.loop-fan.invariant)
