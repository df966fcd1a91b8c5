use Rattle.std.proofs.Common.{arith}
use Rattle.choice_core.specs.Problems.{fan_cost}
use Rattle.choice_core.proofs.Limits.{fans_sum_le}
use Rattle.choice_core.proofs.Loops.{sum_read}
use Rattle.choice_core.proofs.bounds.fans_sum.Goals as goal

pub overflow_add-total : goal.overflow_add-total
overflow_add-total c =
    let read = sum_read (λ f. fan_cost f c.args.choices.now) c.args.fans.now c.loop-fan.fan-index c.fan-item.result c.loop-fan-test.true c.fan-item.is in
    omega (arith, read.1, c.cost-total.ensures, c.loop-fan.invariant, fans_sum_le c.args.fans.now c.args.choices.now, c.requires)
