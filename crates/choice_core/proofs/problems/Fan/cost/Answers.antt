use Rattle.std.proofs.Common.{arith, Some}
use Rattle.choice_core.specs.Problems.{fan_cost_from}
use Rattle.choice_core.proofs.Limits.{fan_cost_le}
use Rattle.choice_core.proofs.problems.Fan.cost.Goals as goal

pub overflow_add-result : goal.overflow_add-result
unfolding fan_cost_from
overflow_add-result c =
    let limit = fan_cost_le c.args.self.now c.args.choices.now (Some c.in-Some.from) in
    omega (arith, limit, c.requires, c.charge.ensures, c.charge-in-Some.ensures)

pub overflow_add-result-in-Some : goal.overflow_add-result-in-Some
unfolding fan_cost_from
overflow_add-result-in-Some c =
    let limit = fan_cost_le c.args.self.now c.args.choices.now (Some c.in-Some.from) in
    omega (arith, limit, c.requires, c.charge.ensures, c.charge-in-Some.ensures, c.charge-in-Some-2.ensures)
