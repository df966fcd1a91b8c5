use Rattle.std.proofs.Common.{ap, ◌∙◌, arith, List}
use Rattle.std.specs.List.{sum_by}
use Rattle.choice_core.specs.declared.problems.Fan.{Fan}
use Rattle.choice_core.specs.Problems.{Row, own_sum, fan_cost}
use Rattle.choice_core.proofs.Limits.{cost_small}
use Rattle.choice_core.proofs.bounds.cost.Goals as goal

pub overflow_add-result : goal.overflow_add-result
overflow_add-result c =
    let limit = cost_small c.args.problem.now c.requires.problem c.args.choices.now in
    let own = c.own_sum.ensures ∙ ap (λ (rows : List Row). own_sum rows c.args.choices.now) c.own.ensures in
    let fans = c.fans_sum.ensures ∙ ap (λ (xs : List Fan). sum_by (λ f. fan_cost f c.args.choices.now) xs) c.fans.ensures in
    omega (arith, limit, own, fans)

pub returns-clause-small : goal.returns-clause-small
returns-clause-small c =
    let limit = cost_small c.args.problem.now c.requires.problem c.args.choices.now in
    let own = c.own_sum.ensures ∙ ap (λ (rows : List Row). own_sum rows c.args.choices.now) c.own.ensures in
    let fans = c.fans_sum.ensures ∙ ap (λ (xs : List Fan). sum_by (λ f. fan_cost f c.args.choices.now) xs) c.fans.ensures in
    omega (arith, limit, own, fans)
