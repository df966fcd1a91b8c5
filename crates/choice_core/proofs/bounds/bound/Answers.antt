use Rattle.std.proofs.Common.{ap, ◌∙◌, arith, List}
use Rattle.std.specs.List.{sum_by}
use Rattle.choice_core.specs.declared.problems.Fan.{Fan}
use Rattle.choice_core.specs.Problems.{Row, own_sum, fan_cost}
use Rattle.choice_core.proofs.Limits.{bound_small}
use Rattle.choice_core.proofs.bounds.bound.Goals as goal

pub overflow_add-result : goal.overflow_add-result
overflow_add-result c =
    let limit = bound_small c.args.problem.now c.requires.problem c.args.prefix.now c.requires.fits in
    let own = c.own_sum-own.ensures ∙ ap (λ (rows : List Row). own_sum rows c.args.prefix.now) c.own.ensures in
    let fans = c.fans_sum-fans.ensures ∙ ap (λ (xs : List Fan). sum_by (λ f. fan_cost f c.args.prefix.now) xs) c.fans.ensures in
    omega (arith, limit, own, fans)

pub overflow_add-result-2 : goal.overflow_add-result-2
overflow_add-result-2 c =
    let limit = bound_small c.args.problem.now c.requires.problem c.args.prefix.now c.requires.fits in
    let own = c.own_sum-own.ensures ∙ ap (λ (rows : List Row). own_sum rows c.args.prefix.now) c.own.ensures in
    let fans = c.fans_sum-fans.ensures ∙ ap (λ (xs : List Fan). sum_by (λ f. fan_cost f c.args.prefix.now) xs) c.fans.ensures in
    omega (arith, limit, own, fans, c.least_past.ensures)

pub overflow_add-result-3 : goal.overflow_add-result-3
overflow_add-result-3 c =
    let limit = bound_small c.args.problem.now c.requires.problem c.args.prefix.now c.requires.fits in
    let own = c.own_sum-own.ensures ∙ ap (λ (rows : List Row). own_sum rows c.args.prefix.now) c.own.ensures in
    let fans = c.fans_sum-fans.ensures ∙ ap (λ (xs : List Fan). sum_by (λ f. fan_cost f c.args.prefix.now) xs) c.fans.ensures in
    omega (arith, limit, own, fans, c.least_past.ensures, c.unplaced_sum.ensures)

pub returns-clause-small : goal.returns-clause-small
returns-clause-small c =
    let limit = bound_small c.args.problem.now c.requires.problem c.args.prefix.now c.requires.fits in
    let own = c.own_sum-own.ensures ∙ ap (λ (rows : List Row). own_sum rows c.args.prefix.now) c.own.ensures in
    let fans = c.fans_sum-fans.ensures ∙ ap (λ (xs : List Fan). sum_by (λ f. fan_cost f c.args.prefix.now) xs) c.fans.ensures in
    omega (arith, limit, own, fans, c.least_past.ensures, c.unplaced_sum.ensures)
