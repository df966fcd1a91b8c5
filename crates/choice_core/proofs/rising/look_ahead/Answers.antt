use Rattle.std.proofs.Common.{arith, [], ◌∙◌, get_or, length}
use Rattle.std.proofs.lemmas.List.Sums.{get_or-le-sum_by}
use Rattle.choice_core.specs.Problems.{greatest_own}
use Rattle.choice_core.proofs.Limits.{due_le, bound_small}
use Rattle.choice_core.proofs.Growth.{least_by_is}
use Rattle.choice_core.proofs.Rises.{ahead_facts}
use Rattle.choice_core.proofs.rising.look_ahead.Goals as goal

pub least_by-least-requires : goal.least_by-least-requires
least_by-least-requires c = λ t. (
    let p = c.args.problem.now in
    let own = get_or-le-sum_by greatest_own p.own (length c.args.prefix.now) [] c.requires.short in
    rw (c.own.ensures, c.dues-dues.ensures t) (omega (arith, own, c.requires.problem.small, due_le p.fans c.args.prefix.now (length c.args.prefix.now) t)))

pub lost_sum-requires-clause-small : goal.lost_sum-requires-clause-small
lost_sum-requires-clause-small c =
    let p = c.args.problem.now in
    let facts = ahead_facts p c.requires.problem c.args.prefix.now c.requires.short in
    let limit = bound_small p c.requires.problem c.args.prefix.now c.requires.fits in
    omega (arith, facts, limit)

pub overflow_add-result : goal.overflow_add-result
overflow_add-result c =
    let p = c.args.problem.now in
    let facts = ahead_facts p c.requires.problem c.args.prefix.now c.requires.short in
    let limit = bound_small p c.requires.problem c.args.prefix.now c.requires.fits in
    let least = rw c.own.ensures at c.least_by-least.ensures in
    let is = least_by_is p.fans c.args.prefix.now (length c.args.prefix.now) (get_or p.own (length c.args.prefix.now) []) c.dues-dues.result c.dues-dues.ensures in
    omega (arith, facts, limit, least ∙ is, c.lost_sum.ensures)

pub overflow_add-result-2 : goal.overflow_add-result-2
overflow_add-result-2 c =
    let p = c.args.problem.now in
    let facts = ahead_facts p c.requires.problem c.args.prefix.now c.requires.short in
    let limit = bound_small p c.requires.problem c.args.prefix.now c.requires.fits in
    let least = rw c.own.ensures at c.least_by-least.ensures in
    let is = least_by_is p.fans c.args.prefix.now (length c.args.prefix.now) (get_or p.own (length c.args.prefix.now) []) c.dues-dues.result c.dues-dues.ensures in
    omega (arith, facts, limit, least ∙ is, c.lost_sum.ensures, c.followed.ensures)

pub returns : goal.returns
returns c =
    let p = c.args.problem.now in
    let least = rw c.own.ensures at c.least_by-least.ensures in
    let is = least_by_is p.fans c.args.prefix.now (length c.args.prefix.now) (get_or p.own (length c.args.prefix.now) []) c.dues-dues.result c.dues-dues.ensures in
    record { dues = c.dues-dues.ensures; falls = omega (arith, least ∙ is, c.lost_sum.ensures, c.followed.ensures) }
