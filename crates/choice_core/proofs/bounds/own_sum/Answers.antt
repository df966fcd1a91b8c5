use Rattle.std.proofs.Common.{◌+◌, ◌<◌, ap, sym, ◌∙◌, arith, length, rules, take}
use Rattle.std.specs.Option.{unwrap_or}
use Rattle.choice_core.specs.declared.sharings.Choice.TheVariants.{A}
use Rattle.choice_core.proofs.Sums.{Fits-within}
use Rattle.choice_core.proofs.Limits.{own_sum_more, own_sum_le}
use Rattle.choice_core.proofs.Loops.{own_sum-nil}
use Rattle.choice_core.proofs.bounds.own_sum.Goals as goal

pub loop-number-init : goal.loop-number-init
loop-number-init c = sym (own_sum-nil c.args.rows.now)

pub offset_bounds-rows-number : goal.offset_bounds-rows-number
offset_bounds-rows-number c =
    let within = Fits-within c.args.rows.now c.args.choices.now c.requires.fits in
    let below : c.loop-number.number < length c.args.rows.now = omega arith in
    search rules

pub bounds-rows-number : goal.bounds-rows-number
bounds-rows-number c = let within = Fits-within c.args.rows.now c.args.choices.now c.requires.fits in omega arith

pub overflow_add-total : goal.overflow_add-total
overflow_add-total c =
    let own = c.unwrap_or-total.ensures ∙ ap (λ o. unwrap_or o 0) c.own_cost.ensures in
    let more = own_sum_more c.args.rows.now c.args.choices.now c.loop-number.number A c.loop-number-test.true in
    let limit = own_sum_le c.args.rows.now (take (c.loop-number.number + 1) c.args.choices.now) in
    omega (arith, own, more, limit, c.loop-number.invariant, c.requires.small)

pub loop-number-preserved : goal.loop-number-preserved
loop-number-preserved c =
    let own = c.unwrap_or-total.ensures ∙ ap (λ o. unwrap_or o 0) c.own_cost.ensures in
    let more = own_sum_more c.args.rows.now c.args.choices.now c.loop-number.number A c.loop-number-test.true in
    omega (arith, own, more, c.loop-number.invariant)
