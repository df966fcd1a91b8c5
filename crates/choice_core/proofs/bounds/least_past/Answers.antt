use Rattle.std.proofs.Common.{ap, arith, length}
use Rattle.choice_core.proofs.Limits.{bound_small}
use Rattle.choice_core.proofs.Loops.{least_past_more, least_past_end}
use Rattle.choice_core.proofs.bounds.least_past.Goals as goal

pub overflow_add-total : goal.overflow_add-total
overflow_add-total c =
    let rows = ap length c.own-number-end.ensures in
    let more = least_past_more c.args.problem.now.fans c.args.prefix.now c.args.problem.now.own c.loop-number.number (omega (arith, c.loop-number-test.true, rows)) in
    let limit = bound_small c.args.problem.now c.requires.problem c.args.prefix.now c.requires.fits in
    omega (arith, c.least_at-total.ensures, more, limit, c.loop-number.invariant)

pub loop-number-preserved : goal.loop-number-preserved
loop-number-preserved c =
    let rows = ap length c.own-number-end.ensures in
    let more = least_past_more c.args.problem.now.fans c.args.prefix.now c.args.problem.now.own c.loop-number.number (omega (arith, c.loop-number-test.true, rows)) in
    omega (arith, c.least_at-total.ensures, more, c.loop-number.invariant)

pub returns : goal.returns
returns c =
    let rows = ap length c.own-number-end.ensures in
    let none = least_past_end c.args.problem.now.fans c.args.prefix.now c.args.problem.now.own c.loop-number.number (omega (arith, c.loop-number-test.false, rows)) in
    omega (arith, none, c.loop-number.invariant)
