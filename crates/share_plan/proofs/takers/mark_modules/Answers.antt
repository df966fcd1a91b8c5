use Rattle.std.proofs.Common.{arith}
use Rattle.share_plan.proofs.TakerLaws.{taken-more, taken-none}
use Rattle.share_plan.proofs.takers.mark_modules.Goals as goal

pub loop-number-init : goal.loop-number-init
loop-number-init c = taken-none c.args.takers.now c.args.list.now c.args.choices.now

pub loop-number-preserved : goal.loop-number-preserved
loop-number-preserved c =
    taken-more c.args.takers.now c.loop-number.takers c.mark_each.new.takers c.args.list.now c.args.choices.now c.loop-number.number c.index-list-number.result _ c.as_slice.result.now c.sharing.result c.loop-number-test.true (omega (arith, c.requires, c.loop-number-test.true)) c.index-list-number.is c.as_slice.ensures
    c.sharing.ensures c.loop-number.invariant c.mark_each.ensures
