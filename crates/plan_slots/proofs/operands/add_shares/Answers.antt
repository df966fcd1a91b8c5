use Rattle.plan_slots.proofs.OperandLaws.{shares-more, shares-none}
use Rattle.plan_slots.proofs.operands.add_shares.Goals as goal

pub loop-offset-init : goal.loop-offset-init
loop-offset-init c = shares-none c.args.codes.now c.args.place c.args.out.now.items

pub loop-offset-preserved : goal.loop-offset-preserved
loop-offset-preserved c =
    shares-more c.args.codes.now c.args.place c.loop-offset.offset c.code_at.result c.args.out.now.items c.loop-offset.out.items c.add_share.new.out.items c.code_at.ensures c.loop-offset.invariant c.in_ok-add_share.ensures
