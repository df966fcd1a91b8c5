use Rattle.bundle_core.proofs.MeaningLaws.{outputs-more}
use Rattle.bundle_core.proofs.meaning.net_bits.Goals as goal

pub loop-out-preserved : goal.loop-out-preserved
loop-out-preserved c =
    outputs-more c.args.net.now c.args.ins.now _ c.outs-out-items.result.now c.args.net.now.outs c.loop-out.out-index _ c.literal_bit.result c.loop-out.outs.items c.push.new.self.items c.outs-out-items.ensures.value c.loop-out-test.true c.value.ensures c.literal_bit.ensures c.loop-out.invariant c.in_ok-push.ensures.items
