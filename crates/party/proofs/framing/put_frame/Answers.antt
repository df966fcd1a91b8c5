use Rattle.std.proofs.Common.{arith}
use Rattle.party.proofs.Listed.{length-frame_for}
use Rattle.party.proofs.framing.put_frame.Goals as goal

pub put_head-requires : goal.put_head-requires
put_head-requires c = omega (arith, length-frame_for c.args.kind c.args.payload.now)
