use Rattle.std.proofs.Common.{length, arith}
use Rattle.share_core.proofs.ByteLaws.{bytes-more, bytes-done}
use Rattle.share_core.specs.Bytes.{bytes}
use Rattle.share_core.proofs.byte_numbers.write_number.Goals as goal

pub loop-byte-preserved : goal.loop-byte-preserved
loop-byte-preserved c = bytes-more (length c.args.out.now) c.loop-byte.rest c.loop-byte.out (bytes (length c.args.out.now) c.args.value) c.loop-byte.byte-index (omega arith) (omega arith) c.loop-byte.invariant

pub returns : goal.returns
returns c = bytes-done (length c.args.out.now) c.loop-byte.rest c.loop-byte.out (bytes (length c.args.out.now) c.args.value) c.loop-byte.byte-index (omega arith) (omega arith) c.loop-byte.invariant
