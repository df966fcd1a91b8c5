use Rattle.std.proofs.Common.{arith}
use Rattle.command_io.proofs.Prints.{Appends-further}
use Rattle.command_io.proofs.printing.print.Goals as goal

pub loop-written-preserved : goal.loop-written-preserved
loop-written-preserved g c = (omega (arith, c.in-Ok.ensures.bound), Appends-further _ _ _ c.loop-written.written c.in-Ok.count c.as_bytes-text.result.now c.loop-written.invariant.1 c.in-Ok.ensures.bytes, omega (arith, c.write.ensures.faults, c.in-Ok.ensures.calm))
