use Rattle.std.proofs.Common.{◌-◌, ◌≤◌, length, take}
use Rattle.std.specs.Io.KnownBytes.{Appends}
use Rattle.command_io.proofs.printing.print.Given as goal

abbrev pub invariant-loop-written : goal.invariant-loop-written
invariant-loop-written g l = (l.written ≤ length l.text) × Appends (g.S.Sink.taken l.initial.sink) (g.S.Sink.taken l.sink) (take l.written l.text) × (g.S.Sink.faults l.initial.sink ≤ g.S.Sink.faults l.sink)

abbrev pub decreases-loop-written : goal.decreases-loop-written
decreases-loop-written g l = length l.text - l.written
