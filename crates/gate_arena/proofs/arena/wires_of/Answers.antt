use Rattle.std.proofs.Common.{ap, arith, length}
use Rattle.std.proofs.lemmas.List.{length-take-le}
use Rattle.gate_arena.proofs.ArenaLaws.{next-uses}
use Rattle.gate_arena.proofs.arena.wires_of.Goals as goal

pub push-requires-clause-within : goal.push-requires-clause-within
push-requires-clause-within c = rw c.loop-gate.invariant.starts (next-uses c.args.starts c.loop-gate.gate-index c.args.gates.now c.loop-gate.wires.gates _ c.requires.ordered c.loop-gate-test.true c.loop-gate.invariant.gates)

pub push-requires-clause-room : goal.push-requires-clause-room
push-requires-clause-room c = omega (arith, ap length c.loop-gate.invariant.gates, length-take-le c.loop-gate.gate-index c.args.gates.now)
