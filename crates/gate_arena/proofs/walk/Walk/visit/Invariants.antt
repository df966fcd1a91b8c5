use Rattle.std.proofs.Common.{◌*◌, ◌-◌, length}
use Rattle.gate_arena.specs.Inside.{IsOnWay, distance}
use Rattle.gate_arena.proofs.walk.Walk.visit.Given as goal

abbrev pub invariant-loop-place : goal.invariant-loop-place
invariant-loop-place l = IsOnWay l.arena.circuit l.fn.self.order l.wire l.self

abbrev pub decreases-loop-place : goal.decreases-loop-place
decreases-loop-place l = 2 * length l.arena.circuit.gates - distance l.self
