use Rattle.std.proofs.Common.{◌≡◌, map, take}
use Rattle.gate_arena.specs.Order.{new_gate_at}
use Rattle.gate_arena.proofs.walk.Walk.new_gates.Given as goal

abbrev pub invariant-loop-place : goal.invariant-loop-place
invariant-loop-place l = l.gates.items ≡ map (new_gate_at l.arena.circuit l.self.order) (take l.place-index l.place-items)
