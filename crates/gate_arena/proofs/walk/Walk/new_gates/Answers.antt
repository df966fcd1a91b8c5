use Rattle.std.proofs.Common.{arith, ap, get_or, length, refl}
use Rattle.gate_net.specs.declared.literal.Gate.TheVariants.{And}
use Rattle.gate_arena.proofs.WalkLaws.{gate-stands, place-low}
use Rattle.gate_arena.proofs.walk.Walk.new_gates.Goals as goal

pub bounds-old-place : goal.bounds-old-place
bounds-old-place c = omega (arith, place-low c.args.self.now.order c.order-place-items.result.now (length c.args.arena.now.circuit.gates) c.loop-place.place-index c.order-place-items.ensures c.requires.order_low c.loop-place-test.true, ap length c.gates-old.ensures)

pub new_gate-requires-clause-stands : goal.new_gate-requires-clause-stands
new_gate-requires-clause-stands c =
    c.has_values.ensures.uses (get_or c.order-place-items.result.now c.loop-place.place-index 0) _
    (gate-stands c.args.arena.now.circuit c.gates-old.result.now (get_or c.order-place-items.result.now c.loop-place.place-index 0) (length c.args.arena.now.circuit.gates) (And (record { code = 0 }) (record { code = 0 })) c.gates-old.ensures
    (place-low c.args.self.now.order c.order-place-items.result.now (length c.args.arena.now.circuit.gates) c.loop-place.place-index c.order-place-items.ensures c.requires.order_low c.loop-place-test.true) refl)
