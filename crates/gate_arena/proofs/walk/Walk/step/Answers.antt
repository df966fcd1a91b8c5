use Rattle.gate_net.specs.declared.literal.Gate.TheVariants.{And}
use Rattle.gate_net.specs.Circuit.{wire_count}
use Rattle.gate_arena.proofs.PathLaws.{left-low, right-low}
use Rattle.gate_arena.proofs.WalkLaws.{gate-stands, on_ok, way-end, way-enter}
use Rattle.gate_arena.proofs.walk.Walk.step.Goals as goal

pub open_input-requires-clause-left : goal.open_input-requires-clause-left
open_input-requires-clause-left c = left-low (wire_count c.args.arena.now.circuit) _ (c.has_values.ensures.uses c.args.place _ (gate-stands c.args.arena.now.circuit c.gates.result.now c.args.place c.args.self.now.count (And (record { code = 0 }) (record { code = 0 })) c.gates.ensures c.requires.low c.requires.count))

pub open_input-requires-clause-right : goal.open_input-requires-clause-right
open_input-requires-clause-right c = right-low (wire_count c.args.arena.now.circuit) _ (c.has_values.ensures.uses c.args.place _ (gate-stands c.args.arena.now.circuit c.gates.result.now c.args.place c.args.self.now.count (And (record { code = 0 }) (record { code = 0 })) c.gates.ensures c.requires.low c.requires.count))

pub returns-in-Some-clause-way : goal.returns-in-Some-clause-way
returns-in-Some-clause-way c = on_ok c.enter.result _ _ c.enter.ensures.ok (λ is begun wire on.
    way-enter c.args.arena.now.circuit c.has_values.ensures.acyclic c.args.self.now c.args.place _ (gate-stands c.args.arena.now.circuit c.gates.result.now c.args.place c.args.self.now.count (And (record { code = 0 }) (record { code = 0 })) c.gates.ensures c.requires.low c.requires.count) c.requires.last c.in-Some.input c.enter.new.self c.in-Some.ensures is begun wire on)

pub returns-in-None-clause-way : goal.returns-in-None-clause-way
returns-in-None-clause-way c = on_ok c.end.result _ _ c.end.ensures.ok (λ is begun wire on.
    way-end c.args.arena.now.circuit c.has_values.ensures.acyclic c.args.self.now c.args.place _ (gate-stands c.args.arena.now.circuit c.gates.result.now c.args.place c.args.self.now.count (And (record { code = 0 }) (record { code = 0 })) c.gates.ensures c.requires.low c.requires.count) c.requires.last c.end.new.self c.in-None.ensures is begun wire on)
