use Rattle.std.proofs.Common.{refl, ap}
use Rattle.gate_arena.specs.Inside.{OutList}
use Rattle.gate_arena.proofs.ArenaLaws.{IsArena-add, KeepsValues-add}
use Rattle.gate_arena.proofs.arena.Arena.add.Goals as goal

pub invariant_of-self-in-Ok : goal.invariant_of-self-in-Ok
invariant_of-self-in-Ok c =
    IsArena-add (record { ins = c.self.inside.ins; gates = c.self.inside.wires.gates; outs = c.self.inside.outs.lits; budget = c.self.inside.budget }) _ c.args.gate _ _ _ _
    c.self.invariant
    (rw (← c.self.view_is) at c.requires.stand)
    (rw (← c.self.view_is) at c.requires.room)
    (rw (c.in-Ok.ensures.gates, c.in_ok-add_wire.ensures.ok) refl)
    c.in-Ok.ensures.starts
    (ap (λ (o : OutList). o.wires) c.in_ok-add_wire.ensures.ok)

pub returns-in-Ok-clause-values : goal.returns-in-Ok-clause-values
returns-in-Ok-clause-values c =
    rw (← c.self.view_is)
    (KeepsValues-add (record { ins = c.self.inside.ins; gates = c.self.inside.wires.gates; outs = c.self.inside.outs.lits; budget = c.self.inside.budget }) _ c.args.gate (rw (c.in-Ok.ensures.gates, c.in_ok-add_wire.ensures.ok) refl))
