use Rattle.std.proofs.Common.{refl, ap, ◌+◌}
use Rattle.gate_arena.specs.Inside.{OutList}
use Rattle.gate_arena.proofs.ArenaLaws.{IsArena-replace, KeepsValues-replace, away-from}
use Rattle.gate_arena.proofs.arena.Arena.replace.Goals as goal

pub replace-requires-clause-apart : goal.replace-requires-clause-apart
replace-requires-clause-apart c = away-from c.args.self.now.circuit (1 + c.args.var) c.args.by c.requires.free

pub replace-requires-2-clause-apart : goal.replace-requires-2-clause-apart
replace-requires-2-clause-apart c = away-from c.args.self.now.circuit (1 + c.args.var) c.args.by c.requires.free

pub invariant_of-self : goal.invariant_of-self
invariant_of-self c =
    IsArena-replace (record { ins = c.self.inside.ins; gates = c.self.inside.wires.gates; outs = c.self.inside.outs.lits; budget = c.self.inside.budget }) _ (1 + c.args.var) c.args.by _ _ _ _
    c.self.invariant
    (rw (← c.self.view_is) at c.requires.by_stands)
    (rw (← c.self.view_is) at c.requires.free)
    (rw (c.replace.ensures.gates, c.replace-2.ensures) refl)
    c.replace.ensures.starts
    (ap (λ (o : OutList). o.wires) c.replace-2.ensures)

pub returns-clause-values : goal.returns-clause-values
returns-clause-values c equal =
    rw (← c.self.view_is)
    (KeepsValues-replace (record { ins = c.self.inside.ins; gates = c.self.inside.wires.gates; outs = c.self.inside.outs.lits; budget = c.self.inside.budget }) _ c.args.var c.args.by
    (rw (c.replace.ensures.gates, c.replace-2.ensures) refl)
    (rw (← c.self.view_is) at c.requires.free)
    (rw (← c.self.view_is) at equal))
