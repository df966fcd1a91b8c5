use Rattle.gate_arena.proofs.MirrorLaws.{AreUses-of, walked-place}
use Rattle.gate_arena.proofs.wires.Wires.next_use.Goals as goal

pub returns-clause-uses : goal.returns-clause-uses
returns-clause-uses c = rw (← c.self.view_is) (AreUses-of c.self.inside.gates.items c.self.inside.links c.self.invariant c.is_linked_once.ensures c.args.wire)

pub returns-clause-next : goal.returns-clause-next
returns-clause-next c =
    rw (← c.self.view_is)
    (walked-place c.self.inside.gates.items c.args.wire c.args.after c.walk.result _ (AreUses-of c.self.inside.gates.items c.self.inside.links c.self.invariant c.is_linked_once.ensures c.args.wire) c.walk.ensures)
