use Rattle.std.proofs.Common.{◌∙◌, ap}
use Rattle.hy_links.proofs.Chains.{not_Stands-make}
use Rattle.gate_arena.proofs.MirrorLaws.{IsMirror-push, free-push, low-left}
use Rattle.gate_net.specs.Literal.{wire_of}
use Rattle.gate_arena.proofs.wires.Wires.push.Goals as goal

pub push-requires-in-Ok-clause-free : goal.push-requires-in-Ok-clause-free
push-requires-in-Ok-clause-free c = rw (c.in-Ok.ensures.ok, c.in-Ok.ensures.number) (not_Stands-make c.self.inside.links 0 c.is_linked_once.ensures)

pub push-requires-in-Ok-2-clause-free : goal.push-requires-in-Ok-2-clause-free
push-requires-in-Ok-2-clause-free c = free-push c.self.inside.links c.make.new.self c.push-in-Ok.new.self c.in-Ok.node c.wire_of.result (low-left c.self.inside.gates.items c.self.inside.links c.args.gate c.wire_of.result c.self.invariant (rw (← c.self.view_is) at c.requires.within) (c.wire_of.ensures ∙ ap wire_of c.input_of.ensures)) c.is_linked_once.ensures c.in-Ok.ensures.number c.in-Ok.ensures.ok c.push-in-Ok.ensures

pub invariant_of-self-in-Ok : goal.invariant_of-self-in-Ok
invariant_of-self-in-Ok c =
    IsMirror-push c.self.inside.gates.items c.push.new.self.items c.self.inside.links c.make.new.self c.push-in-Ok.new.self c.push-in-Ok-2.new.self c.args.gate c.in-Ok.node c.wire_of.result c.wire_of-in-Ok.result
    c.self.invariant c.is_linked_once.ensures
    (rw (← c.self.view_is) at c.requires.within)
    c.in_ok-push.ensures.items
    c.in-Ok.ensures.number
    (c.wire_of.ensures ∙ ap wire_of c.input_of.ensures)
    (c.wire_of-in-Ok.ensures ∙ ap wire_of c.input_of-in-Ok.ensures)
    c.in-Ok.ensures.ok
    c.push-in-Ok.ensures
    c.push-in-Ok-2.ensures
