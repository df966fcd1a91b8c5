use Rattle.std.proofs.Common.{Some, slice_get, ◌≡◌, refl}
use Rattle.hy_links.proofs.Chains.{not_Stands-without}
use Rattle.gate_arena.specs.Change.{moved}
use Rattle.gate_arena.specs.Inside.{with_input}
use Rattle.gate_arena.specs.Wiring.{input_of}
use Rattle.gate_arena.proofs.MirrorLaws.{IsMirror-moved, gate-read, replaced-moved, fewer-moved}
use Rattle.gate_arena.proofs.wires.Wires.move_use.Goals as goal

pub push-requires-clause-free : goal.push-requires-clause-free
push-requires-clause-free c = rw c.unlink.ensures (not_Stands-without c.self.inside.links c.args.link)

pub invariant_of-self : goal.invariant_of-self
invariant_of-self c =
    let here : slice_get c.self.inside.gates.items c.args.link.node ≡ Some c.index-gate.result.now = gate-read c.self.inside.gates.items c.args.link c.args.wire c.index-gate.result.now (rw (← c.self.view_is) at c.requires.place) c.index-gate.ensures in
    let made : c.with_input.result ≡ with_input c.index-gate.result.now c.args.link.side (moved c.args.by (input_of c.index-gate.result.now c.args.link.side)) = rw (c.with_input.ensures, c.moved-input.ensures, c.input_of.ensures) refl in
    IsMirror-moved c.self.inside.gates.items c.self.inside.links c.unlink.new.self c.push.new.self c.self.invariant c.is_linked_once.ensures c.args.wire c.wire_of.result c.args.link c.args.by
    (rw (← c.self.view_is) at c.requires.place)
    c.requires.apart
    (rw (← c.self.view_is) at c.requires.stands)
    c.wire_of.ensures
    c.unlink.ensures
    c.push.ensures
    c.index-gate.result.now
    c.with_input.result
    here
    made

pub returns-clause-gates : goal.returns-clause-gates
returns-clause-gates c =
    let here : slice_get c.self.inside.gates.items c.args.link.node ≡ Some c.index-gate.result.now = gate-read c.self.inside.gates.items c.args.link c.args.wire c.index-gate.result.now (rw (← c.self.view_is) at c.requires.place) c.index-gate.ensures in
    let made : c.with_input.result ≡ with_input c.index-gate.result.now c.args.link.side (moved c.args.by (input_of c.index-gate.result.now c.args.link.side)) = rw (c.with_input.ensures, c.moved-input.ensures, c.input_of.ensures) refl in
    rw (← c.self.view_is)
    (replaced-moved c.self.inside.gates.items c.self.inside.links c.unlink.new.self c.push.new.self c.self.invariant c.is_linked_once.ensures c.args.wire c.wire_of.result c.args.link c.args.by
    (rw (← c.self.view_is) at c.requires.place)
    c.requires.apart
    (rw (← c.self.view_is) at c.requires.stands)
    c.wire_of.ensures
    c.unlink.ensures
    c.push.ensures
    c.index-gate.result.now
    c.with_input.result
    here
    made)

pub returns-clause-fewer : goal.returns-clause-fewer
returns-clause-fewer c =
    rw (← c.self.view_is)
    (fewer-moved c.self.inside.gates.items c.self.inside.links c.unlink.new.self c.push.new.self c.self.invariant c.is_linked_once.ensures c.args.wire c.wire_of.result c.args.link c.args.by
    (rw (← c.self.view_is) at c.requires.place)
    c.requires.apart
    (rw (← c.self.view_is) at c.requires.stands)
    c.wire_of.ensures
    c.unlink.ensures
    c.push.ensures)
