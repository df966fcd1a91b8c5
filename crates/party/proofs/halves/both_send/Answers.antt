use Rattle.std.proofs.Common.{◌≡◌, ◌+◌, ◌-◌, ◌≤◌, ◌++◌, ℕ, List, length, sym, ap, subst, ◌∙◌, arith}
use Rattle.byte_queue.specs.Ring.{spare}
use Rattle.share_core.specs.Instructions.{frame_for}
use Rattle.share_core.specs.Levels.{level_message, summed}
use Rattle.share_core.specs.Machine.{View, gate_message, rule}
use Rattle.share_core.specs.declared.instr.Instr.{Instr}
use Rattle.party.specs.Gates.{gate_sent}
use Rattle.party.specs.Steps.{view}
use Rattle.party.proofs.Senders.{level_rule_message, opening_message, room_after}
use Rattle.party.proofs.LevelSteps.{length-level}
use Rattle.party.proofs.Listed.{framed, length-frame_for}
use Rattle.party.proofs.halves.both_send.Goals as goal

pub put_head-requires : goal.put_head-requires
put_head-requires g c =
    let i : Instr = c.args.instr.now in
    let v : View = view c.args.role c.args.gates.now c.args.codes.now c.args.slots.now c.args.offset c.args.chosen c.args.own (λ k. (g.H.Halves.meant c.args.halves.now c.args.role k).words) in
    omega (arith, length-frame_for i.kind (rule i.kind i v).message, c.requires.room)

pub level_send-requires-clause-room : goal.level_send-requires-clause-room
level_send-requires-clause-room g c =
    let i : Instr = c.args.instr.now in
    let v : View = view c.args.role c.args.gates.now c.args.codes.now c.args.slots.now c.args.offset c.args.chosen c.args.own (λ k. (g.H.Halves.meant c.args.halves.now c.args.role k).words) in
    let is = sym c.is_level.ensures ∙ c.if-is_level.true in
    let gates = c.gates_of-gates.result.now in
    let size : length (rule i.kind i v).message ≡ summed (λ gate. gate_sent gate.kind gate.width c.args.role) gates =
    ap length (level_rule_message i v is) ∙ ap (λ (gs : List Instr). length (level_message (λ k gate. gate_message v k gate gate.kind) 0 gs)) (sym c.gates_of-gates.ensures.gates) ∙ length-level v gates in
    let room = c.put_head.ensures.room in
    let fits : 5 + summed (λ gate. gate_sent gate.kind gate.width c.args.role) gates ≤ c.put_head.new.outbox.room - length c.args.outbox.now.items =
    omega (arith, length-frame_for i.kind (rule i.kind i v).message, c.requires.room, size, room) in
    room_after c.args.outbox.now.items c.put_head.new.outbox.items i.kind _ _ c.put_head.new.outbox.room c.put_head.ensures.items fits

pub open_send-requires : goal.open_send-requires
open_send-requires g c =
    let i : Instr = c.args.instr.now in
    let v : View = view c.args.role c.args.gates.now c.args.codes.now c.args.slots.now c.args.offset c.args.chosen c.args.own (λ k. (g.H.Halves.meant c.args.halves.now c.args.role k).words) in
    let single = sym c.is_level.ensures ∙ c.if-is_level.false in
    let e = c.opened_share.ensures in
    subst (λ (payload : List ℕ). length (frame_for i.kind payload) ≤ spare c.args.outbox.now) (opening_message i v c.args.role c.opened_share.result single c.requires.own c.requires.other e.a e.b e.y) (c.requires.room)

pub returns-then-is_level-clause-items : goal.returns-then-is_level-clause-items
returns-then-is_level-clause-items g c =
    let i : Instr = c.args.instr.now in
    let v : View = view c.args.role c.args.gates.now c.args.codes.now c.args.slots.now c.args.offset c.args.chosen c.args.own (λ k. (g.H.Halves.meant c.args.halves.now c.args.role k).words) in
    let is = sym c.is_level.ensures ∙ c.if-is_level.true in
    let gates = c.gates_of-gates.result.now in
    let same : level_message (λ k gate. gate_message v k gate gate.kind) 0 gates ≡ (rule i.kind i v).message =
    ap (λ (gs : List Instr). level_message (λ k gate. gate_message v k gate gate.kind) 0 gs) c.gates_of-gates.ensures.gates ∙ sym (level_rule_message i v is) in
    framed c.args.outbox.now.items c.put_head.new.outbox.items c.level_send.new.outbox.items (rule i.kind i v).message i.kind c.message_length.result c.put_head.ensures.items
    (c.message_length.ensures.value ∙ sym (length-level v gates) ∙ ap length same)
    (c.level_send.ensures.items c.args.gates.now c.args.codes.now c.args.chosen c.args.own ∙ ap (λ (xs : List ℕ). c.put_head.new.outbox.items ++ xs) same)

pub returns-else-is_level-clause-items : goal.returns-else-is_level-clause-items
returns-else-is_level-clause-items g c =
    let i : Instr = c.args.instr.now in
    let v : View = view c.args.role c.args.gates.now c.args.codes.now c.args.slots.now c.args.offset c.args.chosen c.args.own (λ k. (g.H.Halves.meant c.args.halves.now c.args.role k).words) in
    let single = sym c.is_level.ensures ∙ c.if-is_level.false in
    let e = c.opened_share.ensures in
    c.open_send.ensures.items ∙ ap (λ (payload : List ℕ). c.args.outbox.now.items ++ frame_for i.kind payload) (sym (opening_message i v c.args.role c.opened_share.result single c.requires.own c.requires.other e.a e.b e.y))
