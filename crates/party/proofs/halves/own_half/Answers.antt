use Rattle.std.proofs.Common.{◌≡◌, ◌+◌, ◌-◌, ◌≤◌, ◌++◌, ℕ, List, [], length, sym, ap, subst, ◌∙◌, arith}
use Rattle.hy_bits.specs.declared.turns.Role as Role
use Rattle.hy_bits.specs.declared.turns.Role.TheVariants.{P0}
use Rattle.byte_queue.specs.Ring.{spare}
use Rattle.share_core.specs.Instructions.{frame_for}
use Rattle.share_core.specs.Levels.{level_message, summed}
use Rattle.share_core.specs.Machine.{View, gate_message, rule, slots_after}
use Rattle.share_core.specs.declared.instr.Instr.{Instr}
use Rattle.party.specs.Gates.{gate_sent}
use Rattle.party.specs.Steps.{view}
use Rattle.party.proofs.Senders.{level_rule_message, level_slots, message_alone, own_level, room_after, slots_alone}
use Rattle.party.proofs.LevelSteps.{length-level}
use Rattle.party.proofs.Listed.{framed, length-frame_for}
use Rattle.party.proofs.halves.own_half.Goals as goal

pub put_head-requires : goal.put_head-requires
put_head-requires g c =
    let i : Instr = c.args.instr.now in
    let v : View = view c.args.role c.args.gates.now c.args.codes.now c.args.slots.now c.args.offset c.args.chosen c.args.own (λ k. (g.H.Halves.meant c.args.halves.now c.args.role k).words) in
    omega (arith, length-frame_for i.kind (rule i.kind i v).message, c.requires.room)

pub level_garble-requires-clause-room : goal.level_garble-requires-clause-room
level_garble-requires-clause-room g c =
    let i : Instr = c.args.instr.now in
    let v : View = view c.args.role c.args.gates.now c.args.codes.now c.args.slots.now c.args.offset c.args.chosen c.args.own (λ k. (g.H.Halves.meant c.args.halves.now c.args.role k).words) in
    let is = sym c.is_level.ensures ∙ c.if-is_level.true in
    let gates = c.gates_of-gates.result.now in
    let first : P0 ≡ c.args.role = own_level i.kind c.args.role is c.requires.own c.requires.other in
    let size : length (rule i.kind i v).message ≡ summed (λ gate. gate_sent gate.kind gate.width P0) gates =
    ap length (level_rule_message i v is) ∙ ap (λ (gs : List Instr). length (level_message (λ k gate. gate_message v k gate gate.kind) 0 gs)) (sym c.gates_of-gates.ensures.gates) ∙ length-level v gates
    ∙ ap (λ (r : Role.Role). summed (λ gate. gate_sent gate.kind gate.width r) gates) (sym first) in
    let room = c.put_head.ensures.room in
    let fits : 5 + summed (λ gate. gate_sent gate.kind gate.width P0) gates ≤ c.put_head.new.outbox.room - length c.args.outbox.now.items =
    omega (arith, length-frame_for i.kind (rule i.kind i v).message, c.requires.room, size, room) in
    room_after c.args.outbox.now.items c.put_head.new.outbox.items i.kind _ _ c.put_head.new.outbox.room c.put_head.ensures.items fits

pub returns-then-is_level-clause-items : goal.returns-then-is_level-clause-items
returns-then-is_level-clause-items g c =
    let i : Instr = c.args.instr.now in
    let half : Role.Role → ℕ → List ℕ = λ r k. (g.H.Halves.meant c.args.halves.now r k).words in
    let v : View = view P0 c.args.gates.now c.args.codes.now c.args.slots.now c.args.offset c.args.chosen c.args.own (half P0) in
    let is = sym c.is_level.ensures ∙ c.if-is_level.true in
    let gates = c.gates_of-gates.result.now in
    let same : level_message (λ k gate. gate_message v k gate gate.kind) 0 gates ≡ (rule i.kind i v).message =
    ap (λ (gs : List Instr). level_message (λ k gate. gate_message v k gate gate.kind) 0 gs) c.gates_of-gates.ensures.gates ∙ sym (level_rule_message i v is) in
    subst (λ (r : Role.Role). c.level_garble.new.outbox.items ≡ c.args.outbox.now.items ++ frame_for i.kind (rule i.kind i (view r c.args.gates.now c.args.codes.now c.args.slots.now c.args.offset c.args.chosen c.args.own (half r))).message) (own_level i.kind c.args.role is c.requires.own c.requires.other)
    (framed c.args.outbox.now.items c.put_head.new.outbox.items c.level_garble.new.outbox.items (rule i.kind i v).message i.kind c.message_length.result c.put_head.ensures.items
    (c.message_length.ensures.value ∙ sym (length-level v gates) ∙ ap length same)
    (c.level_garble.ensures.items c.args.gates.now c.args.codes.now c.args.chosen c.args.own ∙ ap (λ (xs : List ℕ). c.put_head.new.outbox.items ++ xs) same))

pub returns-then-is_level-clause-slots : goal.returns-then-is_level-clause-slots
returns-then-is_level-clause-slots g c =
    let i : Instr = c.args.instr.now in
    let half : Role.Role → ℕ → List ℕ = λ r k. (g.H.Halves.meant c.args.halves.now r k).words in
    let v : View = view P0 c.args.gates.now c.args.codes.now c.args.slots.now c.args.offset c.args.chosen c.args.own (half P0) in
    let is = sym c.is_level.ensures ∙ c.if-is_level.true in
    subst (λ (r : Role.Role). c.level_put.new.slots ≡ slots_after i (view r c.args.gates.now c.args.codes.now c.args.slots.now c.args.offset c.args.chosen c.args.own (half r)) []) (own_level i.kind c.args.role is c.requires.own c.requires.other)
    (level_slots i v [] c.gates_of-gates.result.now c.level_put.new.slots _ is c.gates_of-gates.ensures.gates c.level_put.ensures (c.level_garble.ensures.shares c.args.gates.now c.args.codes.now c.args.chosen c.args.own))

pub garbler_sends-requires-clause-room : goal.garbler_sends-requires-clause-room
garbler_sends-requires-clause-room g c =
    let i : Instr = c.args.instr.now in
    let half : ℕ → List ℕ = λ k. (g.H.Halves.meant c.args.halves.now c.args.role k).words in
    let v : View = view c.args.role c.args.gates.now c.args.codes.now c.args.slots.now c.args.offset c.args.chosen c.args.own half in
    let single = sym c.is_level.ensures ∙ c.if-is_level.false in
    let seen : Role.Role → List ℕ → View = λ r words. view r [] c.args.codes.now c.args.slots.now c.args.offset c.args.chosen c.args.own (λ k. words) in
    let dealt : half 0 ≡ c.half-half.result.words = sym (ap (λ h. h.words) c.half-half.ensures) in
    let same : (rule i.kind i v).message ≡ (rule i.kind i (seen P0 c.half-half.result.words)).message =
    message_alone i v single ∙ ap (λ (words : List ℕ). (rule i.kind i (seen c.args.role words)).message) dealt ∙ ap (λ (r : Role.Role). (rule i.kind i (seen r c.half-half.result.words)).message) c.in-P0.is in
    subst (λ (payload : List ℕ). length (frame_for i.kind payload) ≤ spare c.args.outbox.now) same c.requires.room

pub returns-in-P0-clause-items : goal.returns-in-P0-clause-items
returns-in-P0-clause-items g c =
    let i : Instr = c.args.instr.now in
    let half : ℕ → List ℕ = λ k. (g.H.Halves.meant c.args.halves.now c.args.role k).words in
    let v : View = view c.args.role c.args.gates.now c.args.codes.now c.args.slots.now c.args.offset c.args.chosen c.args.own half in
    let single = sym c.is_level.ensures ∙ c.if-is_level.false in
    let seen : Role.Role → List ℕ → View = λ r words. view r [] c.args.codes.now c.args.slots.now c.args.offset c.args.chosen c.args.own (λ k. words) in
    let dealt : half 0 ≡ c.half-half.result.words = sym (ap (λ h. h.words) c.half-half.ensures) in
    let same : (rule i.kind i v).message ≡ (rule i.kind i (seen P0 c.half-half.result.words)).message =
    message_alone i v single ∙ ap (λ (words : List ℕ). (rule i.kind i (seen c.args.role words)).message) dealt ∙ ap (λ (r : Role.Role). (rule i.kind i (seen r c.half-half.result.words)).message) c.in-P0.is in
    c.garbler_sends.ensures.items ∙ ap (λ (payload : List ℕ). c.args.outbox.now.items ++ frame_for i.kind payload) (sym same)

pub returns-in-P0-clause-slots : goal.returns-in-P0-clause-slots
returns-in-P0-clause-slots g c =
    let i : Instr = c.args.instr.now in
    let half : ℕ → List ℕ = λ k. (g.H.Halves.meant c.args.halves.now c.args.role k).words in
    let v : View = view c.args.role c.args.gates.now c.args.codes.now c.args.slots.now c.args.offset c.args.chosen c.args.own half in
    let single = sym c.is_level.ensures ∙ c.if-is_level.false in
    let seen : Role.Role → List ℕ → View = λ r words. view r [] c.args.codes.now c.args.slots.now c.args.offset c.args.chosen c.args.own (λ k. words) in
    let dealt : half 0 ≡ c.half-half.result.words = sym (ap (λ h. h.words) c.half-half.ensures) in
    let same : slots_after i v [] ≡ slots_after i (seen P0 c.half-half.result.words) [] =
    slots_alone i v [] single ∙ ap (λ (words : List ℕ). slots_after i (seen c.args.role words) []) dealt ∙ ap (λ (r : Role.Role). slots_after i (seen r c.half-half.result.words) []) c.in-P0.is in
    c.garbler_sends.ensures.slots ∙ sym same
