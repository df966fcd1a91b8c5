use Rattle.std.proofs.Common.{◌≡◌, ◌+◌, ◌-◌, ◌*◌, ◌++◌, ℕ, List, [], length, sym, ap, ◌∙◌, arith, length-append}
use Rattle.hy_bits.specs.Words.{bits}
use Rattle.hy_bits.specs.declared.turns.Role.TheVariants.{P0}
use Rattle.share_core.specs.Conversions.{carries_message, sum_label}
use Rattle.share_core.specs.Garbled.{wire}
use Rattle.share_core.specs.declared.labels.Label.{Label}
use Rattle.share_core.proofs.ByteLaws.{length-bytes}
use Rattle.share_core.proofs.ConversionLaws.{length-carries}
use Rattle.party.specs.Steps.{labels_in}
use Rattle.party.proofs.Carried.{carries-same, sum-same}
use Rattle.party.proofs.Listed.{framed, length-frame_for, put_same}
use Rattle.party.proofs.carries.carries_own.Goals as goal

pub put_head-requires : goal.put_head-requires
put_head-requires c =
    let w = c.args.instr.now.width in
    let a : ℕ → Label = labels_in P0 c.args.offset c.args.codes.now c.args.slots.now c.args.instr.now.left in
    let b : ℕ → Label = labels_in P0 c.args.offset c.args.codes.now c.args.slots.now (c.args.instr.now.left + bits w) in
    omega (arith, length-frame_for c.args.instr.now.kind (carries_message w c.args.offset c.args.instr.now.value a b), c.requires)

pub garble_sum-sums-requires : goal.garble_sum-sums-requires
garble_sum-sums-requires c =
    let w = c.args.instr.now.width in
    let a : ℕ → Label = labels_in P0 c.args.offset c.args.codes.now c.args.slots.now c.args.instr.now.left in
    let b : ℕ → Label = labels_in P0 c.args.offset c.args.codes.now c.args.slots.now (c.args.instr.now.left + bits w) in
    let frame = length-frame_for c.args.instr.now.kind (carries_message w c.args.offset c.args.instr.now.value a b) in
    let message = length-carries w c.args.offset c.args.instr.now.value a b in
    let head = ap length c.put_head.ensures.items ∙ length-append c.args.outbox.now.items _ in
    omega (arith, frame, message, c.requires, head, length-bytes 4 (32 * (c.bits-count.result - 1)), c.put_head.ensures.room)

pub returns-clause-items : goal.returns-clause-items
returns-clause-items c =
    let w = c.args.instr.now.width in
    let left = c.args.instr.now.left in
    let a : ℕ → Label = labels_in P0 c.args.offset c.args.codes.now c.args.slots.now left in
    let b : ℕ → Label = labels_in P0 c.args.offset c.args.codes.now c.args.slots.now (left + bits w) in
    let same : carries_message w c.args.offset c.args.instr.now.value (wire c.labels_of_codes-a.result.list) (wire c.labels_of_codes-b.result.list) ≡ carries_message w c.args.offset c.args.instr.now.value a b =
    carries-same w c.args.offset c.args.instr.now.value _ _ a b c.labels_of_codes-a.ensures (λ k less. c.labels_of_codes-b.ensures k less ∙ ap (λ (n : ℕ). labels_in P0 c.args.offset c.args.codes.now c.args.slots.now (left + n) k) c.bits-count.ensures) in
    framed c.args.outbox.now.items c.put_head.new.outbox.items c.garble_sum-sums.new.outbox.items (carries_message w c.args.offset c.args.instr.now.value a b) c.args.instr.now.kind (32 * (c.bits-count.result - 1)) c.put_head.ensures.items
    (ap (λ (n : ℕ). 32 * (n - 1)) c.bits-count.ensures ∙ sym (length-carries w c.args.offset c.args.instr.now.value a b))
    (c.garble_sum-sums.ensures.items ∙ ap (λ (xs : List ℕ). c.put_head.new.outbox.items ++ xs) same)

pub returns-clause-slots : goal.returns-clause-slots
returns-clause-slots c =
    let w = c.args.instr.now.width in
    let left = c.args.instr.now.left in
    let a : ℕ → Label = labels_in P0 c.args.offset c.args.codes.now c.args.slots.now left in
    let b : ℕ → Label = labels_in P0 c.args.offset c.args.codes.now c.args.slots.now (left + bits w) in
    put_same c.args.slots.now c.put_labels.new.slots c.bits-count.result (bits w) _ (wire c.garble_sum-sums.result.list) (sum_label P0 c.args.offset c.args.instr.now.value a b []) c.bits-count.ensures
    (λ k less. c.garble_sum-sums.ensures.sums k less
    ∙ sum-same w P0 c.args.offset c.args.instr.now.value _ _ a b [] c.labels_of_codes-a.ensures (λ i below. c.labels_of_codes-b.ensures i below ∙ ap (λ (n : ℕ). labels_in P0 c.args.offset c.args.codes.now c.args.slots.now (left + n) i) c.bits-count.ensures) k less)
    c.put_labels.ensures
