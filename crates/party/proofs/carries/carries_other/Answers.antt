use Rattle.std.proofs.Common.{◌+◌, ◌-◌, ◌*◌, ℕ, List, take, drop, ap, ◌∙◌}
use Rattle.hy_bits.specs.Words.{bits}
use Rattle.hy_bits.specs.declared.turns.Role.TheVariants.{P1}
use Rattle.share_core.specs.Conversions.{sum_label}
use Rattle.share_core.specs.Garbled.{wire}
use Rattle.share_core.specs.declared.labels.Label.{Label}
use Rattle.party.specs.Steps.{labels_in}
use Rattle.party.proofs.Carried.{sum-same}
use Rattle.party.proofs.Listed.{put_same}
use Rattle.party.proofs.carries.carries_other.Goals as goal

pub returns : goal.returns
returns c =
    let w = c.args.instr.now.width in
    let left = c.args.instr.now.left in
    let a : ℕ → Label = labels_in P1 c.args.offset c.args.codes.now c.args.slots.now left in
    let b : ℕ → Label = labels_in P1 c.args.offset c.args.codes.now c.args.slots.now (left + bits w) in
    let payload : List ℕ = take (32 * (bits w - 1)) (drop 5 c.args.inbox.now.items) in
    put_same c.args.slots.now c.put_labels.new.slots c.bits-count.result (bits w) _ (wire c.evaluate_sum-sums.result.list) (sum_label P1 c.args.offset c.args.instr.now.value a b payload) c.bits-count.ensures
    (λ k less. c.evaluate_sum-sums.ensures k less
    ∙ sum-same w P1 c.args.offset c.args.instr.now.value _ _ a b payload c.labels_of_codes-a.ensures (λ i below. c.labels_of_codes-b.ensures i below ∙ ap (λ (n : ℕ). labels_in P1 c.args.offset c.args.codes.now c.args.slots.now (left + n) i) c.bits-count.ensures) k less)
    c.put_labels.ensures
