use Rattle.std.proofs.Common.{◌≡◌, ◌≤◌, ◌*◌, ℕ, List, length, take, drop, replicate, ap, ◌∙◌, arith, length-take-le}
use Rattle.hy_bits.specs.Words.{bits}
use Rattle.hy_bits.specs.declared.turns.Role.TheVariants.{P1}
use Rattle.share_core.specs.Garbled.{input_label, wire}
use Rattle.party.proofs.Listed.{bits-le, put_same}
use Rattle.party.proofs.inputs.other_y.Goals as goal

pub returns : goal.returns
returns c =
    let w = c.args.instr.now.width in
    let items = c.args.inbox.now.items in
    let count = c.bits-count.result in
    let few : bits w ≤ 64 = bits-le w in
    let zeros : List ℕ = replicate 1024 0 in
    let long : length (take (16 * count) zeros) ≡ 16 * count = length-take-le (16 * count) zeros (omega (arith, c.bits-count.ensures)) in
    let size : length (take (16 * count) zeros) ≡ 16 * bits w = long ∙ ap (λ (n : ℕ). 16 * n) c.bits-count.ensures in
    let payload : c.copy.new.out ≡ take (16 * bits w) (drop 5 items) = c.copy.ensures ∙ ap (λ (n : ℕ). take n (drop 5 items)) size in
    put_same c.args.slots.now c.put_labels.new.slots count (bits w) _ (wire c.input_labels-labels.result.list) (input_label P1 c.args.half.now.words (take (16 * bits w) (drop 5 items))) c.bits-count.ensures
    (λ k less. c.input_labels-labels.ensures.labels k less ∙ ap (λ (p : List ℕ). input_label P1 c.args.half.now.words p k) payload) c.put_labels.ensures
