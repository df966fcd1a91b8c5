use Rattle.std.proofs.Common.{◌≡◌, ◌<◌, ◌≤◌, ◌*◌, ℕ, drop}
use Rattle.share_core.specs.Boolean.{bit_of}
use Rattle.share_core.specs.Conversions.{picked_label}
use Rattle.share_core.specs.Garbled.{dealt_label}
use Rattle.share_core.specs.Garbled.{wire, zero_label}
use Rattle.share_convert.proofs.answer_y.picked_labels.Given as goal

abbrev pub invariant-loop-i : goal.invariant-loop-i
invariant-loop-i l = record {
  filled : (k : ℕ) → k < l.i → wire l.labels.list k ≡ picked_label (bit_of l.x k) (dealt_label l.half.words (2 * k)) (drop (32 * k) l.pairs);
  rest : (k : ℕ) → l.i ≤ k → wire l.labels.list k ≡ zero_label;
}
