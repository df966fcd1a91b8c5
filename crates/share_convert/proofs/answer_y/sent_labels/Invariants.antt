use Rattle.std.proofs.Common.{◌≡◌, ◌<◌, ◌≤◌, ◌*◌, ℕ, drop}
use Rattle.share_core.specs.Garbled.{label_of}
use Rattle.share_core.specs.Garbled.{wire, zero_label}
use Rattle.share_convert.proofs.answer_y.sent_labels.Given as goal

abbrev pub invariant-loop-i : goal.invariant-loop-i
invariant-loop-i l = record {
  filled : (k : ℕ) → k < l.i → wire l.labels.list k ≡ label_of (drop (16 * k) l.inbox);
  rest : (k : ℕ) → l.i ≤ k → wire l.labels.list k ≡ zero_label;
}
