use Rattle.std.proofs.Common.{◌≡◌, ◌<◌, ◌≤◌, ℕ}
use Rattle.share_core.specs.Garbled.{input_label, wire, zero_label}
use Rattle.share_yao.proofs.words.input_labels.Given as goal

abbrev pub invariant-loop-i : goal.invariant-loop-i
invariant-loop-i l = record {
  filled : (k : ℕ) → k < l.i → wire l.labels.list k ≡ input_label l.role l.half.words l.inbox k;
  rest : (k : ℕ) → l.i ≤ k → wire l.labels.list k ≡ zero_label;
}
