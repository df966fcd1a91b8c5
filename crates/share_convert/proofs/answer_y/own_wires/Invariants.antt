use Rattle.std.proofs.Common.{◌≡◌, ◌<◌, ◌≤◌, ℕ, true, []}
use Rattle.hy_bits.specs.declared.turns.Role.TheVariants.{P0}
use Rattle.share_core.specs.Conversions.{own_label}
use Rattle.share_core.specs.Garbled.{wire, zero_label}
use Rattle.share_convert.proofs.answer_y.own_wires.Given as goal

abbrev pub invariant-loop-i : goal.invariant-loop-i
invariant-loop-i l = record {
  filled : (k : ℕ) → k < l.i → wire l.labels.list k ≡ own_label P0 true l.half.words [] k;
  rest : (k : ℕ) → l.i ≤ k → wire l.labels.list k ≡ zero_label;
}
