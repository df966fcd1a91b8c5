use Rattle.std.proofs.Common.{◌≡◌, ◌<◌, ◌≤◌, ℕ, []}
use Rattle.hy_bits.specs.declared.turns.Role.TheVariants.{P0}
use Rattle.share_core.specs.Conversions.{answer_label}
use Rattle.share_core.specs.Garbled.{wire, zero_label}
use Rattle.share_convert.proofs.answer_y.pair_wires.Given as goal

abbrev pub invariant-loop-i : goal.invariant-loop-i
invariant-loop-i l = record {
  filled : (k : ℕ) → k < l.i → wire l.labels.list k ≡ answer_label P0 l.shares l.fn.w 0 l.half.words [] k;
  rest : (k : ℕ) → l.i ≤ k → wire l.labels.list k ≡ zero_label;
}
