use Rattle.std.proofs.Common.{◌≡◌, ◌*◌, ◌%◌, slice_index}
use Rattle.hy_bits.specs.Words.{modulus}
use Rattle.share_core.specs.Conversions.{sum_over}
use Rattle.share_convert.proofs.answer_a.kept.Given as goal

abbrev pub invariant-loop-i : goal.invariant-loop-i
invariant-loop-i l = l.sum ≡ sum_over l.i (λ k. slice_index l.half.words (3 * k)) % modulus l.fn.w
