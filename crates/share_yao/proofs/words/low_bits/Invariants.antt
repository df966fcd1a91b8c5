use Rattle.std.proofs.Common.{◌≡◌}
use Rattle.share_core.specs.Garbled.{low_bit, wire, word_of_bits}
use Rattle.share_yao.proofs.words.low_bits.Given as goal

abbrev pub invariant-loop-i : goal.invariant-loop-i
invariant-loop-i l = l.word ≡ word_of_bits l.i (λ k. low_bit (wire l.labels.list k))
