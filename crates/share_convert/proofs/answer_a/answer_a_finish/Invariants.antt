use Rattle.std.proofs.Common.{◌≡◌, ◌*◌, ◌%◌, drop, slice_index}
use Rattle.hy_bits.specs.Words.{modulus}
use Rattle.share_core.specs.Boolean.{bit_of}
use Rattle.share_core.specs.Bytes.{byte_count}
use Rattle.share_core.specs.Conversions.{picked_word, sum_over}
use Rattle.share_convert.proofs.answer_a.answer_a_finish.Given as goal

abbrev pub invariant-loop-i : goal.invariant-loop-i
invariant-loop-i l = l.sum ≡ sum_over l.i (λ k. picked_word l.fn.w (bit_of l.fn.chosen.bits k) (slice_index l.dealt.words k) (drop (2 * byte_count l.fn.w * k) l.inbox)) % modulus l.fn.w
