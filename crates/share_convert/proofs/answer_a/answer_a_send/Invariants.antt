use Rattle.std.proofs.Common.{◌≡◌, ◌*◌, take}
use Rattle.share_core.specs.Bytes.{byte_count}
use Rattle.share_core.specs.Conversions.{word_piece}
use Rattle.share_core.specs.Garbled.{joined}
use Rattle.share_convert.proofs.answer_a.answer_a_send.Given as goal

abbrev pub invariant-loop-i : goal.invariant-loop-i
invariant-loop-i l = take (2 * byte_count l.fn.w * l.i) l.out ≡ joined l.i (λ k. word_piece l.fn.w l.own l.fn.chosen.bits l.dealt.words k)
