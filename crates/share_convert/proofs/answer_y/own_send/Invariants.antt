use Rattle.std.proofs.Common.{◌≡◌, ◌*◌, take}
use Rattle.share_core.specs.Conversions.{share_piece}
use Rattle.share_core.specs.Garbled.{joined}
use Rattle.share_convert.proofs.answer_y.own_send.Given as goal

abbrev pub invariant-loop-i : goal.invariant-loop-i
invariant-loop-i l = take (16 * l.i) l.out ≡ joined l.i (λ k. share_piece l.offset l.own l.half.words k)
