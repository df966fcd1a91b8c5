use Rattle.std.proofs.Common.{◌≡◌, ◌*◌, take}
use Rattle.share_core.specs.Conversions.{pair_piece}
use Rattle.share_core.specs.Garbled.{joined}
use Rattle.share_convert.proofs.answer_y.pairs_send.Given as goal

abbrev pub invariant-loop-i : goal.invariant-loop-i
invariant-loop-i l = take (32 * l.i) l.out ≡ joined l.i (λ k. pair_piece l.shares l.offset l.d l.half.words k)
