use Rattle.std.proofs.Common.{◌≡◌, ◌*◌, take}
use Rattle.share_core.specs.Garbled.{joined}
use Rattle.share_core.specs.Garbled.{input_piece}
use Rattle.share_yao.proofs.words.input_send.Given as goal

abbrev pub invariant-loop-i : goal.invariant-loop-i
invariant-loop-i l = take (16 * l.i) l.out ≡ joined l.i (λ k. input_piece l.offset l.x l.half.words k)
