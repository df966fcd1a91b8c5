use Rattle.std.proofs.Common.{◌≡◌, take}
use Rattle.hy_bits.specs.Bits.{number}
use Rattle.hy_bits.proofs.bits.word_of.Given as goal

abbrev pub invariant-loop-place : goal.invariant-loop-place
invariant-loop-place l = l.word ≡ number (take l.place l.bits)
