use Rattle.std.proofs.Common.{◌≡◌, ◌/◌, ◌^◌, take}
use Rattle.hy_bits.specs.Bits.{low_bits}
use Rattle.hy_bits.proofs.bits.bits_of.Given as goal

abbrev pub invariant-loop-bit : goal.invariant-loop-bit
invariant-loop-bit l = (take l.bit-index l.out ≡ low_bits l.bit-index l.fn.a) × (l.rest ≡ l.fn.a / 2 ^ l.bit-index)
