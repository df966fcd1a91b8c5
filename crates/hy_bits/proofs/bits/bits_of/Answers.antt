use Rattle.std.proofs.Common.{refl, arith}
use Rattle.hy_bits.specs.Bits.{low_bits}
use Rattle.hy_bits.proofs.BitSteps.{bits-more, rest-more}
use Rattle.hy_bits.proofs.bits.bits_of.Goals as goal

pub loop-bit-init : goal.loop-bit-init
unfolding low_bits
loop-bit-init c = (refl, omega arith)

pub loop-bit-preserved : goal.loop-bit-preserved
loop-bit-preserved c = (
  bits-more c.loop-bit.out c.loop-bit.bit-index c.args.a c.loop-bit.rest (omega arith) c.loop-bit.invariant.0 c.loop-bit.invariant.1,
  rest-more c.loop-bit.bit-index c.args.a c.loop-bit.rest c.loop-bit.invariant.1,
)
