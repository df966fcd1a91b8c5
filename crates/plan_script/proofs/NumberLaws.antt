-- Numbers among a ring circuit's arguments are words that its operations take.
use Rattle.std.proofs.Common.{◌≡◌, ℕ, zero, suc, ◌<◌, List, [], ◌∷◌, ◌++◌, get_or, length, ap, arith}
use Rattle.hy_bits.specs.declared.op.Op.{Op}
use Rattle.hy_bits.specs.declared.op.Op.TheVariants.{Add, Sub, Mul, Neg, Trunc}
use Rattle.hy_bits.specs.declared.width.Width.{Width}
use Rattle.hy_bits.specs.declared.width.Width.TheVariants.{W1, W8, W16, W32, W64}
use Rattle.hy_bits.specs.Op.{IsTakenBy}
use Rattle.hy_bits.specs.Words.{IsWord}
use Rattle.ring_net.specs.declared.ring.RingArg.{RingArg}
use Rattle.ring_net.specs.declared.ring.RingArg.TheVariants.{Var, Number}
use Rattle.ring_net.specs.declared.ring.RingGate.{RingGate}
use Rattle.ring_net.specs.Ring.{AreGates, FitsArg, FitsOperation, argument}
use Rattle.plan_script.specs.Gates.{TakesNumbers, arg_number}

zero-fits : (w : Width) → IsWord w 0
zero-fits W1 = omega arith
zero-fits W8 = omega arith
zero-fits W16 = omega arith
zero-fits W32 = omega arith
zero-fits W64 = omega arith

arg-fits : (widths : List Width) (w : Width) (a : RingArg) → FitsArg widths w a → IsWord w (arg_number a)
arg-fits widths w (Var k) fits = zero-fits w
arg-fits widths w (Number n) fits = fits

takes-op : (op : Op) (widths : List Width) (w : Width) (a b : RingArg) → FitsOperation widths op w a b → IsTakenBy op w w (arg_number a) (arg_number b) 0
takes-op Add widths w a b fits = (arg-fits widths w a fits.0, arg-fits widths w b fits.1)
takes-op Sub widths w a b fits = (arg-fits widths w a fits.0, arg-fits widths w b fits.1)
takes-op Mul widths w a b fits = (arg-fits widths w a fits.0, arg-fits widths w b fits.1)
takes-op Neg widths w a b fits = arg-fits widths w a fits.0
takes-op Trunc widths w (Var k) b fits = zero-fits w
takes-op Trunc widths w (Number n) b fits = absurd fits.0
takes-op _ widths w a b fits = absurd fits

takes-each : (widths : List Width) (gs : List RingGate) (i : ℕ) (d : RingGate) → AreGates widths gs → i < length gs → TakesNumbers (get_or gs i d)
takes-each widths [] i d are within = absurd (omega arith)
takes-each widths (g ∷ gs) zero d are within = takes-op g.op widths g.width (argument g 0) (argument g 1) are.0.operation
takes-each widths (g ∷ gs) (suc i) d are within = takes-each (widths ++ g.width ∷ []) gs i d are.1 (omega arith)

pub takes-at : (widths : List Width) (gs list : List RingGate) (i : ℕ) (d : RingGate) → AreGates widths gs → list ≡ gs → i < length list → TakesNumbers (get_or list i d)
takes-at widths gs list i d are is within = rw is (takes-each widths gs i d are (omega (arith, ap length is)))
