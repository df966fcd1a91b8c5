use Rattle.std.proofs.Common.{◌≡◌, ◌*◌, get_or, ap, ◌∙◌, arith}
use Rattle.c_scan.specs.Literals.{digit_value}
use Rattle.c_scan.proofs.Values.{value_from-next}
use Rattle.c_scan.proofs.literal.value_of.Goals as goal

pub returns-in_err-shifted : goal.returns-in_err-shifted
returns-in_err-shifted c =
    let next = value_from-next c.args.base c.loop-byte.value c.args.digits.now c.loop-byte.byte-index c.requires c.loop-byte-test.true in
    rw c.from_residual.ensures (λ below. c.in_err-shifted.ensures (rw c.from.ensures (omega (arith, c.loop-byte.invariant.0))))

pub returns-in_err-value : goal.returns-in_err-value
returns-in_err-value c =
    let next = value_from-next c.args.base c.loop-byte.value c.args.digits.now c.loop-byte.byte-index c.requires c.loop-byte-test.true in
    let shifted : c.in_ok-shifted.shifted ≡ c.loop-byte.value * c.args.base = c.in_ok-shifted.ensures.1 ∙ ap (λ b. c.loop-byte.value * b) c.from.ensures in
    let digit : c.from-in-loop-byte.result ≡ digit_value (get_or c.args.digits.now c.loop-byte.byte-index 0) = c.from-in-loop-byte.ensures ∙ c.digit_value.ensures in
    rw c.from_residual-in_err-value.ensures (λ below. c.in_err-value.ensures (omega (arith, c.loop-byte.invariant.0)))
