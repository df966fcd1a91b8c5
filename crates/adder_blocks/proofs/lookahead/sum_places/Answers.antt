use Rattle.std.proofs.lemmas.Result.{err_from_is_err_and}
use Rattle.std.proofs.Common.{◌<◌, false, length, get_or, sym, ◌∙◌, arith, ◌*◌}
use Rattle.std.proofs.lemmas.List.{length-map}
use Rattle.hy_bits.specs.Bits.{xor, sum_bit}
use Rattle.gate_net.specs.Meaning.{value}
use Rattle.gate_net.proofs.GrowthLaws.{Grows-value, Grows-level, Grows-trans, Grows-then, Grows-weaken, StopsWithin-after}
use Rattle.gate_net.specs.Spelled.{values}
use Rattle.gate_net.proofs.ListLaws.{Progress-push, AllWithin-push, equal_two, get_or-values}
use Rattle.adder_blocks.proofs.BitSteps.{bitwise_three-more}
use Rattle.adder_blocks.proofs.lookahead.sum_places.Goals as goal

pub loop-place-preserved : goal.loop-place-preserved
loop-place-preserved c =
    let p = c.loop-place.invariant.0 in
    let n = c.args.net.now in
    let q = Grows-trans c.in_ok-differ.ensures.grows c.in_ok-bit.ensures.grows in
    let one = Grows-trans p.grows c.in_ok-differ.ensures.grows in
    let at_a : c.loop-place.place < length c.args.a.now = c.loop-place-test.true in
    let at_b : c.loop-place.place < length c.args.b.now = omega (arith, c.requires.same_second) in
    let at_i : c.loop-place.place < length c.args.into.now = omega (arith, c.requires.same_third) in
    let stand_a = c.requires.first c.loop-place.place (record { code = 0 }) at_a in
    let stand_b = c.requires.second c.loop-place.place (record { code = 0 }) at_b in
    let stand_i = c.requires.third c.loop-place.place (record { code = 0 }) at_i in
    rw c.in_ok-push.ensures.items (
      Progress-push c.in_ok-bit.bit
          (λ bits. sum_bit (get_or (values n bits c.args.a.now) c.loop-place.place false) (get_or (values n bits c.args.b.now) c.loop-place.place false) (get_or (values n bits c.args.into.now) c.loop-place.place false))
          p q c.in_ok-bit.ensures.stands
          (λ bits. c.in_ok-bit.ensures.value bits
          ∙ equal_two xor
          (c.in_ok-differ.ensures.value bits ∙ equal_two xor (Grows-value p.grows bits _ stand_a ∙ sym (get_or-values n bits c.args.a.now c.loop-place.place (record { code = 0 }) false at_a)) (Grows-value p.grows bits _ stand_b ∙ sym (get_or-values n bits c.args.b.now c.loop-place.place (record { code = 0 }) false at_b)))
          (Grows-value one bits _ stand_i ∙ sym (get_or-values n bits c.args.into.now c.loop-place.place (record { code = 0 }) false at_i)))
          (λ bits. bitwise_three-more sum_bit (values n bits c.args.a.now) (values n bits c.args.b.now) (values n bits c.args.into.now) c.loop-place.place false (omega (arith, length-map c.args.a.now (value n bits))) (omega (arith, length-map c.args.b.now (value n bits))) (omega (arith, length-map c.args.into.now (value n bits))))
          (omega arith) (omega arith),
      (λ d low high mid.
          AllWithin-push d c.loop-place.out.items c.in_ok-bit.bit q p.stands (c.loop-place.invariant.1 d low high mid)
          (omega (arith, c.in_ok-bit.ensures.level, c.in_ok-differ.ensures.level, Grows-level p.grows _ stand_a, Grows-level p.grows _ stand_b, Grows-level one _ stand_i, low c.loop-place.place (record { code = 0 }) at_a, high c.loop-place.place (record { code = 0 }) at_b, mid c.loop-place.place (record { code = 0 }) at_i))),
    )

pub returns-in_err-push-clause-grows : goal.returns-in_err-push-clause-grows
returns-in_err-push-clause-grows c = Grows-then (Grows-trans c.loop-place.invariant.0.grows c.in_ok-differ.ensures.grows) c.in_ok-bit.ensures.grows (omega arith) (omega arith)

pub returns-in_err-differ-clause-grows : goal.returns-in_err-differ-clause-grows
returns-in_err-differ-clause-grows c = Grows-then c.loop-place.invariant.0.grows c.in_err-differ.ensures.grows (omega arith) (omega arith)

pub returns-in_err-differ-clause-stops : goal.returns-in_err-differ-clause-stops
returns-in_err-differ-clause-stops c =
    let p = err_from_is_err_and c.from_residual.result c.from_residual.ensures.1 in
    rw (p.1, p.2) (StopsWithin-after c.xor.new.self 1 (2 * length c.args.a.now) _ c.loop-place.invariant.0.grows c.in_err-differ.ensures.stops (omega arith))

pub returns-in_err-bit-clause-grows : goal.returns-in_err-bit-clause-grows
returns-in_err-bit-clause-grows c = Grows-then (Grows-trans c.loop-place.invariant.0.grows c.in_ok-differ.ensures.grows) c.in_err-bit.ensures.grows (omega arith) (omega arith)

pub returns-in_err-bit-clause-stops : goal.returns-in_err-bit-clause-stops
returns-in_err-bit-clause-stops c =
    let p = err_from_is_err_and c.from_residual-in_err-bit.result c.from_residual-in_err-bit.ensures.1 in
    rw (p.1, p.2) (StopsWithin-after c.xor-in-loop-place.new.self 1 (2 * length c.args.a.now) _ (Grows-trans c.loop-place.invariant.0.grows c.in_ok-differ.ensures.grows) c.in_err-bit.ensures.stops (omega arith))

pub returns-clause-grows : goal.returns-clause-grows
returns-clause-grows c = Grows-weaken c.loop-place.invariant.0.grows (omega arith) (omega arith)
