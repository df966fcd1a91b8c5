use Rattle.std.proofs.lemmas.Result.{err_from_is_err_and}
use Rattle.std.proofs.Common.{◌+◌, ◌<◌, Bool, false, List, length, get_or, take, ap, ◌∙◌, arith, ◌*◌}
use Rattle.std.proofs.lemmas.List.{take_all, length-map, length_push}
use Rattle.hy_bits.specs.Bits.{bitwise}
use Rattle.gate_net.specs.Meaning.{value}
use Rattle.gate_net.proofs.GrowthLaws.{Grows-value, Grows-level, Grows-then, Grows-weaken, StopsWithin-after}
use Rattle.gate_net.specs.Spelled.{values}
use Rattle.adder_blocks.specs.Steps.{chosen}
use Rattle.gate_net.proofs.ListLaws.{Progress-push, AllWithin-push, equal_two, equal_three, equal_push, get_or-values}
use Rattle.adder_blocks.proofs.BitSteps.{bitwise-more}
use Rattle.hy_bits.proofs.BitLaws.{select-bits}
use Rattle.adder_blocks.proofs.selection.choose.Goals as goal

pub loop-place-preserved : goal.loop-place-preserved
loop-place-preserved c =
    let p = c.loop-place.invariant.0 in
    let q = c.in_ok-bit.ensures.grows in
    let n = c.args.net.now in
    let at_b : c.loop-place.place < length c.args.b.now = omega (arith, c.requires.same_length) in
    rw c.in_ok-push.ensures.items (
      Progress-push c.in_ok-bit.bit
          (λ bits. chosen (value n bits c.args.c) (value n bits (get_or c.args.a.now c.loop-place.place (record { code = 0 }))) (value n bits (get_or c.args.b.now c.loop-place.place (record { code = 0 }))))
          p q c.in_ok-bit.ensures.stands
          (λ bits. c.in_ok-bit.ensures.value bits
          ∙ equal_three chosen (Grows-value p.grows bits c.args.c c.requires.selector)
          (Grows-value p.grows bits _ (c.requires.first c.loop-place.place _ c.loop-place-test.true))
          (Grows-value p.grows bits _ (c.requires.second c.loop-place.place _ at_b)))
          (λ bits. bitwise-more (chosen (value n bits c.args.c)) (values n bits c.args.a.now) (values n bits c.args.b.now) c.loop-place.place false (omega (arith, length-map c.args.a.now (value n bits))) (omega (arith, length-map c.args.b.now (value n bits)))
          ∙ equal_push (bitwise (chosen (value n bits c.args.c)) (take c.loop-place.place (values n bits c.args.a.now)) (take c.loop-place.place (values n bits c.args.b.now))) (equal_two (chosen (value n bits c.args.c)) (get_or-values n bits c.args.a.now c.loop-place.place (record { code = 0 }) false c.loop-place-test.true) (get_or-values n bits c.args.b.now c.loop-place.place (record { code = 0 }) false at_b)))
          (omega arith) (omega arith),
      λ d low first second. AllWithin-push (d + 1) c.loop-place.out.items c.in_ok-bit.bit q p.stands (c.loop-place.invariant.1 d low first second)
          (c.in_ok-bit.ensures.level d
          (omega (arith, Grows-level p.grows c.args.c c.requires.selector))
          (omega (arith, Grows-level p.grows _ (c.requires.first c.loop-place.place (record { code = 0 }) c.loop-place-test.true), first c.loop-place.place (record { code = 0 }) c.loop-place-test.true))
          (omega (arith, Grows-level p.grows _ (c.requires.second c.loop-place.place (record { code = 0 }) at_b), second c.loop-place.place (record { code = 0 }) at_b))),
      omega (arith, length_push c.loop-place.out.items c.in_ok-bit.bit),
    )

pub returns-clause-value : goal.returns-clause-value
returns-clause-value c = λ bits.
    let n = c.args.net.now in
    c.loop-place.invariant.0.bits bits
    ∙ ap (λ (xs : List Bool). bitwise (chosen (value n bits c.args.c)) xs (take c.loop-place.place (values n bits c.args.b.now))) (take_all c.loop-place.place (values n bits c.args.a.now) (omega (arith, length-map c.args.a.now (value n bits), c.loop-place-test.false)))
    ∙ ap (λ (ys : List Bool). bitwise (chosen (value n bits c.args.c)) (values n bits c.args.a.now) ys) (take_all c.loop-place.place (values n bits c.args.b.now) (omega (arith, length-map c.args.b.now (value n bits), c.requires.same_length, c.loop-place-test.false)))
    ∙ select-bits (value n bits c.args.c) (values n bits c.args.a.now) (values n bits c.args.b.now) (omega (arith, length-map c.args.a.now (value n bits), length-map c.args.b.now (value n bits), c.requires.same_length))

pub returns-in_err-bit-clause-grows : goal.returns-in_err-bit-clause-grows
returns-in_err-bit-clause-grows c = Grows-then c.loop-place.invariant.0.grows c.in_err-bit.ensures.grows (omega arith) (omega arith)

pub returns-in_err-bit-clause-stops : goal.returns-in_err-bit-clause-stops
returns-in_err-bit-clause-stops c =
    let p = err_from_is_err_and c.from_residual.result c.from_residual.ensures.1 in
    rw (p.1, p.2) (StopsWithin-after c.choose_bit.new.net 3 (3 * length c.args.a.now) _ c.loop-place.invariant.0.grows c.in_err-bit.ensures.stops (omega arith))

pub returns-in_err-push-clause-grows : goal.returns-in_err-push-clause-grows
returns-in_err-push-clause-grows c = Grows-then c.loop-place.invariant.0.grows c.in_ok-bit.ensures.grows (omega arith) (omega arith)

pub returns-clause-grows : goal.returns-clause-grows
returns-clause-grows c = Grows-weaken c.loop-place.invariant.0.grows (omega arith) (omega arith)
