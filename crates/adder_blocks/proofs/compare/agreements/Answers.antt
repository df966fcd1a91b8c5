use Rattle.std.proofs.lemmas.Result.{err_from_is_err_and}
use Rattle.std.proofs.Common.{◌<◌, Bool, false, not, List, length, get_or, sym, ap, ◌∙◌, arith}
use Rattle.std.proofs.lemmas.List.{length-map}
use Rattle.hy_bits.specs.Bits.{xor}
use Rattle.gate_net.specs.Meaning.{value}
use Rattle.gate_net.proofs.GrowthLaws.{Grows-value, Grows-level, Grows-then, Grows-weaken, StopsWithin-after}
use Rattle.gate_net.specs.Spelled.{values}
use Rattle.gate_net.proofs.ListLaws.{Progress-push, AllWithin-push, equal_two, get_or-values}
use Rattle.adder_blocks.proofs.BitSteps.{bitwise-more}
use Rattle.gate_net.proofs.MeaningLaws.{value-complement, level-complement, Stands-complement}
use Rattle.gate_net.specs.Literal.{complement_of}
use Rattle.adder_blocks.proofs.compare.agreements.Goals as goal

pub loop-place-preserved : goal.loop-place-preserved
loop-place-preserved c =
    let p = c.loop-place.invariant.0 in
    let q = c.in_ok-differ.ensures.grows in
    let n = c.args.net.now in
    let i = c.loop-place.place in
    let same = c.complement.ensures in
    let at_a : c.loop-place.place < length c.args.a.now = c.loop-place-test.true in
    let at_b : c.loop-place.place < length c.args.b.now = omega (arith, c.requires.same_length) in
    let first = λ (bits : List Bool). Grows-value p.grows bits (get_or c.args.a.now c.loop-place.place (record { code = 0 })) (c.requires.first c.loop-place.place (record { code = 0 }) at_a) ∙ sym (get_or-values c.args.net.now bits c.args.a.now c.loop-place.place (record { code = 0 }) false at_a) in
    let second = λ (bits : List Bool). Grows-value p.grows bits (get_or c.args.b.now c.loop-place.place (record { code = 0 })) (c.requires.second c.loop-place.place (record { code = 0 }) at_b) ∙ sym (get_or-values c.args.net.now bits c.args.b.now c.loop-place.place (record { code = 0 }) false at_b) in
    rw (c.in_ok-push.ensures.items, c.complement.ensures) (
      Progress-push (complement_of c.in_ok-differ.differ)
          (λ bits. not (xor (get_or (values n bits c.args.a.now) i false) (get_or (values n bits c.args.b.now) i false)))
          p q (Stands-complement c.xor.new.self c.in_ok-differ.differ c.in_ok-differ.ensures.stands)
          (λ bits. value-complement c.xor.new.self bits c.in_ok-differ.differ ∙ ap not (c.in_ok-differ.ensures.value bits ∙ equal_two xor (first bits) (second bits)))
          (λ bits. bitwise-more (λ x y. not (xor x y)) (values n bits c.args.a.now) (values n bits c.args.b.now) i false (omega (arith, length-map c.args.a.now (value n bits))) (omega (arith, length-map c.args.b.now (value n bits))))
          (omega arith) (omega arith),
      λ d low high. AllWithin-push d c.loop-place.out.items (complement_of c.in_ok-differ.differ) q p.stands (c.loop-place.invariant.1 d low high)
          (omega (
            arith,
            level-complement c.xor.new.self c.in_ok-differ.differ,
            c.in_ok-differ.ensures.level,
            Grows-level p.grows _ (c.requires.first c.loop-place.place (record { code = 0 }) at_a),
            low c.loop-place.place (record { code = 0 }) at_a,
            Grows-level p.grows _ (c.requires.second c.loop-place.place (record { code = 0 }) at_b),
            high c.loop-place.place (record { code = 0 }) at_b,
          )),
    )

pub returns-in_err-differ-clause-grows : goal.returns-in_err-differ-clause-grows
returns-in_err-differ-clause-grows c = Grows-then c.loop-place.invariant.0.grows c.in_err-differ.ensures.grows (omega arith) (omega arith)

pub returns-in_err-differ-clause-stops : goal.returns-in_err-differ-clause-stops
returns-in_err-differ-clause-stops c =
    let p = err_from_is_err_and c.from_residual.result c.from_residual.ensures.1 in
    rw (p.1, p.2) (StopsWithin-after c.xor.new.self 1 (length c.args.a.now) _ c.loop-place.invariant.0.grows c.in_err-differ.ensures.stops (omega arith))

pub returns-in_err-push-clause-grows : goal.returns-in_err-push-clause-grows
returns-in_err-push-clause-grows c = Grows-then c.loop-place.invariant.0.grows c.in_ok-differ.ensures.grows (omega arith) (omega arith)

pub returns-clause-grows : goal.returns-clause-grows
returns-clause-grows c = Grows-weaken c.loop-place.invariant.0.grows (omega arith) (omega arith)
