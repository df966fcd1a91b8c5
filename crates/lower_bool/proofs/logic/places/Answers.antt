use Rattle.std.proofs.Common.{◌+◌, ◌<◌, Bool, false, List, length, get_or, take, sym, ap, ◌∙◌, arith}
use Rattle.std.proofs.lemmas.List.{length-map, length_push, take_all}
use Rattle.std.proofs.lemmas.Result.{err_from_is_err_and}
use Rattle.hy_bits.specs.Bits.{bitwise}
use Rattle.gate_net.specs.Meaning.{value}
use Rattle.gate_net.specs.Spelled.{values}
use Rattle.gate_net.proofs.GrowthLaws.{Grows-level, Grows-stands, Grows-then, Grows-value, Grows-weaken, StopsWithin-after}
use Rattle.gate_net.proofs.ListLaws.{AllWithin-push, Progress-push, equal_two, get_or-values}
use Rattle.adder_blocks.proofs.BitSteps.{bitwise-more}
use Rattle.lower_bool.specs.Operations.{place_ands, place_of}
use Rattle.lower_bool.proofs.PlaceLaws.{times_le}
use Rattle.lower_bool.proofs.logic.places.Goals as goal

pub place-requires-clause-first : goal.place-requires-clause-first
place-requires-clause-first c = Grows-stands c.loop-index.invariant.0.grows (get_or c.args.a.now c.loop-index.index (record { code = 0 })) (c.requires.first c.loop-index.index (record { code = 0 }) c.loop-index-test.true)

pub place-requires-clause-second : goal.place-requires-clause-second
place-requires-clause-second c = Grows-stands c.loop-index.invariant.0.grows (get_or c.args.b.now c.loop-index.index (record { code = 0 })) (c.requires.second c.loop-index.index (record { code = 0 }) (omega (arith, c.requires.same_length, c.loop-index-test.true)))

pub loop-index-preserved : goal.loop-index-preserved
loop-index-preserved c =
    let p = c.loop-index.invariant.0 in
    let q = c.in_ok-bit.ensures.grows in
    let n = c.args.net.now in
    let at_a : c.loop-index.index < length c.args.a.now = c.loop-index-test.true in
    let at_b : c.loop-index.index < length c.args.b.now = omega (arith, c.requires.same_length) in
    let first = λ (bits : List Bool). Grows-value p.grows bits (get_or c.args.a.now c.loop-index.index (record { code = 0 })) (c.requires.first c.loop-index.index (record { code = 0 }) at_a) ∙ sym (get_or-values c.args.net.now bits c.args.a.now c.loop-index.index (record { code = 0 }) false at_a) in
    let second = λ (bits : List Bool). Grows-value p.grows bits (get_or c.args.b.now c.loop-index.index (record { code = 0 })) (c.requires.second c.loop-index.index (record { code = 0 }) at_b) ∙ sym (get_or-values c.args.net.now bits c.args.b.now c.loop-index.index (record { code = 0 }) false at_b) in
    rw c.in_ok-push.ensures.items (
      Progress-push c.in_ok-bit.bit
          (λ bits. place_of c.args.op (get_or (values c.args.net.now bits c.args.a.now) c.loop-index.index false) (get_or (values c.args.net.now bits c.args.b.now) c.loop-index.index false))
          p q c.in_ok-bit.ensures.stands
          (λ bits. c.in_ok-bit.ensures.value bits ∙ equal_two (place_of c.args.op) (first bits) (second bits))
          (λ bits. bitwise-more (place_of c.args.op) (values c.args.net.now bits c.args.a.now) (values c.args.net.now bits c.args.b.now) c.loop-index.index false (omega (arith, length-map c.args.a.now (value c.args.net.now bits))) (omega (arith, length-map c.args.b.now (value c.args.net.now bits))))
          (omega arith) (omega arith),
      λ d low high. AllWithin-push (d + place_ands c.args.op) c.loop-index.out.items c.in_ok-bit.bit q p.stands (c.loop-index.invariant.1 d low high)
          (omega (
            arith,
            c.in_ok-bit.ensures.level,
            Grows-level p.grows _ (c.requires.first c.loop-index.index (record { code = 0 }) at_a),
            low c.loop-index.index (record { code = 0 }) at_a,
            Grows-level p.grows _ (c.requires.second c.loop-index.index (record { code = 0 }) at_b),
            high c.loop-index.index (record { code = 0 }) at_b,
          )),
      omega (arith, length_push c.loop-index.out.items c.in_ok-bit.bit),
    )

pub returns-clause-value : goal.returns-clause-value
returns-clause-value c = λ bits.
    let n = c.args.net.now in
    c.loop-index.invariant.0.bits bits
    ∙ ap (λ (xs : List Bool). bitwise (place_of c.args.op) xs (take c.loop-index.index (values c.args.net.now bits c.args.b.now))) (take_all c.loop-index.index (values c.args.net.now bits c.args.a.now) (omega (arith, length-map c.args.a.now (value c.args.net.now bits), c.loop-index-test.false)))
    ∙ ap (λ (ys : List Bool). bitwise (place_of c.args.op) (values c.args.net.now bits c.args.a.now) ys) (take_all c.loop-index.index (values c.args.net.now bits c.args.b.now) (omega (arith, length-map c.args.b.now (value c.args.net.now bits), c.requires.same_length, c.loop-index-test.false)))

pub returns-in_err-bit-clause-grows : goal.returns-in_err-bit-clause-grows
returns-in_err-bit-clause-grows c = Grows-then c.loop-index.invariant.0.grows c.in_err-bit.ensures.grows (omega arith) (omega (arith, times_le (place_ands c.args.op) (c.loop-index.index + 1) (length c.args.a.now) (omega arith)))

pub returns-in_err-bit-clause-stops : goal.returns-in_err-bit-clause-stops
returns-in_err-bit-clause-stops c =
    let p = err_from_is_err_and c.from_residual.result c.from_residual.ensures.1 in
    rw (p.1, p.2) (StopsWithin-after c.place.new.net 1 (length c.args.a.now) _ c.loop-index.invariant.0.grows c.in_err-bit.ensures.stops (omega arith))

pub returns-in_err-push-clause-grows : goal.returns-in_err-push-clause-grows
returns-in_err-push-clause-grows c = Grows-then c.loop-index.invariant.0.grows c.in_ok-bit.ensures.grows (omega arith) (omega (arith, times_le (place_ands c.args.op) (c.loop-index.index + 1) (length c.args.a.now) (omega arith)))

pub returns-clause-grows : goal.returns-clause-grows
returns-clause-grows c = Grows-weaken c.loop-index.invariant.0.grows (omega arith) (times_le (place_ands c.args.op) c.loop-index.index (length c.args.a.now) (omega arith))
