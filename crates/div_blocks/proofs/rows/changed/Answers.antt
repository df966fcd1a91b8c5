use Rattle.std.proofs.lemmas.Result.{err_from_is_err_and}
use Rattle.std.proofs.Common.{◌<◌, Bool, ◌&&◌, false, List, length, get_or, sym, ◌∙◌, arith, ◌*◌}
use Rattle.std.proofs.lemmas.List.{length-map, length_push}
use Rattle.hy_bits.specs.Bits.{xor}
use Rattle.gate_net.specs.Meaning.{value}
use Rattle.gate_net.proofs.GrowthLaws.{Grows-value, Grows-trans, Grows-then, Grows-weaken, StopsWithin-after}
use Rattle.gate_net.specs.Spelled.{values}
use Rattle.gate_net.proofs.ListLaws.{Progress-push, equal_two, get_or-values}
use Rattle.adder_blocks.proofs.BitSteps.{bitwise-more}
use Rattle.div_blocks.proofs.rows.changed.Goals as goal

pub loop-place-preserved : goal.loop-place-preserved
loop-place-preserved c =
    let p = c.loop-place.invariant.0 in
    let one = Grows-trans p.grows c.in_ok-change.ensures.grows in
    let q = Grows-trans c.in_ok-change.ensures.grows c.in_ok-bit.ensures.grows in
    let n = c.args.net.now in
    let i = c.loop-place.place in
    let at_word : c.loop-place.place < length c.args.word.now = c.loop-place-test.true in
    let at_changes : c.loop-place.place < length c.args.changes.now = omega (arith, c.requires.same_length) in
    let first = λ (bits : List Bool). Grows-value one bits (get_or c.args.word.now i (record { code = 0 })) (c.requires.word i (record { code = 0 }) at_word) ∙ sym (get_or-values n bits c.args.word.now i (record { code = 0 }) false at_word) in
    let second = λ (bits : List Bool). Grows-value p.grows bits (get_or c.args.changes.now i (record { code = 0 })) (c.requires.changes i (record { code = 0 }) at_changes) ∙ sym (get_or-values n bits c.args.changes.now i (record { code = 0 }) false at_changes) in
    rw c.in_ok-push.ensures.items (
      Progress-push c.in_ok-bit.bit
          (λ bits. xor (get_or (values n bits c.args.word.now) i false) (value n bits c.args.taken && get_or (values n bits c.args.changes.now) i false))
          p q c.in_ok-bit.ensures.stands
          (λ bits. c.in_ok-bit.ensures.value bits
          ∙ equal_two xor (first bits)
          (c.in_ok-change.ensures.value bits ∙ equal_two (λ x y. x && y) (Grows-value p.grows bits c.args.taken c.requires.taken) (second bits)))
          (λ bits. bitwise-more (λ x y. xor x (value n bits c.args.taken && y)) (values n bits c.args.word.now) (values n bits c.args.changes.now) i false (omega (arith, length-map c.args.word.now (value n bits))) (omega (arith, length-map c.args.changes.now (value n bits))))
          (omega arith) (omega arith),
      omega (arith, length_push c.loop-place.out.items c.in_ok-bit.bit),
    )

pub returns-in_err-push-clause-grows : goal.returns-in_err-push-clause-grows
returns-in_err-push-clause-grows c = Grows-then (Grows-trans c.loop-place.invariant.0.grows c.in_ok-change.ensures.grows) c.in_ok-bit.ensures.grows (omega arith) (omega arith)

pub returns-in_err-change-clause-grows : goal.returns-in_err-change-clause-grows
returns-in_err-change-clause-grows c = Grows-then c.loop-place.invariant.0.grows c.in_err-change.ensures.grows (omega arith) (omega arith)

pub returns-in_err-change-clause-stops : goal.returns-in_err-change-clause-stops
returns-in_err-change-clause-stops c =
    let p = err_from_is_err_and c.from_residual.result c.from_residual.ensures.1 in
    rw (p.1, p.2) (StopsWithin-after c.and.new.self 1 (2 * length c.args.word.now) _ c.loop-place.invariant.0.grows c.in_err-change.ensures.stops (omega arith))

pub returns-in_err-bit-clause-grows : goal.returns-in_err-bit-clause-grows
returns-in_err-bit-clause-grows c = Grows-then (Grows-trans c.loop-place.invariant.0.grows c.in_ok-change.ensures.grows) c.in_err-bit.ensures.grows (omega arith) (omega arith)

pub returns-in_err-bit-clause-stops : goal.returns-in_err-bit-clause-stops
returns-in_err-bit-clause-stops c =
    let p = err_from_is_err_and c.from_residual-in_err-bit.result c.from_residual-in_err-bit.ensures.1 in
    rw (p.1, p.2) (StopsWithin-after c.xor.new.self 1 (2 * length c.args.word.now) _ (Grows-trans c.loop-place.invariant.0.grows c.in_ok-change.ensures.grows) c.in_err-bit.ensures.stops (omega arith))

pub returns-clause-grows : goal.returns-clause-grows
returns-clause-grows c = Grows-weaken c.loop-place.invariant.0.grows (omega arith) (omega arith)
