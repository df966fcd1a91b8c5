use Rattle.std.proofs.lemmas.Result.{err_from_is_err_and}
use Rattle.std.proofs.Common.{◌<◌, Bool, false, ◌&&◌, List, [], ◌∷◌, ◌++◌, length, get_or, take, refl, sym, ap, ◌∙◌, arith, ◌*◌}
use Rattle.std.proofs.lemmas.List.{length-map}
use Rattle.hy_bits.specs.Bits.{xor, bitwise, next_carry}
use Rattle.gate_net.specs.Meaning.{value}
use Rattle.gate_net.proofs.GrowthLaws.{Grows-value, Grows-level, Grows-stands, Grows-trans, Grows-then, Grows-weaken, StopsWithin-after}
use Rattle.gate_net.specs.Spelled.{values}
use Rattle.gate_net.proofs.ListLaws.{equal_push, equal_two, get_or-values}
use Rattle.adder_blocks.proofs.BitSteps.{bitwise-more}
use Rattle.std.proofs.lemmas.List.{map_push, length_push}
use Rattle.std.proofs.lemmas.List.Elements.{All-push}
use Rattle.adder_blocks.specs.declared.lookahead.Cell.{Cell}
use Rattle.adder_blocks.specs.Cells.{CellStands, CellWithin, carried}
use Rattle.adder_blocks.proofs.CellLaws.{All-CellStands-Grows, All-CellWithin-Grows, map_carried-Grows, place-bits}
use Rattle.adder_blocks.proofs.lookahead.places.Goals as goal

pub loop-place-preserved : goal.loop-place-preserved
loop-place-preserved c =
    let p = c.loop-place.invariant.0 in
    let n = c.args.net.now in
    let i = c.loop-place.place in
    let q = Grows-trans c.in_ok-propagate.ensures.grows c.in_ok-generate.ensures.grows in
    let one = Grows-trans p c.in_ok-propagate.ensures.grows in
    let at_a : c.loop-place.place < length c.args.a.now = omega arith in
    let at_b : c.loop-place.place < length c.args.b.now = omega (arith, c.requires.same_length) in
    let stand_a = c.requires.first c.loop-place.place (record { code = 0 }) at_a in
    let stand_b = c.requires.second c.loop-place.place (record { code = 0 }) at_b in
    let x : Cell = record { generate = c.in_ok-generate.generate; propagate = c.in_ok-propagate.propagate } in
    let read_a = λ (bits : List Bool). sym (get_or-values n bits c.args.a.now c.loop-place.place (record { code = 0 }) false at_a) in
    let read_b = λ (bits : List Bool). sym (get_or-values n bits c.args.b.now c.loop-place.place (record { code = 0 }) false at_b) in
    rw c.in_ok-push.ensures.items (
      Grows-then p q (omega arith) (omega arith),
      All-push (CellStands c.and.new.self) c.loop-place.out.items x (All-CellStands-Grows q c.loop-place.out.items c.loop-place.invariant.1) (c.in_ok-generate.ensures.stands, Grows-stands c.in_ok-generate.ensures.grows c.in_ok-propagate.propagate c.in_ok-propagate.ensures.stands),
      omega (arith, length_push c.loop-place.out.items x, c.loop-place.invariant.2),
      (λ bits s.
          let first = get_or (values n bits c.args.a.now) c.loop-place.place false in
          let second = get_or (values n bits c.args.b.now) c.loop-place.place false in
          map_push (carried c.and.new.self bits s) c.loop-place.out.items x
          ∙ ap (λ (xs : List Bool). xs ++ carried c.and.new.self bits s x ∷ []) (map_carried-Grows q bits s c.loop-place.out.items c.loop-place.invariant.1 ∙ c.loop-place.invariant.3 bits s)
          ∙ equal_push (bitwise (λ y z. next_carry y z s) (take c.loop-place.place (values n bits c.args.a.now)) (take c.loop-place.place (values n bits c.args.b.now)))
          (equal_two xor
          (c.in_ok-generate.ensures.value bits ∙ equal_two (λ y z. y && z) (Grows-value one bits _ stand_a ∙ read_a bits) (Grows-value one bits _ stand_b ∙ read_b bits))
          (equal_two (λ y z. y && z) (Grows-value c.in_ok-generate.ensures.grows bits c.in_ok-propagate.propagate c.in_ok-propagate.ensures.stands ∙ c.in_ok-propagate.ensures.value bits ∙ equal_two xor (Grows-value p bits _ stand_a ∙ read_a bits) (Grows-value p bits _ stand_b ∙ read_b bits)) refl)
          ∙ place-bits first second s)
          ∙ sym (bitwise-more (λ y z. next_carry y z s) (values n bits c.args.a.now) (values n bits c.args.b.now) c.loop-place.place false (omega (arith, length-map c.args.a.now (value n bits))) (omega (arith, length-map c.args.b.now (value n bits))))),
      (λ d low high.
          All-push (CellWithin c.and.new.self d) c.loop-place.out.items x
          (All-CellWithin-Grows q d c.loop-place.out.items c.loop-place.invariant.1 (c.loop-place.invariant.4 d low high)) (
            omega (arith, c.in_ok-generate.ensures.level, Grows-level one _ stand_a, Grows-level one _ stand_b, low c.loop-place.place (record { code = 0 }) at_a, high c.loop-place.place (record { code = 0 }) at_b),
            omega (arith, Grows-level c.in_ok-generate.ensures.grows c.in_ok-propagate.propagate c.in_ok-propagate.ensures.stands, c.in_ok-propagate.ensures.level, Grows-level p _ stand_a, Grows-level p _ stand_b, low c.loop-place.place (record { code = 0 }) at_a, high c.loop-place.place (record { code = 0 }) at_b),
          )),
    )

pub returns-in_err-push-clause-grows : goal.returns-in_err-push-clause-grows
returns-in_err-push-clause-grows c = Grows-then (Grows-trans c.loop-place.invariant.0 c.in_ok-propagate.ensures.grows) c.in_ok-generate.ensures.grows (omega arith) (omega arith)

pub returns-in_err-propagate-clause-grows : goal.returns-in_err-propagate-clause-grows
returns-in_err-propagate-clause-grows c = Grows-then c.loop-place.invariant.0 c.in_err-propagate.ensures.grows (omega arith) (omega arith)

pub returns-in_err-propagate-clause-stops : goal.returns-in_err-propagate-clause-stops
returns-in_err-propagate-clause-stops c =
    let p = err_from_is_err_and c.from_residual.result c.from_residual.ensures.1 in
    rw (p.1, p.2) (StopsWithin-after c.xor.new.self 1 (2 * length c.args.a.now) _ c.loop-place.invariant.0 c.in_err-propagate.ensures.stops (omega arith))

pub returns-in_err-generate-clause-grows : goal.returns-in_err-generate-clause-grows
returns-in_err-generate-clause-grows c = Grows-then (Grows-trans c.loop-place.invariant.0 c.in_ok-propagate.ensures.grows) c.in_err-generate.ensures.grows (omega arith) (omega arith)

pub returns-in_err-generate-clause-stops : goal.returns-in_err-generate-clause-stops
returns-in_err-generate-clause-stops c =
    let p = err_from_is_err_and c.from_residual-in_err-generate.result c.from_residual-in_err-generate.ensures.1 in
    rw (p.1, p.2) (StopsWithin-after c.and.new.self 1 (2 * length c.args.a.now) _ (Grows-trans c.loop-place.invariant.0 c.in_ok-propagate.ensures.grows) c.in_err-generate.ensures.stops (omega arith))

pub returns-clause-grows : goal.returns-clause-grows
returns-clause-grows c = Grows-weaken c.loop-place.invariant.0 (omega arith) (omega arith)
