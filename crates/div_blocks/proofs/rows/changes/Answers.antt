use Rattle.std.proofs.lemmas.Result.{err_from_is_err_and}
use Rattle.std.proofs.Common.{◌≡◌, ◌<◌, Bool, true, false, not, List, length, get_or, take, map, refl, sym, ap, ◌∙◌, arith, ◌*◌}
use Rattle.std.proofs.lemmas.List.{length-map, length_push, get_or-map, take_all}
use Rattle.hy_bits.specs.Bits.{xor, next_carry, carry_out}
use Rattle.hy_bits.proofs.BitLaws.{carry_out-difference}
use Rattle.gate_net.specs.Meaning.{value}
use Rattle.gate_net.proofs.MeaningLaws.{value-true}
use Rattle.gate_net.proofs.GrowthLaws.{Grows-value, Grows-then, Grows-weaken, StopsWithin-after}
use Rattle.gate_net.specs.Spelled.{values}
use Rattle.gate_net.proofs.ListLaws.{Progress-push, Progress-start, Stands-constant, equal_two, equal_three, get_or-values}
use Rattle.adder_blocks.proofs.BitSteps.{carry_out-more}
use Rattle.div_blocks.proofs.RowLaws.{changed-more}
use Rattle.div_blocks.proofs.rows.changes.Goals as goal

pub loop-place-init : goal.loop-place-init
loop-place-init c = rw c.new-out.ensures.items (
  Progress-start c.args.net.now _ (λ bits. refl),
  Stands-constant c.args.net.now (record { code = 1 }) (omega arith),
  (λ bits. value-true c.args.net.now bits (record { code = 1 }) refl),
  refl,
)

pub loop-place-preserved : goal.loop-place-preserved
loop-place-preserved c =
    let p = c.loop-place.invariant.0 in
    let q = c.in_ok-change.ensures.grows in
    let n = c.args.net.now in
    let i = c.loop-place.place in
    let at_x : c.loop-place.place < length c.args.x.now = c.loop-place-test.true in
    let at_y : c.loop-place.place < length c.args.y.now = omega (arith, c.requires.same_length) in
    let xs = λ (bits : List Bool). values n bits c.args.x.now in
    let ns = λ (bits : List Bool). map not (values n bits c.args.y.now) in
    let long_x = λ (bits : List Bool). length-map c.args.x.now (value n bits) in
    let long_n = λ (bits : List Bool). length-map (values n bits c.args.y.now) not ∙ length-map c.args.y.now (value n bits) in
    let first = λ (bits : List Bool). Grows-value p.grows bits (get_or c.args.x.now i (record { code = 0 })) (c.requires.first i (record { code = 0 }) at_x) ∙ sym (get_or-values n bits c.args.x.now i (record { code = 0 }) false at_x) in
    let second = λ (bits : List Bool).
    ap not (Grows-value p.grows bits (get_or c.args.y.now i (record { code = 0 })) (c.requires.second i (record { code = 0 }) at_y) ∙ sym (get_or-values n bits c.args.y.now i (record { code = 0 }) false at_y))
    ∙ sym (get_or-map not (values n bits c.args.y.now) i false false (omega (arith, length-map c.args.y.now (value n bits)))) in
    rw c.in_ok-push.ensures.items (
      Progress-push c.in_ok-change.change
          (λ bits. xor (get_or (map not (values n bits c.args.y.now)) i false) (carry_out true (take i (values n bits c.args.x.now)) (take i (map not (values n bits c.args.y.now)))))
          p q c.in_ok-change.ensures.stands.0
          (λ bits. c.in_ok-change.ensures.change bits ∙ equal_two xor (second bits) (c.loop-place.invariant.2 bits))
          (λ bits. changed-more (values n bits c.args.x.now) (map not (values n bits c.args.y.now)) i (omega (arith, long_x bits)) (long_x bits ∙ c.requires.same_length ∙ sym (long_n bits)))
          (omega arith) (omega arith),
      c.in_ok-change.ensures.stands.1,
      (λ bits. c.in_ok-change.ensures.carry bits
          ∙ equal_three next_carry (first bits) (second bits) (c.loop-place.invariant.2 bits)
          ∙ sym (carry_out-more true (values n bits c.args.x.now) (map not (values n bits c.args.y.now)) i false (omega (arith, long_x bits)) (omega (arith, long_n bits)))),
      omega (arith, length_push c.loop-place.out.items c.in_ok-change.change),
    )

pub returns-clause-fits : goal.returns-clause-fits
returns-clause-fits c = λ bits.
    let n = c.args.net.now in
    let xs : List Bool = values n bits c.args.x.now in
    let ns : List Bool = map not (values n bits c.args.y.now) in
    let long_x : length (values n bits c.args.x.now) ≡ length c.args.x.now = length-map c.args.x.now (value n bits) in
    let long_y : length (values n bits c.args.y.now) ≡ length c.args.y.now = length-map c.args.y.now (value n bits) in
    let long_n : length (map not (values n bits c.args.y.now)) ≡ length c.args.y.now = length-map (values n bits c.args.y.now) not ∙ long_y in
    c.loop-place.invariant.2 bits
    ∙ ap (λ (us : List Bool). carry_out true us (take c.loop-place.place ns)) (take_all c.loop-place.place xs (omega (arith, long_x, c.loop-place-test.false)))
    ∙ ap (λ (us : List Bool). carry_out true xs us) (take_all c.loop-place.place ns (omega (arith, long_n, c.requires.same_length, c.loop-place-test.false)))
    ∙ carry_out-difference xs (values n bits c.args.y.now) (long_x ∙ c.requires.same_length ∙ sym long_y)

pub returns-in_err-change-clause-grows : goal.returns-in_err-change-clause-grows
returns-in_err-change-clause-grows c = Grows-then c.loop-place.invariant.0.grows c.in_err-change.ensures.grows (omega arith) (omega arith)

pub returns-in_err-change-clause-stops : goal.returns-in_err-change-clause-stops
returns-in_err-change-clause-stops c =
    let p = err_from_is_err_and c.from_residual.result c.from_residual.ensures.1 in
    rw (p.1, p.2) (StopsWithin-after c.difference_place.new.net 4 (4 * length c.args.x.now) _ c.loop-place.invariant.0.grows c.in_err-change.ensures.stops (omega arith))

pub returns-in_err-push-clause-grows : goal.returns-in_err-push-clause-grows
returns-in_err-push-clause-grows c = Grows-then c.loop-place.invariant.0.grows c.in_ok-change.ensures.grows (omega arith) (omega arith)

pub returns-clause-grows : goal.returns-clause-grows
returns-clause-grows c = Grows-weaken c.loop-place.invariant.0.grows (omega arith) (omega arith)
