use Rattle.std.proofs.lemmas.Result.{err_from_is_err_and}
use Rattle.std.proofs.Common.{◌≡◌, ℕ, ◌+◌, ◌*◌, ◌-◌, ◌<◌, ◌^◌, Bool, false, ◌&&◌, List, [], ◌∷◌, ◌++◌, length, get_or, take, refl, sym, ap, ◌∙◌, arith}
use Rattle.std.proofs.lemmas.List.{take_all, length-map, length_push}
use Rattle.hy_bits.specs.Bits.{number, xor}
use Rattle.gate_net.specs.declared.literal.Lit.{Lit}
use Rattle.gate_net.specs.Circuit.{Circuit, Stands}
use Rattle.gate_net.specs.Meaning.{value}
use Rattle.gate_net.specs.Growth.{Grows}
use Rattle.gate_net.proofs.GrowthLaws.{Grows-value, Grows-trans, Grows-then, StopsWithin-after}
use Rattle.gate_net.specs.Spelled.{values, AllStand}
use Rattle.gate_net.proofs.ListLaws.{Progress, Progress-push, Progress-start, equal_two, bit-at}
use Rattle.div_blocks.specs.Division.{signed_by}
use Rattle.div_blocks.proofs.SignLaws.{turned_bits, turned_carry, turned_bits-more, turned_carry-more, number-signed}
use Rattle.div_blocks.proofs.signs.with_sign.Goals as goal

pub loop-place-init : goal.loop-place-init
loop-place-init c = rw c.new-out.ensures.items (Progress-start c.args.net.now _ (λ bits. refl), c.requires.sign, (λ bits. refl), refl)

pub loop-place-preserved : goal.loop-place-preserved
loop-place-preserved c =
    let p = c.loop-place.invariant.0 in
    let q = c.in_ok-bit.ensures.grows in
    let n = c.args.net.now in
    let i = c.loop-place.place in
    let at : c.loop-place.place < length c.args.word.now = omega arith in
    let first = λ (bits : List Bool). bit-at p.grows bits c.args.word.now i c.requires.word at in
    let sign = λ (bits : List Bool). Grows-value p.grows bits c.args.sign c.requires.sign in
    rw c.in_ok-push.ensures.items (
      Progress-push c.in_ok-bit.bit
          (λ bits. xor (xor (get_or (values n bits c.args.word.now) i false) (value n bits c.args.sign)) (turned_carry (value n bits c.args.sign) (value n bits c.args.sign) (take i (values n bits c.args.word.now))))
          p q c.in_ok-bit.ensures.stands.0
          (λ bits. c.in_ok-bit.ensures.bit bits ∙ equal_two xor (equal_two xor (first bits) (sign bits)) (c.loop-place.invariant.2 bits))
          (λ bits. turned_bits-more (value n bits c.args.sign) (value n bits c.args.sign) (values n bits c.args.word.now) i (omega (arith, length-map c.args.word.now (value n bits))))
          (omega arith) (omega arith),
      c.in_ok-bit.ensures.stands.1,
      (λ bits. c.in_ok-bit.ensures.carry bits
          ∙ equal_two (λ x y. x && y) (equal_two xor (first bits) (sign bits)) (c.loop-place.invariant.2 bits)
          ∙ sym (turned_carry-more (value n bits c.args.sign) (value n bits c.args.sign) (values n bits c.args.word.now) i (omega (arith, length-map c.args.word.now (value n bits))))),
      omega (arith, length_push c.loop-place.out.items c.in_ok-bit.bit),
    )

-- the top place
top_bit : (n m one two : Circuit) (i : ℕ) (word out : List Lit) (sign carry turned bit : Lit)
    → Progress n m (3 * i) i out (λ bits. turned_bits (value n bits sign) (value n bits sign) (take i (values n bits word)))
    → ((bits : List Bool) → value m bits carry ≡ turned_carry (value n bits sign) (value n bits sign) (take i (values n bits word)))
    → AllStand n word → Stands n sign → Stands m carry → Grows m one 1 0 → Grows one two 1 0 → Stands two bit
    → ((bits : List Bool) → value one bits turned ≡ xor (value m bits (get_or word i (record { code = 0 }))) (value m bits sign))
    → ((bits : List Bool) → value two bits bit ≡ xor (value one bits turned) (value one bits carry))
    → length word ≡ i + 1
    → Progress n two (3 * i + 2) i (out ++ bit ∷ []) (λ bits. turned_bits (value n bits sign) (value n bits sign) (values n bits word))
top_bit n m one two i word out sign carry turned bit p known sw ss sc q r s first second last =
    Progress-push bit
    (λ bits. xor (xor (get_or (values n bits word) i false) (value n bits sign)) (turned_carry (value n bits sign) (value n bits sign) (take i (values n bits word))))
    p (Grows-trans q r) s
    (λ bits. second bits
    ∙ equal_two xor
    (first bits ∙ equal_two xor (bit-at p.grows bits word i sw (omega arith)) (Grows-value p.grows bits sign ss))
    (Grows-value q bits carry sc ∙ known bits))
    (λ bits.
    ap (turned_bits (value n bits sign) (value n bits sign)) (sym (take_all (i + 1) (values n bits word) (omega (arith, length-map word (value n bits)))))
    ∙ turned_bits-more (value n bits sign) (value n bits sign) (values n bits word) i (omega (arith, length-map word (value n bits))))
    (omega arith) (omega arith)

whole : (c : goal.In_ok-push-2) → Progress c.args.net.now c.xor-2.new.self (3 * c.loop-place.place + 2) c.loop-place.place (c.loop-place.out.items ++ c.in_ok-bit-2.bit ∷ []) (λ bits. turned_bits (value c.args.net.now bits c.args.sign) (value c.args.net.now bits c.args.sign) (values c.args.net.now bits c.args.word.now))
whole c =
    let top : length c.args.word.now - 1 ≡ c.loop-place.place = omega (arith, c.loop-place-test.false, c.loop-place.auto.place-end, c.requires.some) in
    let first = rw top at c.in_ok-turned.ensures.value in
    top_bit c.args.net.now c.loop-place.net c.xor.new.self c.xor-2.new.self c.loop-place.place c.args.word.now c.loop-place.out.items c.args.sign c.loop-place.carry c.in_ok-turned.turned c.in_ok-bit-2.bit
    c.loop-place.invariant.0 c.loop-place.invariant.2 c.requires.word c.requires.sign c.loop-place.invariant.1 c.in_ok-turned.ensures.grows c.in_ok-bit-2.ensures.grows c.in_ok-bit-2.ensures.stands first c.in_ok-bit-2.ensures.value (omega (arith, top, c.requires.some))

pub returns-in_err-push-2-clause-grows : goal.returns-in_err-push-2-clause-grows
returns-in_err-push-2-clause-grows c = Grows-then (Grows-trans c.loop-place.invariant.0.grows c.in_ok-turned.ensures.grows) c.in_ok-bit-2.ensures.grows (omega (arith, c.requires.some)) (omega (arith, c.requires.some))

pub returns-clause-stands : goal.returns-clause-stands
returns-clause-stands c = rw c.in_ok-push-2.ensures.items (whole c).stands

pub returns-clause-value : goal.returns-clause-value
returns-clause-value c = λ bits.
    let n = c.args.net.now in
    let s : Bool = value n bits c.args.sign in
    rw c.in_ok-push-2.ensures.items
    (ap number ((whole c).bits bits)
    ∙ number-signed s (values n bits c.args.word.now)
    ∙ ap (λ (k : ℕ). signed_by (2 ^ k) s (number (values n bits c.args.word.now))) (length-map c.args.word.now (value n bits)))

pub returns-clause-grows : goal.returns-clause-grows
returns-clause-grows c = Grows-then (Grows-trans c.loop-place.invariant.0.grows c.in_ok-turned.ensures.grows) c.in_ok-bit-2.ensures.grows (omega (arith, c.requires.some)) (omega (arith, c.requires.some))

pub returns-in_err-bit-clause-grows : goal.returns-in_err-bit-clause-grows
returns-in_err-bit-clause-grows c = Grows-then c.loop-place.invariant.0.grows c.in_err-bit.ensures.grows (omega arith) (omega arith)

pub returns-in_err-bit-clause-stops : goal.returns-in_err-bit-clause-stops
returns-in_err-bit-clause-stops c =
    let p = err_from_is_err_and c.from_residual.result c.from_residual.ensures.1 in
    rw (p.1, p.2) (StopsWithin-after c.sign_place.new.net 3 (3 * length c.args.word.now) _ c.loop-place.invariant.0.grows c.in_err-bit.ensures.stops (omega arith))

pub returns-in_err-push-clause-grows : goal.returns-in_err-push-clause-grows
returns-in_err-push-clause-grows c = Grows-then c.loop-place.invariant.0.grows c.in_ok-bit.ensures.grows (omega arith) (omega arith)

pub returns-in_err-turned-clause-grows : goal.returns-in_err-turned-clause-grows
returns-in_err-turned-clause-grows c = Grows-then c.loop-place.invariant.0.grows c.in_err-turned.ensures.grows (omega (arith, c.requires.some)) (omega (arith, c.requires.some))

pub returns-in_err-turned-clause-stops : goal.returns-in_err-turned-clause-stops
returns-in_err-turned-clause-stops c =
    let p = err_from_is_err_and c.from_residual-in_err-turned.result c.from_residual-in_err-turned.ensures.1 in
    rw (p.1, p.2) (StopsWithin-after c.xor.new.self 1 (3 * length c.args.word.now) _ c.loop-place.invariant.0.grows c.in_err-turned.ensures.stops (omega (arith, c.requires.some)))

pub returns-in_err-bit-2-clause-grows : goal.returns-in_err-bit-2-clause-grows
returns-in_err-bit-2-clause-grows c = Grows-then (Grows-trans c.loop-place.invariant.0.grows c.in_ok-turned.ensures.grows) c.in_err-bit-2.ensures.grows (omega (arith, c.requires.some)) (omega (arith, c.requires.some))

pub returns-in_err-bit-2-clause-stops : goal.returns-in_err-bit-2-clause-stops
returns-in_err-bit-2-clause-stops c =
    let p = err_from_is_err_and c.from_residual-in_err-bit-2.result c.from_residual-in_err-bit-2.ensures.1 in
    rw (p.1, p.2) (StopsWithin-after c.xor-2.new.self 1 (3 * length c.args.word.now) _ (Grows-trans c.loop-place.invariant.0.grows c.in_ok-turned.ensures.grows) c.in_err-bit-2.ensures.stops (omega (arith, c.requires.some)))
