use Rattle.std.proofs.Common.{◌≡◌, ℕ, ◌+◌, ◌*◌, ◌-◌, ◌<◌, Bool, false, List, [], ◌∷◌, ◌++◌, length, get_or, take, refl, sym, ap, ◌∙◌, arith}
use Rattle.std.proofs.lemmas.Result.{err_from_is_err_and}
use Rattle.std.proofs.lemmas.List.{take_all, length-map}
use Rattle.hy_bits.specs.Bits.{xor, sum_bit, next_carry, sum_bits, carry_out}
use Rattle.gate_net.specs.declared.literal.Lit.{Lit}
use Rattle.gate_net.specs.Circuit.{Circuit, Stands}
use Rattle.gate_net.specs.Meaning.{value}
use Rattle.gate_net.specs.Growth.{Grows}
use Rattle.gate_net.proofs.GrowthLaws.{Grows-value, Grows-stands, Grows-trans, Grows-then, StopsWithin-after}
use Rattle.gate_net.specs.Spelled.{values, AllStand}
use Rattle.gate_net.proofs.ListLaws.{Progress, equal_three, Progress-push, Progress-start, equal_two, stands-at, get_or-values}
use Rattle.adder_blocks.proofs.BitSteps.{sum_bits-more, carry_out-more}
use Rattle.adder_blocks.proofs.sums.ripple.Goals as goal

pub loop-place-init : goal.loop-place-init
loop-place-init c = rw c.new-out.ensures.items (Progress-start c.args.net.now _ (λ bits. refl), c.requires.carry, λ bits. refl)

pub full_adder-requires-clause-first : goal.full_adder-requires-clause-first
full_adder-requires-clause-first c = stands-at c.loop-place.invariant.0.grows c.args.a.now c.loop-place.place _ c.requires.first (omega arith)

pub full_adder-requires-clause-second : goal.full_adder-requires-clause-second
full_adder-requires-clause-second c = stands-at c.loop-place.invariant.0.grows c.args.b.now c.loop-place.place _ c.requires.second (omega (arith, c.requires.same_length))

pub full_adder-requires-clause-third : goal.full_adder-requires-clause-third
full_adder-requires-clause-third c = c.loop-place.invariant.1

pub xor-requires-clause-left : goal.xor-requires-clause-left
xor-requires-clause-left c = stands-at c.loop-place.invariant.0.grows c.args.a.now _ _ c.requires.first (omega (arith, c.requires.some))

pub xor-requires-clause-right : goal.xor-requires-clause-right
xor-requires-clause-right c = stands-at c.loop-place.invariant.0.grows c.args.b.now _ _ c.requires.second (omega (arith, c.requires.some, c.requires.same_length))

pub xor-requires-2-clause-right : goal.xor-requires-2-clause-right
xor-requires-2-clause-right c = Grows-stands c.in_ok-differ.ensures.grows c.loop-place.carry c.loop-place.invariant.1

pub returns-in_err-bit-clause-grows : goal.returns-in_err-bit-clause-grows
returns-in_err-bit-clause-grows c = Grows-then c.loop-place.invariant.0.grows c.in_err-bit.ensures.grows (omega arith) (omega arith)

pub returns-in_err-push-clause-grows : goal.returns-in_err-push-clause-grows
returns-in_err-push-clause-grows c = Grows-then c.loop-place.invariant.0.grows c.in_ok-bit.ensures.grows (omega arith) (omega arith)

pub returns-in_err-differ-clause-grows : goal.returns-in_err-differ-clause-grows
returns-in_err-differ-clause-grows c = Grows-then c.loop-place.invariant.0.grows c.in_err-differ.ensures.grows (omega (arith, c.requires.some)) (omega arith)

pub returns-in_err-bit-2-clause-grows : goal.returns-in_err-bit-2-clause-grows
returns-in_err-bit-2-clause-grows c = Grows-then (Grows-trans c.loop-place.invariant.0.grows c.in_ok-differ.ensures.grows) c.in_err-bit-2.ensures.grows (omega (arith, c.requires.some)) (omega arith)

pub returns-in_err-push-2-clause-grows : goal.returns-in_err-push-2-clause-grows
returns-in_err-push-2-clause-grows c = Grows-then (Grows-trans c.loop-place.invariant.0.grows c.in_ok-differ.ensures.grows) c.in_ok-bit-2.ensures.grows (omega (arith, c.requires.some)) (omega arith)

pub returns-in_err-bit-clause-stops : goal.returns-in_err-bit-clause-stops
returns-in_err-bit-clause-stops c =
    let p = err_from_is_err_and c.from_residual.result c.from_residual.ensures.1 in
    rw (p.1, p.2) (StopsWithin-after c.full_adder.new.net 5 (5 * length c.args.a.now) _ c.loop-place.invariant.0.grows c.in_err-bit.ensures.stops (omega (arith, c.requires.some)))

pub returns-in_err-differ-clause-stops : goal.returns-in_err-differ-clause-stops
returns-in_err-differ-clause-stops c =
    let p = err_from_is_err_and c.from_residual-in_err-differ.result c.from_residual-in_err-differ.ensures.1 in
    rw (p.1, p.2) (StopsWithin-after c.xor.new.self 1 (5 * length c.args.a.now) _ c.loop-place.invariant.0.grows c.in_err-differ.ensures.stops (omega (arith, c.requires.some)))

pub returns-in_err-bit-2-clause-stops : goal.returns-in_err-bit-2-clause-stops
returns-in_err-bit-2-clause-stops c =
    let p = err_from_is_err_and c.from_residual-in_err-bit-2.result c.from_residual-in_err-bit-2.ensures.1 in
    rw (p.1, p.2) (StopsWithin-after c.xor-2.new.self 1 (5 * length c.args.a.now) _ (Grows-trans c.loop-place.invariant.0.grows c.in_ok-differ.ensures.grows) c.in_err-bit-2.ensures.stops (omega (arith, c.requires.some)))

pub loop-place-preserved : goal.loop-place-preserved
loop-place-preserved c =
    let p = c.loop-place.invariant.0 in
    let q = c.in_ok-bit.ensures.grows in
    let n = c.args.net.now in
    let i = c.loop-place.place in
    let at_a : c.loop-place.place < length c.args.a.now = omega arith in
    let at_b : c.loop-place.place < length c.args.b.now = omega (arith, c.requires.same_length) in
    let first = λ (bits : List Bool). Grows-value p.grows bits (get_or c.args.a.now c.loop-place.place (record { code = 0 })) (c.requires.first c.loop-place.place (record { code = 0 }) at_a) ∙ sym (get_or-values c.args.net.now bits c.args.a.now c.loop-place.place (record { code = 0 }) false at_a) in
    let second = λ (bits : List Bool). Grows-value p.grows bits (get_or c.args.b.now c.loop-place.place (record { code = 0 })) (c.requires.second c.loop-place.place (record { code = 0 }) at_b) ∙ sym (get_or-values c.args.net.now bits c.args.b.now c.loop-place.place (record { code = 0 }) false at_b) in
    rw c.in_ok-push.ensures.items (
      Progress-push c.in_ok-bit.bit
          (λ bits. sum_bit (get_or (values n bits c.args.a.now) i false) (get_or (values n bits c.args.b.now) i false) (carry_out (value n bits c.args.start) (take i (values n bits c.args.a.now)) (take i (values n bits c.args.b.now))))
          p q c.in_ok-bit.ensures.stands.0
          (λ bits. c.in_ok-bit.ensures.sum bits ∙ equal_three sum_bit (first bits) (second bits) (c.loop-place.invariant.2 bits))
          (λ bits. sum_bits-more (value n bits c.args.start) (values n bits c.args.a.now) (values n bits c.args.b.now) i false (omega (arith, length-map c.args.a.now (value n bits))) (omega (arith, length-map c.args.b.now (value n bits))))
          (omega arith) (omega arith),
      c.in_ok-bit.ensures.stands.1,
      λ bits. c.in_ok-bit.ensures.carry bits
          ∙ equal_three next_carry (first bits) (second bits) (c.loop-place.invariant.2 bits)
          ∙ sym (carry_out-more (value n bits c.args.start) (values n bits c.args.a.now) (values n bits c.args.b.now) i false (omega (arith, length-map c.args.a.now (value n bits))) (omega (arith, length-map c.args.b.now (value n bits)))),
    )

-- the whole sum, with its top bit
top_bit : (n m one two : Circuit) (i : ℕ) (a b out : List Lit) (start carry differ bit : Lit)
    → Progress n m (5 * i) i out (λ bits. sum_bits (value n bits start) (take i (values n bits a)) (take i (values n bits b)))
    → ((bits : List Bool) → value m bits carry ≡ carry_out (value n bits start) (take i (values n bits a)) (take i (values n bits b)))
    → AllStand n a → AllStand n b → Stands m carry → Grows m one 1 0 → Grows one two 1 0 → Stands two bit
    → ((bits : List Bool) → value one bits differ ≡ xor (value m bits (get_or a i (record { code = 0 }))) (value m bits (get_or b i (record { code = 0 }))))
    → ((bits : List Bool) → value two bits bit ≡ xor (value one bits differ) (value one bits carry))
    → i + 1 ≡ length a → length a ≡ length b
    → Progress n two (5 * length a) (length a - 1) (out ++ bit ∷ []) (λ bits. sum_bits (value n bits start) (values n bits a) (values n bits b))
top_bit n m one two i a b out start carry differ bit p known sa sb sc q r s first second last same =
    let at_a : i < length a = omega arith in
    let at_b : i < length b = omega arith in
    Progress-push bit
    (λ bits. sum_bit (get_or (values n bits a) i false) (get_or (values n bits b) i false) (carry_out (value n bits start) (take i (values n bits a)) (take i (values n bits b))))
    p (Grows-trans q r) s
    (λ bits. second bits
    ∙ equal_two xor
    (first bits ∙ equal_two xor
    (Grows-value p.grows bits (get_or a i (record { code = 0 })) (sa i (record { code = 0 }) at_a) ∙ sym (get_or-values n bits a i (record { code = 0 }) false at_a))
    (Grows-value p.grows bits (get_or b i (record { code = 0 })) (sb i (record { code = 0 }) at_b) ∙ sym (get_or-values n bits b i (record { code = 0 }) false at_b)))
    (Grows-value q bits carry sc ∙ known bits))
    (λ bits.
    equal_lists (value n bits start) (sym (take_all (i + 1) (values n bits a) (omega (arith, length-map a (value n bits))))) (sym (take_all (i + 1) (values n bits b) (omega (arith, length-map b (value n bits)))))
    ∙ sum_bits-more (value n bits start) (values n bits a) (values n bits b) i false (omega (arith, length-map a (value n bits))) (omega (arith, length-map b (value n bits))))
    (omega arith) (omega arith)
  where
    equal_lists : (c : Bool) {xs ys us vs : List Bool} → xs ≡ us → ys ≡ vs → sum_bits c xs ys ≡ sum_bits c us vs
    equal_lists c {ys = ys} {us = us} e f = ap (λ (zs : List Bool). sum_bits c zs ys) e ∙ ap (λ (zs : List Bool). sum_bits c us zs) f

whole : (c : goal.In_ok-push-2) → Progress c.args.net.now c.xor-2.new.self (5 * length c.args.a.now) (length c.args.a.now - 1) (c.loop-place.out.items ++ c.in_ok-bit-2.bit ∷ []) (λ bits. sum_bits (value c.args.net.now bits c.args.start) (values c.args.net.now bits c.args.a.now) (values c.args.net.now bits c.args.b.now))
whole c =
    let top : ℕ = length c.args.a.now - 1 in
    let last : c.loop-place.place ≡ length c.args.a.now - 1 = omega (arith, c.loop-place-test.false, c.loop-place.auto.place-end) in
    let p = rw last at c.loop-place.invariant.0 in
    let known = rw last at c.loop-place.invariant.2 in
    top_bit c.args.net.now c.loop-place.net c.xor.new.self c.xor-2.new.self top c.args.a.now c.args.b.now c.loop-place.out.items c.args.start c.loop-place.carry c.in_ok-differ.differ c.in_ok-bit-2.bit
    p known c.requires.first c.requires.second c.loop-place.invariant.1 c.in_ok-differ.ensures.grows c.in_ok-bit-2.ensures.grows c.in_ok-bit-2.ensures.stands c.in_ok-differ.ensures.value c.in_ok-bit-2.ensures.value (omega (arith, c.requires.some)) c.requires.same_length

pub returns-clause-stands : goal.returns-clause-stands
returns-clause-stands c = rw c.in_ok-push-2.ensures.items (whole c).stands

pub returns-clause-value : goal.returns-clause-value
returns-clause-value c = λ bits. rw c.in_ok-push-2.ensures.items ((whole c).bits bits)

pub returns-clause-grows : goal.returns-clause-grows
returns-clause-grows c = (whole c).grows
