use Rattle.std.proofs.Common.{◌≡◌, ℕ, ◌+◌, ◌*◌, ◌-◌, ◌<◌, ◌≤◌, ◌^◌, ◌%◌, Bool, false, List, [], ◌∷◌, ◌++◌, length, get_or, take, refl, sym, ap, ◌∙◌, arith, rules}
use Rattle.std.proofs.lemmas.Result.{err_from_is_err_and}
use Rattle.std.proofs.lemmas.List.{length-map, length_push}
use Rattle.hy_bits.specs.Bits.{number, xor, sum_bit, next_carry, bitwise_three}
use Rattle.gate_net.specs.declared.literal.Lit.{Lit}
use Rattle.gate_net.specs.Circuit.{Circuit, Stands}
use Rattle.gate_net.specs.Meaning.{value, level}
use Rattle.gate_net.specs.Growth.{Grows}
use Rattle.gate_net.proofs.MeaningLaws.{value-false, level-constant}
use Rattle.gate_net.proofs.GrowthLaws.{Grows-refl, Grows-trans, Grows-then, StopsWithin-after, Grows-weaken}
use Rattle.gate_net.specs.Spelled.{values, spelled, AllStand}
use Rattle.gate_net.proofs.ListLaws.{Progress, Progress-push, Progress-start, AllWithin-push, AllWithin-Grows, AllStand-Grows, values-Grows, All-cons, equal_two, equal_three, Stands-constant, bit-at, level-at}
use Rattle.adder_blocks.proofs.BitSteps.{bitwise_three-more}
use Rattle.mul_blocks.proofs.RowLaws.{three-whole, number-saved}
use Rattle.mul_blocks.proofs.carry_save.carry_save.Goals as goal

-- the carry into the lowest place
carries-start : (n : Circuit) (l : Lit) → l.code ≡ 0 → Progress n n 0 0 (l ∷ []) (λ bits. false ∷ [])
carries-start n l e = record {
  grows = Grows-refl n;
  stands = All-cons (Stands n) l [] (Stands-constant n l (omega arith)) (λ k d h. absurd (omega arith));
  bits = λ bits. ap (λ (b : Bool). b ∷ []) (value-false n bits l e);
}

-- answers while the net grows further
Progress-Grows : {old m n : Circuit} {g i h j g' i' : ℕ} {out : List Lit} {carried : List Bool → List Bool} → Progress old m g i out carried → Grows m n h j → g + h ≤ g' → i + j ≤ i' → Progress old n g' i' out carried
Progress-Grows {out = out} p q few few_ands = record {
  grows = Grows-then p.grows q few few_ands;
  stands = AllStand-Grows q out p.stands;
  bits = λ bits. values-Grows q bits out p.stands ∙ p.bits bits;
}

-- the top place
top_bit : (n m one two : Circuit) (i : ℕ) (x y z out : List Lit) (differ bit : Lit)
    → Progress n m (5 * i) i out (λ bits. bitwise_three sum_bit (take i (values n bits x)) (take i (values n bits y)) (take i (values n bits z)))
    → AllStand n x → AllStand n y → AllStand n z → Grows m one 1 0 → Grows one two 1 0 → Stands two bit
    → ((bits : List Bool) → value one bits differ ≡ xor (value m bits (get_or x i (record { code = 0 }))) (value m bits (get_or y i (record { code = 0 }))))
    → ((bits : List Bool) → value two bits bit ≡ xor (value one bits differ) (value one bits (get_or z i (record { code = 0 }))))
    → length x ≡ i + 1 → length y ≡ i + 1 → length z ≡ i + 1
    → Progress n two (5 * (i + 1)) (i + 1) (out ++ bit ∷ []) (λ bits. bitwise_three sum_bit (values n bits x) (values n bits y) (values n bits z))
top_bit n m one two i x y z out differ bit p sx sy sz q r s first second long_x long_y long_z =
    Progress-push bit
    (λ bits. sum_bit (get_or (values n bits x) i false) (get_or (values n bits y) i false) (get_or (values n bits z) i false))
    p (Grows-trans q r) s
    (λ bits. second bits
    ∙ equal_two xor
    (first bits ∙ equal_two xor (bit-at p.grows bits x i sx (omega arith)) (bit-at p.grows bits y i sy (omega arith)))
    (bit-at (Grows-trans p.grows q) bits z i sz (omega arith)))
    (λ bits. three-whole sum_bit (values n bits x) (values n bits y) (values n bits z) i (length-map x (value n bits) ∙ long_x) (length-map y (value n bits) ∙ long_y) (length-map z (value n bits) ∙ long_z))
    (omega arith) (omega arith)

pub loop-place-init : goal.loop-place-init
loop-place-init c =
    let one : c.in_ok-carries.carries.items ≡ (let l : Lit = record { code = 0 } in l) ∷ [] = search rules in
    rw (c.new-sums.ensures.items, one) (
      Progress-start c.args.net.now _ (λ bits. refl),
      carries-start c.args.net.now (record { code = 0 }) refl,
      (λ d first second third. (λ k e l. absurd (omega arith), All-cons (λ x. level c.args.net.now x ≤ d + 1) (record { code = 0 }) [] (omega (arith, level-constant c.args.net.now (record { code = 0 }) (omega arith))) (λ k e l. absurd (omega arith)))),
      refl,
      refl,
    )

pub returns-in_err-push-clause-grows : goal.returns-in_err-push-clause-grows
returns-in_err-push-clause-grows c = Grows-then c.loop-place.invariant.0.grows c.in_ok-sum.ensures.grows (omega arith) (omega arith)

pub returns-in_err-push-2-clause-grows : goal.returns-in_err-push-2-clause-grows
returns-in_err-push-2-clause-grows c = Grows-then c.loop-place.invariant.0.grows c.in_ok-sum.ensures.grows (omega arith) (omega arith)

pub loop-place-preserved : goal.loop-place-preserved
loop-place-preserved c =
    let p = c.loop-place.invariant.0 in
    let p' = c.loop-place.invariant.1 in
    let q = c.in_ok-sum.ensures.grows in
    let n = c.args.net.now in
    let i = c.loop-place.place in
    let at_x : c.loop-place.place < length c.args.x.now = omega arith in
    let at_y : c.loop-place.place < length c.args.y.now = omega (arith, c.requires.same_second) in
    let at_z : c.loop-place.place < length c.args.z.now = omega (arith, c.requires.same_third) in
    let first = λ (bits : List Bool). bit-at p.grows bits c.args.x.now i c.requires.first at_x in
    let second = λ (bits : List Bool). bit-at p.grows bits c.args.y.now i c.requires.second at_y in
    let third = λ (bits : List Bool). bit-at p.grows bits c.args.z.now i c.requires.third at_z in
    rw (c.in_ok-push.ensures.items, c.in_ok-push-2.ensures.items) (
      Progress-push c.in_ok-sum.sum
          (λ bits. sum_bit (get_or (values n bits c.args.x.now) i false) (get_or (values n bits c.args.y.now) i false) (get_or (values n bits c.args.z.now) i false))
          p q c.in_ok-sum.ensures.stands.0
          (λ bits. c.in_ok-sum.ensures.sum bits ∙ equal_three sum_bit (first bits) (second bits) (third bits))
          (λ bits. bitwise_three-more sum_bit (values n bits c.args.x.now) (values n bits c.args.y.now) (values n bits c.args.z.now) i false (omega (arith, length-map c.args.x.now (value n bits))) (omega (arith, length-map c.args.y.now (value n bits))) (omega (arith, length-map c.args.z.now (value n bits))))
          (omega arith) (omega arith),
      Progress-push c.in_ok-sum.carry
          (λ bits. next_carry (get_or (values n bits c.args.x.now) i false) (get_or (values n bits c.args.y.now) i false) (get_or (values n bits c.args.z.now) i false))
          p' q c.in_ok-sum.ensures.stands.1
          (λ bits. c.in_ok-sum.ensures.carry bits ∙ equal_three next_carry (first bits) (second bits) (third bits))
          (λ bits. ap (λ (bs : List Bool). false ∷ bs) (bitwise_three-more next_carry (values n bits c.args.x.now) (values n bits c.args.y.now) (values n bits c.args.z.now) i false (omega (arith, length-map c.args.x.now (value n bits))) (omega (arith, length-map c.args.y.now (value n bits))) (omega (arith, length-map c.args.z.now (value n bits)))))
          (omega arith) (omega arith),
      (λ d low_x low_y low_z.
          let before = c.loop-place.invariant.2 d low_x low_y low_z in
          let x = level-at p.grows d c.args.x.now i c.requires.first low_x at_x in
          let y = level-at p.grows d c.args.y.now i c.requires.second low_y at_y in
          let z = level-at p.grows d c.args.z.now i c.requires.third low_z at_z in (
            AllWithin-push (d + 1) c.loop-place.sums.items c.in_ok-sum.sum q p.stands before.0 (omega (arith, c.in_ok-sum.ensures.sum_level d x y z)),
            AllWithin-push (d + 1) c.loop-place.carries.items c.in_ok-sum.carry q p'.stands before.1 (c.in_ok-sum.ensures.carry_level d x y z),
          )),
      omega (arith, length_push c.loop-place.sums.items c.in_ok-sum.sum),
      omega (arith, length_push c.loop-place.carries.items c.in_ok-sum.carry),
    )

pub returns-in_err-differ-clause-stops : goal.returns-in_err-differ-clause-stops
returns-in_err-differ-clause-stops c =
    let p = err_from_is_err_and c.from_residual-in_err-differ.result c.from_residual-in_err-differ.ensures.1 in
    rw (p.1, p.2) (StopsWithin-after c.xor.new.self 1 (5 * length c.args.x.now) _ c.loop-place.invariant.0.grows c.in_err-differ.ensures.stops (omega (arith, c.requires.some)))

pub returns-in_err-sum-2-clause-grows : goal.returns-in_err-sum-2-clause-grows
returns-in_err-sum-2-clause-grows c = Grows-then (Grows-trans c.loop-place.invariant.0.grows c.in_ok-differ.ensures.grows) c.in_err-sum-2.ensures.grows (omega (arith, c.requires.some)) (omega (arith, c.requires.some))

pub returns-in_err-sum-2-clause-stops : goal.returns-in_err-sum-2-clause-stops
returns-in_err-sum-2-clause-stops c =
    let p = err_from_is_err_and c.from_residual-in_err-sum-2.result c.from_residual-in_err-sum-2.ensures.1 in
    rw (p.1, p.2) (StopsWithin-after c.xor-2.new.self 1 (5 * length c.args.x.now) _ (Grows-trans c.loop-place.invariant.0.grows c.in_ok-differ.ensures.grows) c.in_err-sum-2.ensures.stops (omega (arith, c.requires.some)))

pub returns-in_err-push-3-clause-grows : goal.returns-in_err-push-3-clause-grows
returns-in_err-push-3-clause-grows c = Grows-then (Grows-trans c.loop-place.invariant.0.grows c.in_ok-differ.ensures.grows) c.in_ok-sum-2.ensures.grows (omega (arith, c.requires.some)) (omega (arith, c.requires.some))

-- all places but the top one were walked
last : (c : goal.In_ok-push-3) → length c.args.x.now ≡ c.loop-place.place + 1
last c = omega (arith, c.loop-place-test.false, c.loop-place.auto.place-end, c.requires.some)

sums : (c : goal.In_ok-push-3) → Progress c.args.net.now c.xor-2.new.self (5 * (c.loop-place.place + 1)) (c.loop-place.place + 1) (c.loop-place.sums.items ++ c.in_ok-sum-2.sum ∷ []) (λ bits. bitwise_three sum_bit (values c.args.net.now bits c.args.x.now) (values c.args.net.now bits c.args.y.now) (values c.args.net.now bits c.args.z.now))
sums c =
    let top : length c.args.x.now - 1 ≡ c.loop-place.place = omega (arith, last c) in
    let first = rw top at c.in_ok-differ.ensures.value in
    let second = rw top at c.in_ok-sum-2.ensures.value in
    top_bit c.args.net.now c.loop-place.net c.xor.new.self c.xor-2.new.self c.loop-place.place c.args.x.now c.args.y.now c.args.z.now c.loop-place.sums.items c.in_ok-differ.differ c.in_ok-sum-2.sum
    c.loop-place.invariant.0 c.requires.first c.requires.second c.requires.third c.in_ok-differ.ensures.grows c.in_ok-sum-2.ensures.grows c.in_ok-sum-2.ensures.stands first second (last c) (c.requires.same_second ∙ last c) (c.requires.same_third ∙ last c)

carries : (c : goal.In_ok-push-3) → Progress c.args.net.now c.xor-2.new.self (5 * (c.loop-place.place + 1)) (c.loop-place.place + 1) c.loop-place.carries.items (λ bits. false ∷ bitwise_three next_carry (take c.loop-place.place (values c.args.net.now bits c.args.x.now)) (take c.loop-place.place (values c.args.net.now bits c.args.y.now)) (take c.loop-place.place (values c.args.net.now bits c.args.z.now)))
carries c = Progress-Grows c.loop-place.invariant.1 (Grows-trans c.in_ok-differ.ensures.grows c.in_ok-sum-2.ensures.grows) (omega arith) (omega arith)

pub returns-clause-stands : goal.returns-clause-stands
returns-clause-stands c = rw c.in_ok-push-3.ensures.items ((sums c).stands, (carries c).stands)

saved : (n m : Circuit) (bits : List Bool) (x y z ss cs : List Lit) (k : ℕ) → length x ≡ k + 1 → length y ≡ length x → length z ≡ length x
    → values m bits ss ≡ bitwise_three sum_bit (values n bits x) (values n bits y) (values n bits z)
    → values m bits cs ≡ false ∷ bitwise_three next_carry (take k (values n bits x)) (take k (values n bits y)) (take k (values n bits z))
    → (spelled m bits ss + spelled m bits cs) % 2 ^ length x ≡ (spelled n bits x + spelled n bits y + spelled n bits z) % 2 ^ length x
saved n m bits x y z ss cs k long same_y same_z first second =
    ap (λ (l : ℕ). (spelled m bits ss + spelled m bits cs) % 2 ^ l) long
    ∙ ap (λ (s : List Bool). (number s + spelled m bits cs) % 2 ^ (k + 1)) first
    ∙ ap (λ (s : List Bool). (number (bitwise_three sum_bit (values n bits x) (values n bits y) (values n bits z)) + number s) % 2 ^ (k + 1)) second
    ∙ number-saved (values n bits x) (values n bits y) (values n bits z) k (length-map x (value n bits) ∙ long) (length-map y (value n bits) ∙ same_y ∙ long) (length-map z (value n bits) ∙ same_z ∙ long)
    ∙ ap (λ (l : ℕ). (spelled n bits x + spelled n bits y + spelled n bits z) % 2 ^ l) (sym long)

pub returns-clause-value : goal.returns-clause-value
returns-clause-value c = λ bits.
    rw c.in_ok-push-3.ensures.items
    (saved c.args.net.now c.xor-2.new.self bits c.args.x.now c.args.y.now c.args.z.now (c.loop-place.sums.items ++ c.in_ok-sum-2.sum ∷ []) c.loop-place.carries.items c.loop-place.place (last c) c.requires.same_second c.requires.same_third ((sums c).bits bits) ((carries c).bits bits))

pub returns-clause-level : goal.returns-clause-level
returns-clause-level c = λ d low_x low_y low_z.
    let p = c.loop-place.invariant.0 in
    let p' = c.loop-place.invariant.1 in
    let before = c.loop-place.invariant.2 d low_x low_y low_z in
    let q = Grows-trans c.in_ok-differ.ensures.grows c.in_ok-sum-2.ensures.grows in
    let top : length c.args.x.now - 1 < length c.args.x.now = omega (arith, c.requires.some) in
    let x = level-at p.grows d c.args.x.now (length c.args.x.now - 1) c.requires.first low_x top in
    let y = level-at p.grows d c.args.y.now (length c.args.x.now - 1) c.requires.second low_y (omega (arith, c.requires.same_second, top)) in
    let z = level-at (Grows-trans p.grows c.in_ok-differ.ensures.grows) d c.args.z.now (length c.args.x.now - 1) c.requires.third low_z (omega (arith, c.requires.same_third, top)) in
    rw c.in_ok-push-3.ensures.items (
      AllWithin-push (d + 1) c.loop-place.sums.items c.in_ok-sum-2.sum q p.stands before.0 (omega (arith, x, y, z, c.in_ok-differ.ensures.level, c.in_ok-sum-2.ensures.level)),
      AllWithin-Grows q (d + 1) c.loop-place.carries.items p'.stands before.1,
    )

pub returns-clause-grows : goal.returns-clause-grows
returns-clause-grows c = Grows-then (Grows-trans c.loop-place.invariant.0.grows c.in_ok-differ.ensures.grows) c.in_ok-sum-2.ensures.grows (omega (arith, c.requires.some)) (omega (arith, c.requires.some))

pub returns-in_err-carries-clause-grows : goal.returns-in_err-carries-clause-grows
returns-in_err-carries-clause-grows c = Grows-weaken (Grows-refl c.args.net.now) (omega arith) (omega arith)

pub returns-in_err-sum-clause-grows : goal.returns-in_err-sum-clause-grows
returns-in_err-sum-clause-grows c = Grows-then c.loop-place.invariant.0.grows c.in_err-sum.ensures.grows (omega arith) (omega arith)

pub returns-in_err-sum-clause-stops : goal.returns-in_err-sum-clause-stops
returns-in_err-sum-clause-stops c =
    let p = err_from_is_err_and c.from_residual-in_err-sum.result c.from_residual-in_err-sum.ensures.1 in
    rw (p.1, p.2) (StopsWithin-after c.full_adder.new.net 5 (5 * length c.args.x.now) _ c.loop-place.invariant.0.grows c.in_err-sum.ensures.stops (omega arith))

pub returns-in_err-differ-clause-grows : goal.returns-in_err-differ-clause-grows
returns-in_err-differ-clause-grows c = Grows-then c.loop-place.invariant.0.grows c.in_err-differ.ensures.grows (omega (arith, c.requires.some)) (omega (arith, c.requires.some))
