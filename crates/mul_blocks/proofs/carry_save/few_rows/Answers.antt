use Rattle.std.proofs.Common.{◌≡◌, ℕ, zero, suc, ◌+◌, ◌-◌, ◌*◌, ◌%◌, ◌^◌, ◌≤◌, Bool, List, length, get_or, sym, ap, ◌∙◌, arith}
use Rattle.std.proofs.Math.Nat.{mul-le-mul_left}
use Rattle.std.proofs.lemmas.Result.{err_from_is_err_and}
use Rattle.hy_bits.specs.Bits.{bit, number}
use Rattle.gate_net.specs.declared.literal.Lit.{Lit}
use Rattle.gate_net.specs.Circuit.{Circuit}
use Rattle.gate_net.specs.Meaning.{value}
use Rattle.gate_net.specs.Growth.{Grows}
use Rattle.gate_net.proofs.GrowthLaws.{Grows-value, Grows-trans, Grows-then, StopsWithin-after, Grows-refl, Grows-weaken}
use Rattle.gate_net.specs.Spelled.{spelled, AllStand}
use Rattle.gate_net.proofs.ListLaws.{AllWithin-Grows, values-Grows, level-at}
use Rattle.mul_blocks.proofs.RowLaws.{two-digits, three-digits, two-rows, three-rows}
use Rattle.mul_blocks.proofs.carry_save.few_rows.Goals as goal

two-gates : (n r : ℕ) → 2 ≤ r → n * 2 ≤ n * r
two-gates n r h = mul-le-mul_left n h

three-gates : (n r : ℕ) → r ≡ 3 → n * r + 5 * (n * (r - 2)) ≡ 8 * n
three-gates n r e = ap (λ (k : ℕ). n * k + 5 * (n * (k - 2))) e ∙ omega arith

-- a row made in a net that has grown
later : {n m : Circuit} {g i : ℕ} → Grows n m g i → (bits : List Bool) (word : List Lit) (digits : List Lit) (k p l out : ℕ) → AllStand n word → AllStand n digits → k + 1 ≤ length digits
    → out ≡ (spelled m bits word * (p * bit (value m bits (get_or digits k (record { code = 0 }))))) % 2 ^ l
    → out ≡ (spelled n bits word * (p * bit (value n bits (get_or digits k (record { code = 0 }))))) % 2 ^ l
later {n} {m} grown bits word digits k p l out stand_word stand_digits at is =
    is
    ∙ ap (λ (u : ℕ). (u * (p * bit (value m bits (get_or digits k (record { code = 0 }))))) % 2 ^ l) (ap number (values-Grows grown bits word stand_word))
    ∙ ap (λ (b : Bool). (spelled n bits word * (p * bit b)) % 2 ^ l) (Grows-value grown bits (get_or digits k (record { code = 0 })) (stand_digits k (record { code = 0 }) (omega arith)))

pub returns-in_err-second-clause-grows : goal.returns-in_err-second-clause-grows
returns-in_err-second-clause-grows c =
    let fits = two-gates (length c.args.word.now) (length c.args.digits.now) c.requires.least in
    Grows-then c.in_ok-first.ensures.grows c.in_err-second.ensures.grows (omega (arith, fits)) (omega (arith, fits))

pub returns-then-digits-eq2-clause-value : goal.returns-then-digits-eq2-clause-value
returns-then-digits-eq2-clause-value c = λ bits.
    let n = c.args.net.now in
    let first = ap number (values-Grows c.in_ok-second.ensures.grows bits c.in_ok-first.first.items c.in_ok-first.ensures.stands) ∙ c.in_ok-first.ensures.value bits in
    let second = later c.in_ok-first.ensures.grows bits c.args.word.now c.args.digits.now 1 (2 ^ (c.args.place + 1)) (length c.args.word.now) _ c.requires.word c.requires.digits (omega (arith, c.requires.least)) (c.in_ok-second.ensures.value bits) in
    two-rows (2 ^ length c.args.word.now) (spelled n bits c.args.word.now) c.args.place _ _ (spelled n bits c.args.digits.now) _ _
    (two-digits n bits c.args.digits.now (record { code = 0 }) c.if-digits-eq2.true) first second

pub returns-then-digits-eq2-clause-level : goal.returns-then-digits-eq2-clause-level
returns-then-digits-eq2-clause-level c = λ d k small low_word low_digits.
    let one = c.in_ok-first.ensures.grows in
    let two = c.in_ok-second.ensures.grows in
    let first = AllWithin-Grows two (d + 1) c.in_ok-first.first.items c.in_ok-first.ensures.stands (c.in_ok-first.ensures.level d low_word (low_digits 0 (record { code = 0 }) (omega (arith, c.requires.least)))) in
    let second = c.in_ok-second.ensures.level d (AllWithin-Grows one d c.args.word.now c.requires.word low_word) (level-at one d c.args.digits.now 1 c.requires.digits low_digits (omega (arith, c.requires.least))) in
    (λ i e l. omega (arith, first i e l), λ i e l. omega (arith, second i e l))

pub returns-in_err-third-clause-grows : goal.returns-in_err-third-clause-grows
returns-in_err-third-clause-grows c =
    let three : length c.args.digits.now ≡ 3 = omega (arith, c.requires.least, c.requires.most, c.if-digits-eq2.false) in
    let fits = three-gates (length c.args.word.now) (length c.args.digits.now) three in
    Grows-then (Grows-trans c.in_ok-first.ensures.grows c.in_ok-second.ensures.grows) c.in_err-third.ensures.grows (omega (arith, fits)) (omega (arith, fits))

pub returns-in_err-third-clause-stops : goal.returns-in_err-third-clause-stops
returns-in_err-third-clause-stops c =
    let p = err_from_is_err_and c.from_residual-in_err-third.result c.from_residual-in_err-third.ensures.1 in
    let three : length c.args.digits.now ≡ 3 = omega (arith, c.requires.least, c.requires.most, c.if-digits-eq2.false) in
    let fits = three-gates (length c.args.word.now) (length c.args.digits.now) three in
    rw (p.1, p.2) (StopsWithin-after c.placed_row-3.new.net (length c.args.word.now) (length c.args.word.now * length c.args.digits.now + 5 * (length c.args.word.now * (length c.args.digits.now - 2))) _ (Grows-trans c.in_ok-first.ensures.grows c.in_ok-second.ensures.grows) c.in_err-third.ensures.stops (omega (arith, fits)))

pub returns-in_err-out-clause-grows : goal.returns-in_err-out-clause-grows
returns-in_err-out-clause-grows c =
    let three : length c.args.digits.now ≡ 3 = omega (arith, c.requires.least, c.requires.most, c.if-digits-eq2.false) in
    let fits = three-gates (length c.args.word.now) (length c.args.digits.now) three in
    let long : length c.deref.result.now ≡ length c.args.word.now = ap length c.deref.ensures.value ∙ c.in_ok-first.ensures.same in
    Grows-then (Grows-trans (Grows-trans c.in_ok-first.ensures.grows c.in_ok-second.ensures.grows) c.in_ok-third.ensures.grows) c.in_err-out.ensures.grows (omega (arith, fits, long)) (omega (arith, fits, long))

pub returns-in_err-out-clause-stops : goal.returns-in_err-out-clause-stops
returns-in_err-out-clause-stops c =
    let p = err_from_is_err_and c.from_residual-in_err-out.result c.from_residual-in_err-out.ensures.1 in
    let three : length c.args.digits.now ≡ 3 = omega (arith, c.requires.least, c.requires.most, c.if-digits-eq2.false) in
    let fits = three-gates (length c.args.word.now) (length c.args.digits.now) three in
    let long : length c.deref.result.now ≡ length c.args.word.now = ap length c.deref.ensures.value ∙ c.in_ok-first.ensures.same in
    rw (p.1, p.2) (StopsWithin-after c.carry_save.new.net (5 * length c.deref.result.now) (length c.args.word.now * length c.args.digits.now + 5 * (length c.args.word.now * (length c.args.digits.now - 2))) _ (Grows-trans (Grows-trans c.in_ok-first.ensures.grows c.in_ok-second.ensures.grows) c.in_ok-third.ensures.grows) c.in_err-out.ensures.stops (omega (arith, fits, long)))

pub returns-clause-grows : goal.returns-clause-grows
returns-clause-grows c =
    let three : length c.args.digits.now ≡ 3 = omega (arith, c.requires.least, c.requires.most, c.if-digits-eq2.false) in
    let fits = three-gates (length c.args.word.now) (length c.args.digits.now) three in
    let long : length c.deref.result.now ≡ length c.args.word.now = ap length c.deref.ensures.value ∙ c.in_ok-first.ensures.same in
    Grows-then (Grows-trans (Grows-trans c.in_ok-first.ensures.grows c.in_ok-second.ensures.grows) c.in_ok-third.ensures.grows) c.in_ok-out.ensures.grows (omega (arith, fits, long)) (omega (arith, fits, long))

joined : (l k a b x y z x' y' g : ℕ) → l ≡ k → (a + b) % 2 ^ l ≡ (x + y + z) % 2 ^ l → x ≡ x' → y ≡ y' → (x' + y' + z) % 2 ^ k ≡ g → (a + b) % 2 ^ k ≡ g
joined l k a b x y z x' y' g e p q r is =
    ap (λ (j : ℕ). (a + b) % 2 ^ j) (sym e) ∙ p ∙ ap (λ (j : ℕ). (x + y + z) % 2 ^ j) e
    ∙ ap (λ (u : ℕ). (u + y + z) % 2 ^ k) q ∙ ap (λ (u : ℕ). (x' + u + z) % 2 ^ k) r ∙ is

pub returns-clause-value : goal.returns-clause-value
returns-clause-value c = λ bits.
    let n = c.args.net.now in
    let three : length c.args.digits.now ≡ 3 = omega (arith, c.requires.least, c.requires.most, c.if-digits-eq2.false) in
    let one = c.in_ok-first.ensures.grows in
    let two = c.in_ok-second.ensures.grows in
    let both = Grows-trans one two in
    let third = c.in_ok-third.ensures.grows in
    let known = rw (c.deref.ensures.value, c.deref-2.ensures.value, c.deref-3.ensures.value) at (c.in_ok-out.ensures.value bits) in
    let x = ap number (values-Grows (Grows-trans two third) bits c.in_ok-first.first.items c.in_ok-first.ensures.stands) in
    let y = ap number (values-Grows third bits c.in_ok-second.second.items c.in_ok-second.ensures.stands) in
    joined _ _ _ _ _ _ _ _ _ _ c.in_ok-first.ensures.same known x y
    (three-rows (2 ^ length c.args.word.now) (spelled n bits c.args.word.now) c.args.place _ _ _ (spelled n bits c.args.digits.now) _ _ _
    (three-digits n bits c.args.digits.now (record { code = 0 }) three)
    (c.in_ok-first.ensures.value bits)
    (later one bits c.args.word.now c.args.digits.now 1 (2 ^ (c.args.place + 1)) (length c.args.word.now) _ c.requires.word c.requires.digits (omega (arith, c.requires.least)) (c.in_ok-second.ensures.value bits))
    (later both bits c.args.word.now c.args.digits.now 2 (2 ^ (c.args.place + 2)) (length c.args.word.now) _ c.requires.word c.requires.digits (omega (arith, three)) (c.in_ok-third.ensures.value bits)))

-- three digits are more than twice one
some-level : (k : ℕ) → 3 ≤ 2 * 2 ^ k → 1 ≤ k
some-level k small = one k small
  where
    one : (k : ℕ) → 3 ≤ 2 * 2 ^ k → 1 ≤ k
    one zero h = absurd (omega arith)
    one (suc k) h = omega arith

pub returns-clause-level : goal.returns-clause-level
returns-clause-level c = λ d k small low_word low_digits.
    let three : length c.args.digits.now ≡ 3 = omega (arith, c.requires.least, c.requires.most, c.if-digits-eq2.false) in
    let one = c.in_ok-first.ensures.grows in
    let two = c.in_ok-second.ensures.grows in
    let both = Grows-trans one two in
    let third = c.in_ok-third.ensures.grows in
    let deep = some-level k (omega (arith, three, small)) in
    let x = AllWithin-Grows (Grows-trans two third) (d + 1) c.in_ok-first.first.items c.in_ok-first.ensures.stands (c.in_ok-first.ensures.level d low_word (low_digits 0 (record { code = 0 }) (omega (arith, c.requires.least)))) in
    let y = AllWithin-Grows third (d + 1) c.in_ok-second.second.items c.in_ok-second.ensures.stands (c.in_ok-second.ensures.level d (AllWithin-Grows one d c.args.word.now c.requires.word low_word) (level-at one d c.args.digits.now 1 c.requires.digits low_digits (omega (arith, c.requires.least)))) in
    let z = c.in_ok-third.ensures.level d (AllWithin-Grows both d c.args.word.now c.requires.word low_word) (level-at both d c.args.digits.now 2 c.requires.digits low_digits (omega (arith, three))) in
    let out = c.in_ok-out.ensures.level (d + 1) (rw c.deref.ensures.value x) (rw c.deref-2.ensures.value y) (rw c.deref-3.ensures.value z) in
    (λ i e l. omega (arith, out.0 i e l, deep), λ i e l. omega (arith, out.1 i e l, deep))

pub returns-in_err-first-clause-grows : goal.returns-in_err-first-clause-grows
returns-in_err-first-clause-grows c =
    let fits = two-gates (length c.args.word.now) (length c.args.digits.now) c.requires.least in
    Grows-weaken c.in_err-first.ensures.grows (omega (arith, fits)) (omega (arith, fits))

pub returns-in_err-first-clause-stops : goal.returns-in_err-first-clause-stops
returns-in_err-first-clause-stops c =
    let fits = two-gates (length c.args.word.now) (length c.args.digits.now) c.requires.least in
    let p = err_from_is_err_and c.from_residual.result c.from_residual.ensures.1 in
    rw (p.1, p.2) (StopsWithin-after c.placed_row.new.net (length c.args.word.now) (length c.args.word.now * length c.args.digits.now + 5 * (length c.args.word.now * (length c.args.digits.now - 2))) _ (Grows-refl c.args.net.now) c.in_err-first.ensures.stops (omega (arith, fits)))

pub returns-in_err-second-clause-stops : goal.returns-in_err-second-clause-stops
returns-in_err-second-clause-stops c =
    let fits = two-gates (length c.args.word.now) (length c.args.digits.now) c.requires.least in
    let p = err_from_is_err_and c.from_residual-in_err-second.result c.from_residual-in_err-second.ensures.1 in
    rw (p.1, p.2) (StopsWithin-after c.placed_row-2.new.net (length c.args.word.now) (length c.args.word.now * length c.args.digits.now + 5 * (length c.args.word.now * (length c.args.digits.now - 2))) _ c.in_ok-first.ensures.grows c.in_err-second.ensures.stops (omega (arith, fits)))

pub returns-then-digits-eq2-clause-grows : goal.returns-then-digits-eq2-clause-grows
returns-then-digits-eq2-clause-grows c =
    let fits = two-gates (length c.args.word.now) (length c.args.digits.now) c.requires.least in
    Grows-then c.in_ok-first.ensures.grows c.in_ok-second.ensures.grows (omega (arith, fits)) (omega (arith, fits))
