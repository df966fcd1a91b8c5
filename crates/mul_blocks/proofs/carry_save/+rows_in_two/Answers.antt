use Rattle.std.proofs.Common.{◌≡◌, ℕ, zero, suc, ◌+◌, ◌-◌, ◌*◌, ◌/◌, ◌%◌, ◌^◌, ◌≤◌, List, length, take, drop, refl, sym, ap, ◌∙◌, arith}
use Rattle.std.proofs.Math.Nat.{pow-suc}
use Rattle.std.proofs.lemmas.Result.{err_from_is_err_and}
use Rattle.hy_bits.specs.Bits.{number}
use Rattle.gate_net.specs.declared.literal.Lit.{Lit}
use Rattle.gate_net.specs.Circuit.{Stands}
use Rattle.gate_net.specs.Meaning.{level}
use Rattle.gate_net.proofs.GrowthLaws.{Grows-trans, Grows-then, StopsWithin-after}
use Rattle.gate_net.specs.Spelled.{spelled, AllStand, AllWithin}
use Rattle.gate_net.proofs.ListLaws.{AllWithin-Grows, values-Grows}
use Rattle.adder_blocks.proofs.TreeLaws.{All-take, All-drop, spelled-parts}
use Rattle.mul_blocks.proofs.RowLaws.{rows-halves, tree-gates}
use Rattle.mul_blocks.proofs.carry_save.+rows_in_two.Goals as goal

-- half of the digits are within half of the power of two
halves : (r k : ℕ) → 4 ≤ r → r ≤ 2 * 2 ^ k → (i : ℕ) × (k ≡ i + 1) × (r - r / 2 ≤ 2 * 2 ^ i) × (r / 2 ≤ 2 * 2 ^ i)
halves r zero four small = absurd (omega arith)
halves r (suc i) four small =
    let twice : 2 ^ suc i ≡ 2 ^ i * 2 = pow-suc 2 i in
    (i, omega arith, omega arith, omega arith)

-- the sum of four words is that of the two halves' sums
joined : (l k a b s t x y z w g : ℕ) → l ≡ k → (a + b) % 2 ^ l ≡ (x + y + (z + w)) % 2 ^ l → x + y ≡ s → z + w ≡ t → (s + t) % 2 ^ k ≡ g → (a + b) % 2 ^ k ≡ g
joined l k a b s t x y z w g e p q r is =
    ap (λ (j : ℕ). (a + b) % 2 ^ j) (sym e) ∙ p ∙ ap (λ (j : ℕ). (x + y + (z + w)) % 2 ^ j) e
    ∙ ap (λ (u : ℕ). (u + (z + w)) % 2 ^ k) q ∙ ap (λ (u : ℕ). (s + u) % 2 ^ k) r ∙ is

pub returns-in_err-z-clause-grows : goal.returns-in_err-z-clause-grows
returns-in_err-z-clause-grows t c =
    let total = tree-gates (length c.args.word.now) (length c.split_at.result.0.now) (length c.split_at.result.1.now) (length c.args.digits.now) (omega (arith, c.split_at.ensures.front_len)) (omega (arith, c.split_at.ensures.back_len)) (omega (arith, c.split_at.ensures.front_len, c.split_at.ensures.back_len)) in
    Grows-then c.in_ok-x.ensures.grows c.in_err-z.ensures.grows (omega (arith, total)) (omega (arith, total))

pub returns-in_err-z-clause-stops : goal.returns-in_err-z-clause-stops
returns-in_err-z-clause-stops t c =
    let p = err_from_is_err_and c.from_residual-in_err-z.result c.from_residual-in_err-z.ensures.1 in
    let total = tree-gates (length c.args.word.now) (length c.split_at.result.0.now) (length c.split_at.result.1.now) (length c.args.digits.now) (omega (arith, c.split_at.ensures.front_len)) (omega (arith, c.split_at.ensures.back_len)) (omega (arith, c.split_at.ensures.front_len, c.split_at.ensures.back_len)) in
    rw (p.1, p.2) (StopsWithin-after c.rows_in_two-2.new.net (length c.args.word.now * length c.split_at.result.1.now + 5 * (length c.args.word.now * (length c.split_at.result.1.now - 2))) (length c.args.word.now * length c.args.digits.now + 5 * (length c.args.word.now * (length c.args.digits.now - 2))) _ c.in_ok-x.ensures.grows c.in_err-z.ensures.stops (omega (arith, total)))

pub returns-in_err-out-clause-grows : goal.returns-in_err-out-clause-grows
returns-in_err-out-clause-grows t c =
    let total = tree-gates (length c.args.word.now) (length c.split_at.result.0.now) (length c.split_at.result.1.now) (length c.args.digits.now) (omega (arith, c.split_at.ensures.front_len)) (omega (arith, c.split_at.ensures.back_len)) (omega (arith, c.split_at.ensures.front_len, c.split_at.ensures.back_len)) in
    let long : length c.deref.result.now ≡ length c.args.word.now = ap length c.deref.ensures.value ∙ c.in_ok-x.ensures.same.0 in
    Grows-then (Grows-trans c.in_ok-x.ensures.grows c.in_ok-z.ensures.grows) c.in_err-out.ensures.grows (omega (arith, total, long)) (omega (arith, total, long))

pub returns-in_err-out-clause-stops : goal.returns-in_err-out-clause-stops
returns-in_err-out-clause-stops t c =
    let p = err_from_is_err_and c.from_residual-in_err-out.result c.from_residual-in_err-out.ensures.1 in
    let total = tree-gates (length c.args.word.now) (length c.split_at.result.0.now) (length c.split_at.result.1.now) (length c.args.digits.now) (omega (arith, c.split_at.ensures.front_len)) (omega (arith, c.split_at.ensures.back_len)) (omega (arith, c.split_at.ensures.front_len, c.split_at.ensures.back_len)) in
    let long : length c.deref.result.now ≡ length c.args.word.now = ap length c.deref.ensures.value ∙ c.in_ok-x.ensures.same.0 in
    rw (p.1, p.2) (StopsWithin-after c.four_to_two.new.net (10 * length c.deref.result.now) (length c.args.word.now * length c.args.digits.now + 5 * (length c.args.word.now * (length c.args.digits.now - 2))) _ (Grows-trans c.in_ok-x.ensures.grows c.in_ok-z.ensures.grows) c.in_err-out.ensures.stops (omega (arith, total, long)))

pub returns-clause-grows : goal.returns-clause-grows
returns-clause-grows t c =
    let total = tree-gates (length c.args.word.now) (length c.split_at.result.0.now) (length c.split_at.result.1.now) (length c.args.digits.now) (omega (arith, c.split_at.ensures.front_len)) (omega (arith, c.split_at.ensures.back_len)) (omega (arith, c.split_at.ensures.front_len, c.split_at.ensures.back_len)) in
    let long : length c.deref.result.now ≡ length c.args.word.now = ap length c.deref.ensures.value ∙ c.in_ok-x.ensures.same.0 in
    Grows-then (Grows-trans c.in_ok-x.ensures.grows c.in_ok-z.ensures.grows) c.in_ok-out.ensures.grows (omega (arith, total, long)) (omega (arith, total, long))

pub returns-clause-value : goal.returns-clause-value
returns-clause-value t c = λ bits.
    let n = c.args.net.now in
    let one = c.in_ok-x.ensures.grows in
    let two = c.in_ok-z.ensures.grows in
    let long : length c.deref.result.now ≡ length c.args.word.now = ap length c.deref.ensures.value ∙ c.in_ok-x.ensures.same.0 in
    let front : c.split_at.result.0.now ≡ take (length c.split_at.result.0.now) c.args.digits.now = c.split_at.ensures.front ∙ ap (λ (k : ℕ). take k c.args.digits.now) (sym c.split_at.ensures.front_len) in
    let back : c.split_at.result.1.now ≡ drop (length c.split_at.result.0.now) c.args.digits.now = c.split_at.ensures.back ∙ ap (λ (k : ℕ). drop k c.args.digits.now) (sym c.split_at.ensures.front_len) in
    let high : AllStand n c.split_at.result.1.now = rw c.split_at.ensures.back (All-drop (Stands n) _ c.args.digits.now c.requires.digits) in
    let whole = spelled-parts n bits c.args.digits.now c.split_at.result.0.now c.split_at.result.1.now (length c.split_at.result.0.now) front back refl in
    let same_word : spelled c.rows_in_two.new.net bits c.args.word.now ≡ spelled n bits c.args.word.now = ap number (values-Grows one bits c.args.word.now c.requires.word) in
    let same_high : spelled c.rows_in_two.new.net bits c.split_at.result.1.now ≡ spelled n bits c.split_at.result.1.now = ap number (values-Grows one bits c.split_at.result.1.now high) in
    let second = c.in_ok-z.ensures.value bits
    ∙ ap (λ (u : ℕ). (u * (2 ^ (c.args.place + length c.split_at.result.0.now) * spelled c.rows_in_two.new.net bits c.split_at.result.1.now)) % 2 ^ length c.args.word.now) same_word
    ∙ ap (λ (u : ℕ). (spelled n bits c.args.word.now * (2 ^ (c.args.place + length c.split_at.result.0.now) * u)) % 2 ^ length c.args.word.now) same_high in
    let known = rw (c.deref.ensures.value, c.deref-2.ensures.value, c.deref-3.ensures.value, c.deref-4.ensures.value) at (c.in_ok-out.ensures.value bits) in
    let kept = λ (l : List Lit) (h : AllStand c.rows_in_two.new.net l). ap number (values-Grows two bits l h) in
    let x = kept c.in_ok-x.x.items c.in_ok-x.ensures.stands.0 in
    let y = kept c.in_ok-x.y.items c.in_ok-x.ensures.stands.1 in
    joined _ _ _ _ _ _ _ _ _ _ _ c.in_ok-x.ensures.same.0 known
    (ap (λ (u : ℕ). u + spelled c.rows_in_two-2.new.net bits c.in_ok-x.y.items) x ∙ ap (λ (u : ℕ). spelled c.rows_in_two.new.net bits c.in_ok-x.x.items + u) y)
    refl
    (rows-halves (2 ^ length c.args.word.now) (spelled n bits c.args.word.now) c.args.place (length c.split_at.result.0.now) (spelled n bits c.split_at.result.0.now) (spelled n bits c.split_at.result.1.now) (spelled n bits c.args.digits.now) _ _ whole (c.in_ok-x.ensures.value bits) second)

pub returns-clause-level : goal.returns-clause-level
returns-clause-level t c = λ d k small low_word low_digits.
    let n = c.args.net.now in
    let one = c.in_ok-x.ensures.grows in
    let two = c.in_ok-z.ensures.grows in
    let h = halves (length c.args.digits.now) k (omega arith) small in
    let high_stands : AllStand n c.split_at.result.1.now = rw c.split_at.ensures.back (All-drop (Stands n) _ c.args.digits.now c.requires.digits) in
    let low_front : AllWithin n d c.split_at.result.0.now = rw c.split_at.ensures.front (All-take (λ l. level n l ≤ d) _ c.args.digits.now low_digits) in
    let low_back : AllWithin n d c.split_at.result.1.now = rw c.split_at.ensures.back (All-drop (λ l. level n l ≤ d) _ c.args.digits.now low_digits) in
    let first = c.in_ok-x.ensures.level d h.0 (omega (arith, c.split_at.ensures.front_len, h.2)) low_word low_front in
    let second = c.in_ok-z.ensures.level d h.0 (omega (arith, c.split_at.ensures.back_len, h.3)) (AllWithin-Grows one d c.args.word.now c.requires.word low_word) (AllWithin-Grows one d c.split_at.result.1.now high_stands low_back) in
    let out = c.in_ok-out.ensures.level (d + 1 + 2 * h.0)
    (rw c.deref.ensures.value (AllWithin-Grows two (d + 1 + 2 * h.0) c.in_ok-x.x.items c.in_ok-x.ensures.stands.0 first.0))
    (rw c.deref-2.ensures.value (AllWithin-Grows two (d + 1 + 2 * h.0) c.in_ok-x.y.items c.in_ok-x.ensures.stands.1 first.1))
    (rw c.deref-3.ensures.value second.0)
    (rw c.deref-4.ensures.value second.1) in
    (λ i e l. omega (arith, out.0 i e l, h.1), λ i e l. omega (arith, out.1 i e l, h.1))
