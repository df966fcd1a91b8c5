use Rattle.std.proofs.Common.{◌≡◌, ℕ, zero, suc, ◌+◌, ◌-◌, ◌*◌, ◌%◌, ◌^◌, ◌<◌, ◌≤◌, Bool, false, List, length, get_or, take, drop, sym, ap, ◌∙◌, arith, subst}
use Rattle.std.proofs.lemmas.Result.{err_from_is_err_and}
use Rattle.std.proofs.lemmas.List.{length-map, length-take-le, drop_more}
use Rattle.hy_bits.specs.Bits.{bit, number}
use Rattle.gate_net.specs.Circuit.{Stands}
use Rattle.gate_net.specs.Growth.{Grows}
use Rattle.gate_net.specs.Meaning.{value}
use Rattle.gate_net.proofs.GrowthLaws.{Grows-then, StopsWithin-after}
use Rattle.gate_net.specs.Spelled.{values, spelled}
use Rattle.gate_net.proofs.ListLaws.{values-Grows, bit-at}
use Rattle.adder_blocks.proofs.TreeLaws.{All-take, spelled-take}
use Rattle.mul_blocks.proofs.ModLaws.{digit-more}
use Rattle.mul_blocks.proofs.rows.product_by_rows.Goals as goal

square : (c : ℕ) → c ≤ c * c
square zero = omega arith
square (suc c) = omega arith

-- one row more
room : (c l : ℕ) → l ≡ c → (3 * (c * c) + (6 * l + 2) ≤ 3 * ((c + 1) * (c + 1))) × (c * c - c + 1 + 2 * l ≤ (c + 1) * (c + 1) - (c + 1) + 1)
room c l e = (omega arith, omega (arith, square c))

-- and that is within all
whole-of : (c j l : ℕ) → l ≡ c → (3 * (c * c) + (6 * l + 2) ≤ 3 * ((c + 1 + j) * (c + 1 + j))) × (c * c - c + 1 + 2 * l ≤ (c + 1 + j) * (c + 1 + j) - (c + 1 + j) + 1)
whole-of c j l e = (omega arith, omega (arith, square c))

whole : (c n l : ℕ) → l ≡ c → c < n → (3 * (c * c) + (6 * l + 2) ≤ 3 * (n * n)) × (c * c - c + 1 + 2 * l ≤ n * n - n + 1)
whole c n l e below =
    let known = whole-of c (n - (c + 1)) l e in
    let parts : c + 1 + (n - (c + 1)) ≡ n = omega arith in
    rw parts at known

pub returns-in_err-out-2-clause-grows : goal.returns-in_err-out-2-clause-grows
returns-in_err-out-2-clause-grows c =
    let long : length c.deref.result.now ≡ c.loop-count.count = ap length c.deref.ensures.value ∙ c.loop-count.invariant.2 in
    let fits = whole c.loop-count.count (length c.args.a.now) (length c.deref.result.now) long c.loop-count-test.true in
    Grows-then c.loop-count.invariant.0 c.in_err-out-2.ensures.grows (omega (arith, fits.0)) (omega (arith, fits.1))

pub returns-in_err-out-2-clause-stops : goal.returns-in_err-out-2-clause-stops
returns-in_err-out-2-clause-stops c =
    let p = err_from_is_err_and c.from_residual-in_err-out-2.result c.from_residual-in_err-out-2.ensures.1 in
    let long : length c.deref.result.now ≡ c.loop-count.count = ap length c.deref.ensures.value ∙ c.loop-count.invariant.2 in
    let fits = whole c.loop-count.count (length c.args.a.now) (length c.deref.result.now) long c.loop-count-test.true in
    rw (p.1, p.2) (StopsWithin-after c.row_and_twice.new.net (6 * length c.deref.result.now + 2) (3 * (length c.args.a.now * length c.args.a.now)) _ c.loop-count.invariant.0 c.in_err-out-2.ensures.stops (omega (arith, fits.0)))

-- the row of one digit more
row-more : (a rest all word r l i out : ℕ) (x y : Bool) → out ≡ (bit x * word + 2 * r) % 2 ^ l → x ≡ y → word ≡ a % 2 ^ (i + 1) → r ≡ (a * rest) % 2 ^ i → l ≡ i + 1 → all ≡ bit y + 2 * rest → out ≡ (a * all) % 2 ^ (i + 1)
row-more a rest all word r l i out x y made same_digit same_word so_far long digits =
    made
    ∙ ap (λ (j : ℕ). (bit x * word + 2 * r) % 2 ^ j) long
    ∙ ap (λ (b : Bool). (bit b * word + 2 * r) % 2 ^ (i + 1)) same_digit
    ∙ ap (λ (u : ℕ). (bit y * u + 2 * r) % 2 ^ (i + 1)) same_word
    ∙ digit-more a (bit y) rest r i so_far
    ∙ ap (λ (u : ℕ). (a * u) % 2 ^ (i + 1)) (sym digits)

-- the highest digits, with one more
digits-more : (xs : List Bool) (n i j : ℕ) → length xs ≡ n → i < n → j ≡ n - (i + 1) → number (drop (n - (i + 1)) xs) ≡ bit (get_or xs j false) + 2 * number (drop (n - i) xs)
digits-more xs n i j long below is =
    let next : n - (i + 1) + 1 ≡ n - i = omega arith in
    ap number (drop_more xs (n - (i + 1)) false (omega arith))
    ∙ ap (λ (k : ℕ). bit (get_or xs (n - (i + 1)) false) + 2 * number (drop k xs)) next
    ∙ ap (λ (k : ℕ). bit (get_or xs k false) + 2 * number (drop (n - i) xs)) (sym is)

pub loop-count-preserved : goal.loop-count-preserved
loop-count-preserved c =
    let n = c.args.net.now in
    let m = c.loop-count.net in
    let i : ℕ = c.loop-count.count in
    let at : ℕ = length c.args.a.now - 1 - c.loop-count.count in
    let p = c.loop-count.invariant.0 in
    let long : length c.deref.result.now ≡ c.loop-count.count = ap length c.deref.ensures.value ∙ c.loop-count.invariant.2 in
    let fits = room c.loop-count.count (length c.deref.result.now) long in
    let below : c.loop-count.count < length c.args.a.now = c.loop-count-test.true in
    let size : length (take (c.loop-count.count + 1) c.args.a.now) ≡ c.loop-count.count + 1 = length-take-le (c.loop-count.count + 1) c.args.a.now (omega arith) in
    let at_b : length c.args.a.now - 1 - c.loop-count.count < length c.args.b.now = omega (arith, c.requires.same_length) in (
      Grows-then p c.in_ok-out-2.ensures.grows (omega (arith, fits.0)) (omega (arith, fits.1)),
      c.in_ok-out-2.ensures.stands,
      c.in_ok-out-2.ensures.same ∙ size,
      λ bits.
          let known = rw c.deref.ensures.value at (c.in_ok-out-2.ensures.value bits) in
          let word : spelled m bits (take (c.loop-count.count + 1) c.args.a.now) ≡ spelled n bits c.args.a.now % 2 ^ (c.loop-count.count + 1) =
          ap number (values-Grows p bits (take (i + 1) c.args.a.now) (All-take (Stands n) (i + 1) c.args.a.now c.requires.first))
          ∙ spelled-take n bits c.args.a.now (i + 1) in
          let digit : value m bits (get_or c.args.b.now at (record { code = 0 })) ≡ get_or (values n bits c.args.b.now) at false = bit-at p bits c.args.b.now at c.requires.second at_b in
          row-more (spelled n bits c.args.a.now) _ _ _ _ _ i _ _ _ known digit word (c.loop-count.invariant.3 bits) size
          (digits-more (values n bits c.args.b.now) (length c.args.b.now) i at (length-map c.args.b.now (value n bits)) (omega (arith, c.requires.same_length)) (omega (arith, c.requires.same_length))),
    )

pub returns-clause-grows : goal.returns-clause-grows
returns-clause-grows c =
    let all : c.loop-count.count ≡ length c.args.a.now = omega arith in
    subst (λ (k : ℕ). Grows c.args.net.now c.loop-count.net (3 * (k * k)) (k * k - k + 1)) all c.loop-count.invariant.0
