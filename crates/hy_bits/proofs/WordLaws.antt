-- Laws of the operations on words, for words below any m. Where the sign matters, m is twice a number `half`.
use Rattle.std.proofs.Common.{◌≡◌, ℕ, zero, suc, ◌+◌, ◌-◌, ◌*◌, ◌/◌, ◌%◌, ◌^◌, ◌<◌, ◌≤◌, min, Bool, true, false, eqb, ltb, if◌then◌else◌, ℤ, pos, negsuc, ◌+ℤ◌, ◌-ℤ◌, ◌*ℤ◌, neg_ℤ, int_div, int_rem, int_lt, unsigned_abs, nat_lt, inl, inr, refl, sym, ap, ◌∙◌, arith}
use Rattle.std.proofs.Math.Nat.{mod-lt, mod-eq_of_lt, mod_self, le_of_lt, lt_of_lt_of_le, min-eq_left, min-eq_right, pow-le-pow_right, div-eq_of_lt, add-zero, zero-add, add_comm, mul-mod_left, zero-mod, sub-zero, mod-add-mod, add-mod-mod, add-mod_right, div-le_self, mod-le, lt_of_le_of_lt}
use lib.Signed.{shr_z}
use lib.IntN.{sub_ℕ}
use Rattle.std.specs.Int.{int_shr}
use Rattle.std.proofs.lemmas.Bool.{cases_lt}
use Rattle.std.proofs.lemmas.Bool.Decides.{nat_tests}
use Rattle.std.proofs.lemmas.Nat.{pow_pos, pow-add, and_le_l, or_lt, xor_lt}
use Rattle.hy_bits.specs.declared.width.Width as Width
use Rattle.hy_bits.specs.declared.width.Width.TheVariants.{W1, W8, W16, W32, W64}
use Rattle.hy_bits.specs.declared.op.Op.{Op}
use Rattle.hy_bits.specs.declared.op.Op.TheVariants.{In, Const, Add, Sub, Mul, Neg, DivU, DivS, RemU, RemS, And, Or, Xor, Not, Shl, ShrU, ShrS, LtU, LtS, Eq, Sel, Trunc, ZeroExt, SignExt}
use Rattle.hy_bits.specs.Bits.{bit, xor}
use Rattle.hy_bits.specs.Op.{op_value, IsTakenBy}
use Rattle.hy_bits.proofs.BitLaws.{bit-lt}
use Rattle.hy_bits.specs.Words.{bits, modulus, IsWord, is_negative, signed, residue, word_add, word_sub, word_mul, word_neg, word_div_s, word_rem_s, word_not, word_shl, word_shr_u, word_shr_s, is_less_s, word_extend}

-- ---- the two readings

pub residue-lt : (m : ℕ) (z : ℤ) → 0 < m → residue m z < m
residue-lt m (pos n) some = mod-lt n some
residue-lt m (negsuc n) some = omega arith

residue-of : (m a : ℕ) (sign : Bool) → a < m → residue m (if sign then negsuc (m - 1 - a) else pos a) ≡ a
residue-of m a true below = let small : m - 1 - a < m = omega arith in rw (mod-eq_of_lt small) (omega arith)
residue-of m a false below = mod-eq_of_lt below

-- the signed reading is the word, modulo m
pub residue-signed : (m a : ℕ) → a < m → residue m (signed m a) ≡ a
residue-signed m a below = residue-of m a (is_negative m a) below

-- ---- differences

pub word_sub-add : (m a b : ℕ) → a < m → b < m → word_add m (word_sub m a b) b ≡ a
word_sub-add m a b below_a below_b = simp (mod-add-mod) (ap (λ (u : ℕ). u % m) (omega arith) ∙ add-mod_right a m ∙ mod-eq_of_lt below_a)

-- a difference is a sum with the complement, and one more
pub word_sub-not : (m a b : ℕ) → b < m → word_sub m a b ≡ (a + word_not m b + 1) % m
word_sub-not m a b below = ap (λ (u : ℕ). u % m) (omega arith)

pub word_neg-sub : (m a : ℕ) → word_neg m a ≡ word_sub m 0 a
word_neg-sub m a = ap (λ (u : ℕ). u % m) (omega arith)

-- ---- quotients and remainders by the readings' distances from 0

-- that distance
abbrev pub magnitude : ℕ → ℕ → ℕ
magnitude m a = if is_negative m a then m - a else a

magnitude-of : (m a : ℕ) (sign : Bool) → a < m → (if sign then m - a else a) ≡ unsigned_abs (if sign then negsuc (m - 1 - a) else pos a)
magnitude-of m a true below = omega arith
magnitude-of m a false below = refl

pub magnitude-is : (m a : ℕ) → a < m → magnitude m a ≡ unsigned_abs (signed m a)
magnitude-is m a below = magnitude-of m a (is_negative m a) below

-- minus a number where `negative` is set
abbrev pub with_sign : ℕ → Bool → ℕ → ℕ
with_sign m true a = word_neg m a
with_sign m false a = a

suc-complement : (m a : ℕ) → a < m → suc (m - 1 - a) ≡ m - a
suc-complement m a below = omega arith

-- a negative word is above 0
above-zero : (half a : ℕ) → a < 2 * half → is_negative (2 * half) a ≡ true → 0 < a
above-zero half a below negative = grind (arith, nat_tests)

not-zero : (b : ℕ) → 0 < b → eqb b 0 ≡ false
not-zero b some = grind (arith, nat_tests)

-- minus a number that is at most m
residue-neg : (m q : ℕ) → q ≤ m → residue m (neg_ℤ (pos q)) ≡ word_neg m q
residue-neg m zero within = zero-mod m ∙ sym (mod_self m) ∙ ap (λ (u : ℕ). u % m) (sym (sub-zero m))
residue-neg m (suc n) within =
    let small : n < m = omega arith in
    let rest : m - suc n < m = omega arith in
    rw (mod-eq_of_lt small, mod-eq_of_lt rest) (omega arith)

-- the same, where the number is found on the way
negated-of : (m p q : ℕ) → p ≡ q → q ≤ m → residue m (neg_ℤ (pos p)) ≡ word_neg m q
negated-of m p q same within = ap (λ (u : ℕ). residue m (neg_ℤ (pos u))) same ∙ residue-neg m q within

kept-of : (m p q : ℕ) → p ≡ q → q < m → residue m (pos p) ≡ q
kept-of m p q same below = ap (λ (u : ℕ). u % m) same ∙ mod-eq_of_lt below

div-of : (m a b : ℕ) (x y : Bool) → a < m → b < m → (x ≡ true → 0 < a) → residue m (int_div (if x then negsuc (m - 1 - a) else pos a) (if y then negsuc (m - 1 - b) else pos b)) ≡ with_sign m (xor x y) ((if x then m - a else a) / (if y then m - b else b))
div-of m a b true true below_a below_b some =
    let above : 0 < a = some refl in
    kept-of m (suc (m - 1 - a) / suc (m - 1 - b)) ((m - a) / (m - b)) (simp (suc-complement m a below_a, suc-complement m b below_b)) (omega (arith, div-le_self (m - a) (m - b)))
div-of m a b true false below_a below_b some =
    negated-of m (suc (m - 1 - a) / b) ((m - a) / b) (ap (λ (u : ℕ). u / b) (suc-complement m a below_a)) (omega (arith, div-le_self (m - a) b))
div-of m a b false true below_a below_b some =
    negated-of m (a / suc (m - 1 - b)) (a / (m - b)) (ap (λ (u : ℕ). a / u) (suc-complement m b below_b)) (omega (arith, div-le_self a (m - b)))
div-of m a b false false below_a below_b some =
    kept-of m (a / b) (a / b) refl (omega (arith, div-le_self a b))

rem-of : (m a b : ℕ) (x y : Bool) → a < m → b < m → residue m (int_rem (if x then negsuc (m - 1 - a) else pos a) (if y then negsuc (m - 1 - b) else pos b)) ≡ with_sign m x ((if x then m - a else a) % (if y then m - b else b))
rem-of m a b true true below_a below_b =
    negated-of m (suc (m - 1 - a) % suc (m - 1 - b)) ((m - a) % (m - b)) (simp (suc-complement m a below_a, suc-complement m b below_b)) (omega (arith, mod-le (m - a) (m - b)))
rem-of m a b true false below_a below_b =
    negated-of m (suc (m - 1 - a) % b) ((m - a) % b) (ap (λ (u : ℕ). u % b) (suc-complement m a below_a)) (omega (arith, mod-le (m - a) b))
rem-of m a b false true below_a below_b =
    kept-of m (a % suc (m - 1 - b)) (a % (m - b)) (ap (λ (u : ℕ). a % u) (suc-complement m b below_b)) (omega (arith, mod-le a (m - b)))
rem-of m a b false false below_a below_b =
    kept-of m (a % b) (a % b) refl (omega (arith, mod-le a b))

pub word_div_s-magnitudes : (half a b : ℕ) → a < 2 * half → b < 2 * half → 0 < b →
    let m = 2 * half in
    word_div_s m a b ≡ with_sign m (xor (is_negative m a) (is_negative m b)) (magnitude m a / magnitude m b)
word_div_s-magnitudes half a b below_a below_b some =
    rw (not-zero b some) (div-of (2 * half) a b (is_negative (2 * half) a) (is_negative (2 * half) b) below_a below_b (above-zero half a below_a))

pub word_rem_s-magnitudes : (half a b : ℕ) → a < 2 * half → b < 2 * half → 0 < b →
    let m = 2 * half in
    word_rem_s m a b ≡ with_sign m (is_negative m a) (magnitude m a % magnitude m b)
word_rem_s-magnitudes half a b below_a below_b some =
    rw (not-zero b some) (rem-of (2 * half) a b (is_negative (2 * half) a) (is_negative (2 * half) b) below_a below_b)

-- ---- comparison

turned-of : (half a : ℕ) (sign : Bool) → a < 2 * half → is_negative (2 * half) a ≡ sign → (a + half) % (2 * half) ≡ (if sign then a - half else a + half)
turned-of half a true below is =
    let high : half ≤ a = grind (arith, nat_tests) in
    let small : a - half < 2 * half = omega arith in
    ap (λ (u : ℕ). u % (2 * half)) (omega arith) ∙ add-mod_right (a - half) (2 * half) ∙ mod-eq_of_lt small
turned-of half a false below is =
    let small : a + half < 2 * half = grind (arith, nat_tests) in
    mod-eq_of_lt small

less-of : (half a b : ℕ) (x y : Bool) → a < 2 * half → b < 2 * half → is_negative (2 * half) a ≡ x → is_negative (2 * half) b ≡ y →
    int_lt (if x then negsuc (2 * half - 1 - a) else pos a) (if y then negsuc (2 * half - 1 - b) else pos b) ≡ ltb (if x then a - half else a + half) (if y then b - half else b + half)
less-of half a b true true below_a below_b p q = grind (arith, nat_tests)
less-of half a b true false below_a below_b p q = grind (arith, nat_tests)
less-of half a b false true below_a below_b p q = grind (arith, nat_tests)
less-of half a b false false below_a below_b p q = grind (arith, nat_tests)

-- a signed comparison is an unsigned one with both sign bits turned
pub is_less_s-turned : (half a b : ℕ) → a < 2 * half → b < 2 * half →
    is_less_s (2 * half) a b ≡ nat_lt ((a + half) % (2 * half)) ((b + half) % (2 * half))
is_less_s-turned half a b below_a below_b =
    let x : Bool = is_negative (2 * half) a in
    let y : Bool = is_negative (2 * half) b in
    rw (turned-of half a x below_a refl, turned-of half b y below_b refl) (less-of half a b x y below_a below_b refl refl)

-- ---- shifts by any count, with no case for a count above n

power-split : (n count : ℕ) → n ≤ count → 2 ^ count ≡ 2 ^ n * 2 ^ (count - n)
power-split n count more = ap (λ (k : ℕ). 2 ^ k) (omega arith) ∙ pow-add 2 n (count - n)

pub word_shl-plain : (n a count : ℕ) → word_shl n a count ≡ (a * 2 ^ count) % 2 ^ n
word_shl-plain n a count =
    elim (cases_lt count n) [
      | inl less ↦ ap (λ (k : ℕ). (a * 2 ^ k) % 2 ^ n) (min-eq_left (le_of_lt less))
      | inr more ↦
          ap (λ (k : ℕ). (a * 2 ^ k) % 2 ^ n) (min-eq_right more)
          ∙ mul-mod_left a (2 ^ n)
          ∙ sym (ap (λ (u : ℕ). u % 2 ^ n) (ap (λ (u : ℕ). a * u) (power-split n count more) ∙ omega arith) ∙ mul-mod_left (a * 2 ^ (count - n)) (2 ^ n))
    ]

pub word_shr_u-plain : (n a count : ℕ) → a < 2 ^ n → word_shr_u n a count ≡ a / 2 ^ count
word_shr_u-plain n a count below =
    elim (cases_lt count n) [
      | inl less ↦ ap (λ (k : ℕ). a / 2 ^ k) (min-eq_left (le_of_lt less))
      | inr more ↦
          ap (λ (k : ℕ). a / 2 ^ k) (min-eq_right more)
          ∙ div-eq_of_lt below
          ∙ sym (div-eq_of_lt (lt_of_lt_of_le below (pow-le-pow_right {n = 2} (omega arith) more)))
    ]

signed_shift-of : (n a count : ℕ) (sign : Bool) → a < 2 ^ n → shr_z (if sign then negsuc (2 ^ n - 1 - a) else pos a) (2 ^ min count n) ≡ shr_z (if sign then negsuc (2 ^ n - 1 - a) else pos a) (2 ^ count)
signed_shift-of n a count true below = ap negsuc (word_shr_u-plain n (2 ^ n - 1 - a) count (omega arith))
signed_shift-of n a count false below = ap pos (word_shr_u-plain n a count below)

pub word_shr_s-plain : (n a count : ℕ) → a < 2 ^ n → word_shr_s n a count ≡ residue (2 ^ n) (int_shr (signed (2 ^ n) a) count)
word_shr_s-plain n a count below = ap (residue (2 ^ n)) (signed_shift-of n a count (is_negative (2 ^ n) a) below)

-- ---- shifts to the right

shifted-of : (m a power : ℕ) (sign : Bool) → a < m → residue m (shr_z (if sign then negsuc (m - 1 - a) else pos a) power) ≡ (if sign then m - 1 - (m - 1 - a) / power else a / power)
shifted-of m a power true below = let small : (m - 1 - a) / power < m = omega (arith, div-le_self (m - 1 - a) power) in rw (mod-eq_of_lt small) refl
shifted-of m a power false below = let small : a / power < m = omega (arith, div-le_self a power) in mod-eq_of_lt small

-- a negative word is shifted as its complement
pub word_shr_s-not : (n a count : ℕ) → a < 2 ^ n →
    word_shr_s n a count ≡ (if is_negative (2 ^ n) a then word_not (2 ^ n) (word_shr_u n (word_not (2 ^ n) a) count) else word_shr_u n a count)
word_shr_s-not n a count below = shifted-of (2 ^ n) a (2 ^ min count n) (is_negative (2 ^ n) a) below

-- ---- sums, differences and products are those of the signed readings too

-- two numbers whose sum is a multiple of m
opposite-of : (m p q : ℕ) → 0 < m → (p + q) % m ≡ 0 → (m - q % m) % m ≡ p % m
opposite-of m p q some whole =
    let below : q % m < m = mod-lt q some in
    sym
    (sym (add-mod_right p m)
    ∙ ap (λ (u : ℕ). u % m) (omega arith)
    ∙ sym (mod-add-mod (p + q % m) m (m - q % m))
    ∙ ap (λ (u : ℕ). (u + (m - q % m)) % m) (add-mod-mod p q m ∙ whole)
    ∙ ap (λ (u : ℕ). u % m) (zero-add (m - q % m)))

multiple-of : (m k p : ℕ) → p ≡ k * m → p % m ≡ 0
multiple-of m k p is = ap (λ (u : ℕ). u % m) is ∙ mul-mod_left k m

add-mod-mod' : (m n : ℕ) → n % m < m → (m - n % m + n) % m ≡ 0
add-mod-mod' m n below = sym (add-mod-mod (m - n % m) n m) ∙ ap (λ (u : ℕ). u % m) (omega arith) ∙ mod_self m

residue-minus : (m p q : ℕ) → 0 < m → (p + q) % m ≡ 0 → residue m (neg_ℤ (pos q)) ≡ p % m
residue-minus m p zero some whole = zero-mod m ∙ sym (ap (λ (u : ℕ). u % m) (sym (add-zero p)) ∙ whole)
residue-minus m p (suc n) some whole =
    let small : m - 1 - n % m < m = omega arith in
    let below : n % m < m = mod-lt n some in
    let opposite : (m - 1 - n % m + suc n) % m ≡ 0 = ap (λ (u : ℕ). u % m) (omega arith) ∙ add-mod-mod' m n below in
    sym (mod-eq_of_lt small) ∙ sym (opposite-of m (m - 1 - n % m) (suc n) some opposite) ∙ opposite-of m p (suc n) some whole

residue-sub_by : (m p q : ℕ) (less : Bool) → ltb p q ≡ less → q ≤ m → residue m (if less then negsuc (q - suc p) else pos (p - q)) ≡ (p + (m - q)) % m
residue-sub_by m p q true is within =
    let less : p < q = grind (arith, nat_tests) in
    let small : q - suc p < m = omega arith in
    let rest : p + (m - q) < m = omega arith in
    rw (mod-eq_of_lt small, mod-eq_of_lt rest) (omega arith)
residue-sub_by m p q false is within =
    let more : q ≤ p = grind (arith, nat_tests) in
    sym (add-mod_right (p - q) m) ∙ ap (λ (u : ℕ). u % m) (omega arith)

residue-sub : (m p q : ℕ) → q ≤ m → residue m (sub_ℕ p q) ≡ (p + (m - q)) % m
residue-sub m p q within = residue-sub_by m p q (ltb p q) refl within

word_add-of : (m a b : ℕ) (x y : Bool) → a < m → b < m → residue m ((if x then negsuc (m - 1 - a) else pos a) +ℤ (if y then negsuc (m - 1 - b) else pos b)) ≡ word_add m a b
word_add-of m a b true true below_a below_b =
    residue-minus m (a + b) (suc (suc (m - 1 - a + (m - 1 - b)))) (omega arith) (multiple-of m 2 (a + b + suc (suc (m - 1 - a + (m - 1 - b)))) (omega arith))
word_add-of m a b true false below_a below_b =
    residue-sub m b (suc (m - 1 - a)) (omega arith) ∙ ap (λ (u : ℕ). u % m) (omega arith)
word_add-of m a b false true below_a below_b =
    residue-sub m a (suc (m - 1 - b)) (omega arith) ∙ ap (λ (u : ℕ). u % m) (omega arith)
word_add-of m a b false false below_a below_b = refl

pub word_add-signed : (m a b : ℕ) → a < m → b < m → residue m (signed m a +ℤ signed m b) ≡ word_add m a b
word_add-signed m a b below_a below_b = word_add-of m a b (is_negative m a) (is_negative m b) below_a below_b

word_sub-of : (m a b : ℕ) (x y : Bool) → a < m → b < m → residue m ((if x then negsuc (m - 1 - a) else pos a) -ℤ (if y then negsuc (m - 1 - b) else pos b)) ≡ word_sub m a b
word_sub-of m a b true true below_a below_b =
    residue-sub m (suc (m - 1 - b)) (suc (m - 1 - a)) (omega arith) ∙ ap (λ (u : ℕ). u % m) (omega arith)
word_sub-of m a zero true false below_a below_b =
    residue-sub m 0 (suc (m - 1 - a)) (omega arith) ∙ ap (λ (u : ℕ). u % m) (omega arith) ∙ sym (add-mod_right a m) ∙ ap (λ (u : ℕ). (a + u) % m) (sym (sub-zero m))
word_sub-of m a (suc b) true false below_a below_b =
    residue-minus m (a + (m - suc b)) (suc (suc (m - 1 - a + b))) (omega arith) (multiple-of m 2 (a + (m - suc b) + suc (suc (m - 1 - a + b))) (omega arith))
word_sub-of m a b false true below_a below_b = ap (λ (u : ℕ). u % m) (omega arith)
word_sub-of m a zero false false below_a below_b =
    ap (λ (u : ℕ). u % m) (add-zero a) ∙ sym (add-mod_right a m) ∙ ap (λ (u : ℕ). (a + u) % m) (sym (sub-zero m))
word_sub-of m a (suc b) false false below_a below_b = residue-sub m a (suc b) (omega arith)

pub word_sub-signed : (m a b : ℕ) → a < m → b < m → residue m (signed m a -ℤ signed m b) ≡ word_sub m a b
word_sub-signed m a b below_a below_b = word_sub-of m a b (is_negative m a) (is_negative m b) below_a below_b

word_neg-of : (m a : ℕ) (x : Bool) → a < m → residue m (neg_ℤ (if x then negsuc (m - 1 - a) else pos a)) ≡ word_neg m a
word_neg-of m a true below = ap (λ (u : ℕ). u % m) (suc-complement m a below)
word_neg-of m a false below = residue-neg m a (omega arith)

pub word_neg-signed : (m a : ℕ) → a < m → residue m (neg_ℤ (signed m a)) ≡ word_neg m a
word_neg-signed m a below = word_neg-of m a (is_negative m a) below

product-parts : (a r b m : ℕ) → a + r ≡ m → a * b + r * b ≡ b * m
product-parts a r b m whole = omega arith ∙ ap (λ (u : ℕ). b * u) whole

product-parts' : (b r a m : ℕ) → b + r ≡ m → a * b + a * r ≡ a * m
product-parts' b r a m whole = omega arith ∙ ap (λ (u : ℕ). a * u) whole

word_mul-of : (m a b : ℕ) (x y : Bool) → a < m → b < m → residue m ((if x then negsuc (m - 1 - a) else pos a) *ℤ (if y then negsuc (m - 1 - b) else pos b)) ≡ word_mul m a b
word_mul-of m a b true true below_a below_b =
    let p : ℕ = suc (m - 1 - a) in
    let q : ℕ = suc (m - 1 - b) in
    let first : (p * q + a * q) % m ≡ 0 = multiple-of m q (p * q + a * q) (add_comm (p * q) (a * q) ∙ product-parts a p q m (omega arith)) in
    let second : (a * b + a * q) % m ≡ 0 = multiple-of m a (a * b + a * q) (product-parts' b q a m (omega arith)) in
    sym (opposite-of m (p * q) (a * q) (omega arith) first) ∙ opposite-of m (a * b) (a * q) (omega arith) second
word_mul-of m a b true false below_a below_b =
    residue-minus m (a * b) (suc (m - 1 - a) * b) (omega arith) (multiple-of m b (a * b + suc (m - 1 - a) * b) (product-parts a (suc (m - 1 - a)) b m (omega arith)))
word_mul-of m a b false true below_a below_b =
    residue-minus m (a * b) (a * suc (m - 1 - b)) (omega arith) (multiple-of m a (a * b + a * suc (m - 1 - b)) (product-parts' b (suc (m - 1 - b)) a m (omega arith)))
word_mul-of m a b false false below_a below_b = refl

pub word_mul-signed : (m a b : ℕ) → a < m → b < m → residue m (signed m a *ℤ signed m b) ≡ word_mul m a b
word_mul-signed m a b below_a below_b = word_mul-of m a b (is_negative m a) (is_negative m b) below_a below_b

-- ---- widths

pub modulus_pos : (w : Width.Width) → 0 < modulus w
modulus_pos w = pow_pos (bits w)

-- each width has a sign bit
pub modulus_even : (w : Width.Width) → modulus w ≡ 2 * 2 ^ (bits w - 1)
modulus_even W1 = refl
modulus_even W8 = refl
modulus_even W16 = refl
modulus_even W32 = refl
modulus_even W64 = refl

-- ---- extension

pub word_extend-unsigned : (m k a : ℕ) → a < m → m ≤ k → word_extend m k false a ≡ a
word_extend-unsigned m k a below wider = mod-eq_of_lt (omega arith)

extended-of : (m k a : ℕ) (sign : Bool) → a < m → m ≤ k → residue k (if sign then negsuc (m - 1 - a) else pos a) ≡ (if sign then a + (k - m) else a)
extended-of m k a true below wider = let small : m - 1 - a < k = omega arith in rw (mod-eq_of_lt small) (omega arith)
extended-of m k a false below wider = let small : a < k = omega arith in mod-eq_of_lt small

pub word_extend-signed : (m k a : ℕ) → a < m → m ≤ k → word_extend m k true a ≡ (if is_negative m a then a + (k - m) else a)
word_extend-signed m k a below wider = extended-of m k a (is_negative m a) below wider

-- ---- each operation gives a word

-- each width has room for 0 and 1
pub modulus_two : (w : Width.Width) → 2 ≤ modulus w
modulus_two W1 = omega arith
modulus_two W8 = omega arith
modulus_two W16 = omega arith
modulus_two W32 = omega arith
modulus_two W64 = omega arith

bit_word : (w : Width.Width) (b : Bool) → IsWord w (bit b)
bit_word w b = omega (arith, bit-lt b, modulus_two w)

-- one of two words is a word
chosen-lt : (m a b : ℕ) (test : Bool) → a < m → b < m → (if test then a else b) < m
chosen-lt m a b true below_a below_b = below_a
chosen-lt m a b false below_a below_b = below_b

pub op_value-word : (op : Op) (w from : Width.Width) (a b c : ℕ) → IsTakenBy op w from a b c → IsWord w (op_value op w from a b c)
op_value-word In w from a b c taken = taken
op_value-word Const w from a b c taken = taken
op_value-word Add w from a b c taken = mod-lt (a + b) (modulus_pos w)
op_value-word Sub w from a b c taken = mod-lt (a + (modulus w - b)) (modulus_pos w)
op_value-word Mul w from a b c taken = mod-lt (a * b) (modulus_pos w)
op_value-word Neg w from a b c taken = mod-lt (modulus w - a) (modulus_pos w)
op_value-word DivU w from a b c taken = chosen-lt (modulus w) (modulus w - 1) (a / b) (eqb b 0) (omega (arith, modulus_two w)) (lt_of_le_of_lt (div-le_self a b) taken.0)
op_value-word DivS w from a b c taken =
    chosen-lt (modulus w) (if is_negative (modulus w) a then 1 else modulus w - 1) (residue (modulus w) (int_div (signed (modulus w) a) (signed (modulus w) b))) (eqb b 0)
    (chosen-lt (modulus w) 1 (modulus w - 1) (is_negative (modulus w) a) (omega (arith, modulus_two w)) (omega (arith, modulus_two w)))
    (residue-lt (modulus w) (int_div (signed (modulus w) a) (signed (modulus w) b)) (modulus_pos w))
op_value-word RemU w from a b c taken = chosen-lt (modulus w) a (a % b) (eqb b 0) taken.0 (lt_of_le_of_lt (mod-le a b) taken.0)
op_value-word RemS w from a b c taken = chosen-lt (modulus w) a (residue (modulus w) (int_rem (signed (modulus w) a) (signed (modulus w) b))) (eqb b 0) taken.0 (residue-lt (modulus w) (int_rem (signed (modulus w) a) (signed (modulus w) b)) (modulus_pos w))
op_value-word And w from a b c taken = lt_of_le_of_lt (and_le_l a b) taken.0
op_value-word Or w from a b c taken = or_lt (bits w) a b taken.0 taken.1
op_value-word Xor w from a b c taken = xor_lt (bits w) a b taken.0 taken.1
op_value-word Not w from a b c taken = omega (arith, modulus_two w)
op_value-word Shl w from a b c taken = mod-lt (a * 2 ^ min b (bits w)) (modulus_pos w)
op_value-word ShrU w from a b c taken = lt_of_le_of_lt (div-le_self a (2 ^ min b (bits w))) taken
op_value-word ShrS w from a b c taken = residue-lt (modulus w) (int_shr (signed (modulus w) a) (min b (bits w))) (modulus_pos w)
op_value-word LtU w from a b c taken = bit_word w (nat_lt a b)
op_value-word LtS w from a b c taken = bit_word w (is_less_s (modulus from) a b)
op_value-word Eq w from a b c taken = bit_word w (eqb a b)
op_value-word Sel w from a b c taken = chosen-lt (modulus w) b c (eqb a 1) taken.1 taken.2
op_value-word Trunc w from a b c taken = mod-lt a (modulus_pos w)
op_value-word ZeroExt w from a b c taken = mod-lt a (modulus_pos w)
op_value-word SignExt w from a b c taken = residue-lt (modulus w) (signed (modulus from) a) (modulus_pos w)
