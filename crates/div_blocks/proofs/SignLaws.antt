-- Signs of words.
use Rattle.std.proofs.Common.{◌≡◌, ℕ, zero, suc, ◌+◌, ◌-◌, ◌*◌, ◌/◌, ◌%◌, ◌^◌, ◌<◌, ◌≤◌, Bool, true, false, not, ◌&&◌, nat_lt, if◌then◌else◌, List, [], ◌∷◌, ◌++◌, length, get_or, take, map, refl, sym, ap, ◌∙◌, subst, arith, add-one}
use Rattle.std.proofs.Math.Nat.{mod-eq_of_lt, add-mul-mod_self_left, le-mul_of_pos_right}
use Rattle.std.proofs.lemmas.List.{take_all, take_more, length-take-le, length-map}
use Rattle.std.proofs.lemmas.Bool.Decides.{nat_tests}
use Rattle.hy_bits.specs.Sizes.{divider_size}
use Rattle.hy_bits.specs.Bits.{bit, number, xor}
use Rattle.hy_bits.specs.Words.{is_negative, word_div_u, word_div_s, word_rem_u, word_rem_s}
use Rattle.hy_bits.proofs.BitLaws.{number-lt, number-lt_of, number-not, pow_two-suc, is_negative-push}
use Rattle.hy_bits.proofs.WordLaws.{with_sign, magnitude, word_div_s-magnitudes, word_rem_s-magnitudes}
use Rattle.gate_net.specs.declared.literal.Lit.{Lit}
use Rattle.gate_net.specs.Circuit.{Circuit}
use Rattle.gate_net.specs.Meaning.{value}
use Rattle.gate_net.proofs.MeaningLaws.{value-true}
use Rattle.gate_net.specs.Spelled.{values, spelled}
use Rattle.div_blocks.proofs.RowLaws.{div-some, rem-some}
use Rattle.div_blocks.specs.Division.{signed_by, quotient_of, remainder_of}

-- the bits of a word whose bits are turned where s is 1, and a carry into its lowest place
abbrev pub turned_bits : Bool → Bool → List Bool → List Bool
turned_bits s c [] = []
turned_bits s c (x ∷ xs) = xor (xor x s) c ∷ turned_bits s (xor x s && c) xs

-- the carry out of its highest place
abbrev pub turned_carry : Bool → Bool → List Bool → Bool
turned_carry s c [] = c
turned_carry s c (x ∷ xs) = turned_carry s (xor x s && c) xs

turned_bits-suc : (s c : Bool) (xs : List Bool) (i : ℕ) → i < length xs → turned_bits s c (take (suc i) xs) ≡ turned_bits s c (take i xs) ++ xor (xor (get_or xs i false) s) (turned_carry s c (take i xs)) ∷ []
turned_bits-suc s c [] i h = absurd (omega arith)
turned_bits-suc s c (x ∷ xs) zero h = refl
turned_bits-suc s c (x ∷ xs) (suc i) h = ap (λ (ys : List Bool). xor (xor x s) c ∷ ys) (turned_bits-suc s (xor x s && c) xs i (omega arith))

pub turned_bits-more : (s c : Bool) (xs : List Bool) (i : ℕ) → i < length xs → turned_bits s c (take (i + 1) xs) ≡ turned_bits s c (take i xs) ++ xor (xor (get_or xs i false) s) (turned_carry s c (take i xs)) ∷ []
turned_bits-more s c xs i h = ap (λ (n : ℕ). turned_bits s c (take n xs)) (add-one i) ∙ turned_bits-suc s c xs i h

turned_carry-suc : (s c : Bool) (xs : List Bool) (i : ℕ) → i < length xs → turned_carry s c (take (suc i) xs) ≡ (xor (get_or xs i false) s && turned_carry s c (take i xs))
turned_carry-suc s c [] i h = absurd (omega arith)
turned_carry-suc s c (x ∷ xs) zero h = refl
turned_carry-suc s c (x ∷ xs) (suc i) h = turned_carry-suc s (xor x s && c) xs i (omega arith)

pub turned_carry-more : (s c : Bool) (xs : List Bool) (i : ℕ) → i < length xs → turned_carry s c (take (i + 1) xs) ≡ (xor (get_or xs i false) s && turned_carry s c (take i xs))
turned_carry-more s c xs i h = ap (λ (n : ℕ). turned_carry s c (take n xs)) (add-one i) ∙ turned_carry-suc s c xs i h

pub length-turned : (s c : Bool) (xs : List Bool) → length (turned_bits s c xs) ≡ length xs
length-turned s c [] = refl
length-turned s c (x ∷ xs) = ap suc (length-turned s (xor x s && c) xs)

-- a half adder
half_adder : (x c : Bool) → bit (xor (xor x true) c) + 2 * bit (xor x true && c) ≡ bit (not x) + bit c
half_adder true true = refl
half_adder true false = refl
half_adder false true = refl
half_adder false false = refl

-- the complement and the carry
number-turned : (c : Bool) (xs : List Bool) → number (turned_bits true c xs) + 2 ^ length xs * bit (turned_carry true c xs) ≡ number (map not xs) + bit c
number-turned c [] = omega arith
number-turned c (x ∷ xs) = rw pow_two-suc (omega (arith, half_adder x c, number-turned (xor x true && c) xs))

kept : (xs : List Bool) → turned_bits false false xs ≡ xs
kept [] = refl
kept (true ∷ xs) = ap (λ (ys : List Bool). true ∷ ys) (kept xs)
kept (false ∷ xs) = ap (λ (ys : List Bool). false ∷ ys) (kept xs)

-- where the sign is set, minus the word
pub number-signed : (s : Bool) (xs : List Bool) → number (turned_bits s s xs) ≡ signed_by (2 ^ length xs) s (number xs)
number-signed false xs = ap number (kept xs)
number-signed true xs =
    let m : ℕ = 2 ^ length xs in
    let small : number (turned_bits true true xs) < 2 ^ length xs = subst (λ (k : ℕ). number (turned_bits true true xs) < 2 ^ k) (length-turned true true xs) (number-lt (turned_bits true true xs)) in
    let whole : 2 ^ length xs - number xs ≡ number (turned_bits true true xs) + 2 ^ length xs * bit (turned_carry true true xs) = omega (arith, number-turned true xs, number-not xs) in
    sym (ap (λ (u : ℕ). u % 2 ^ length xs) whole ∙ add-mul-mod_self_left (number (turned_bits true true xs)) (2 ^ length xs) (bit (turned_carry true true xs)) ∙ mod-eq_of_lt small)

-- ---- quotients and remainders by the numbers without signs

same_sign : (m : ℕ) (s : Bool) (x : ℕ) → with_sign m s x ≡ signed_by m s x
same_sign m true x = refl
same_sign m false x = refl

above-zero : (half a : ℕ) → 0 < half → is_negative (2 * half) a ≡ true → 0 < a
above-zero half a some negative = grind (arith, nat_tests)

-- a negative number is above 0, so that minus it is below m
magnitude-of : (m a : ℕ) (s : Bool) → a < m → (s ≡ true → 0 < a) → signed_by m s a ≡ (if s then m - a else a)
magnitude-of m a true below some =
    let above : 0 < a = some refl in
    let small : m - a < m = omega arith in
    mod-eq_of_lt small
magnitude-of m a false below some = refl

magnitude-signed : (half a : ℕ) → a < 2 * half → signed_by (2 * half) (is_negative (2 * half) a) a ≡ magnitude (2 * half) a
magnitude-signed half a below = magnitude-of (2 * half) a (is_negative (2 * half) a) below (above-zero half a (omega arith))

zero-plain : (half : ℕ) → 0 < half → is_negative (2 * half) 0 ≡ false
zero-plain half some = grind (arith, nat_tests)

plain-xor : (s : Bool) → xor s false ≡ s
plain-xor true = refl
plain-xor false = refl

minus-ones : (m : ℕ) (s : Bool) → 2 ≤ m → signed_by m s (m - 1) ≡ (if s then 1 else m - 1)
minus-ones m true two =
    let one : m - (m - 1) ≡ 1 = omega arith in
    ap (λ (u : ℕ). u % m) one ∙ mod-eq_of_lt (omega arith)
minus-ones m false two = refl

some-magnitude : (m b : ℕ) (s : Bool) → b < m → 0 < b → 0 < (if s then m - b else b)
some-magnitude m b true below some = omega arith
some-magnitude m b false below some = some

-- the quotient of the numbers without signs, with the sign put to it
pub quotient-signed : (half a b : ℕ) → a < 2 * half → b < 2 * half →
    signed_by (2 * half) (xor (is_negative (2 * half) a) (is_negative (2 * half) b)) (word_div_u (2 * half) (signed_by (2 * half) (is_negative (2 * half) a) a) (signed_by (2 * half) (is_negative (2 * half) b) b)) ≡ word_div_s (2 * half) a b
quotient-signed half a zero below_a below_b =
    let m : ℕ = 2 * half in
    let s : Bool = is_negative (2 * half) a in
    ap (λ (t : Bool). signed_by m (xor s t) (word_div_u m (signed_by m s a) (signed_by m t 0))) (zero-plain half (omega arith))
    ∙ ap (λ (t : Bool). signed_by m t (m - 1)) (plain-xor s)
    ∙ minus-ones m s (omega arith)
quotient-signed half a (suc b) below_a below_b =
    let m : ℕ = 2 * half in
    let s : Bool = xor (is_negative (2 * half) a) (is_negative (2 * half) (suc b)) in
    ap (λ (p : ℕ). signed_by m s (word_div_u m p (signed_by m (is_negative m (suc b)) (suc b)))) (magnitude-signed half a below_a)
    ∙ ap (λ (q : ℕ). signed_by m s (word_div_u m (magnitude m a) q)) (magnitude-signed half (suc b) below_b)
    ∙ ap (signed_by m s) (div-some m (magnitude m a) (magnitude m (suc b)) (some-magnitude m (suc b) (is_negative m (suc b)) below_b (omega arith)))
    ∙ sym (same_sign m s (magnitude m a / magnitude m (suc b)))
    ∙ sym (word_div_s-magnitudes half a (suc b) below_a below_b (omega arith))

minus-twice : (m a : ℕ) (s : Bool) → a < m → (s ≡ true → 0 < a) → signed_by m s (signed_by m s a) ≡ a
minus-twice m a true below some =
    let above : 0 < a = some refl in
    let small : m - a < m = omega arith in
    let back : m - (m - a) ≡ a = omega arith in
    ap (λ (u : ℕ). (m - u) % m) (mod-eq_of_lt small) ∙ ap (λ (u : ℕ). u % m) back ∙ mod-eq_of_lt below
minus-twice m a false below some = refl

-- the remainder, with the sign of the dividend
pub remainder-signed : (half a b : ℕ) → a < 2 * half → b < 2 * half →
    signed_by (2 * half) (is_negative (2 * half) a) (word_rem_u (signed_by (2 * half) (is_negative (2 * half) a) a) (signed_by (2 * half) (is_negative (2 * half) b) b)) ≡ word_rem_s (2 * half) a b
remainder-signed half a zero below_a below_b =
    let m : ℕ = 2 * half in
    let s : Bool = is_negative (2 * half) a in
    ap (λ (t : Bool). signed_by m s (word_rem_u (signed_by m s a) (signed_by m t 0))) (zero-plain half (omega arith))
    ∙ minus-twice m a s below_a (above-zero half a (omega arith))
remainder-signed half a (suc b) below_a below_b =
    let m : ℕ = 2 * half in
    let s : Bool = is_negative (2 * half) a in
    ap (λ (p : ℕ). signed_by m s (word_rem_u p (signed_by m (is_negative m (suc b)) (suc b)))) (magnitude-signed half a below_a)
    ∙ ap (λ (q : ℕ). signed_by m s (word_rem_u (magnitude m a) q)) (magnitude-signed half (suc b) below_b)
    ∙ ap (signed_by m s) (rem-some (magnitude m a) (magnitude m (suc b)) (some-magnitude m (suc b) (is_negative m (suc b)) below_b (omega arith)))
    ∙ sym (same_sign m s (magnitude m a % magnitude m (suc b)))
    ∙ sym (word_rem_s-magnitudes half a (suc b) below_a below_b (omega arith))

-- at one bit both readings have one quotient and one remainder
pub one-quotient : (signed : Bool) (a b : ℕ) → a < 2 → b < 2 → word_div_u (2 ^ 1) a b ≡ quotient_of signed 1 a b
one-quotient false a b p q = refl
one-quotient true zero zero p q = refl
one-quotient true zero (suc zero) p q = refl
one-quotient true (suc zero) zero p q = refl
one-quotient true (suc zero) (suc zero) p q = refl
one-quotient true (suc (suc a)) b p q = absurd (omega arith)
one-quotient true zero (suc (suc b)) p q = absurd (omega arith)
one-quotient true (suc zero) (suc (suc b)) p q = absurd (omega arith)

pub one-remainder : (signed : Bool) (a b : ℕ) → a < 2 → b < 2 → word_rem_u a b ≡ remainder_of signed 1 a b
one-remainder false a b p q = refl
one-remainder true zero zero p q = refl
one-remainder true zero (suc zero) p q = refl
one-remainder true (suc zero) zero p q = refl
one-remainder true (suc zero) (suc zero) p q = refl
one-remainder true (suc (suc a)) b p q = absurd (omega arith)
one-remainder true zero (suc (suc b)) p q = absurd (omega arith)
one-remainder true (suc zero) (suc (suc b)) p q = absurd (omega arith)

-- the highest bit is the sign
pub top-sign : (bs : List Bool) → 0 < length bs → is_negative (2 ^ length bs) (number bs) ≡ get_or bs (length bs - 1) false
top-sign bs some =
    let whole : bs ≡ take (length bs - 1) bs ++ get_or bs (length bs - 1) false ∷ [] = sym (take_all (length bs - 1 + 1) bs (omega arith)) ∙ take_more bs (length bs - 1) false (omega arith) in
    let long : suc (length (take (length bs - 1) bs)) ≡ length bs = omega (arith, length-take-le (length bs - 1) bs (omega arith)) in
    ap (λ (k : ℕ). is_negative (2 ^ k) (number bs)) (sym long)
    ∙ ap (λ (ys : List Bool). is_negative (2 ^ suc (length (take (length bs - 1) bs))) (number ys)) whole
    ∙ is_negative-push (take (length bs - 1) bs) (get_or bs (length bs - 1) false)

-- the same of two lists of bits, by their highest bits
module _ (xs ys : List Bool) (some : 0 < length xs) (same : length ys ≡ length xs) where
  half-power : 2 * 2 ^ (length xs - 1) ≡ 2 ^ length xs
  half-power =
      let next : length xs ≡ suc (length xs - 1) = omega arith in
      sym (ap (λ (k : ℕ). 2 ^ k) next ∙ pow_two-suc (length xs - 1))

  sign-x : is_negative (2 ^ length xs) (number xs) ≡ get_or xs (length xs - 1) false
  sign-x = top-sign xs some

  sign-y : is_negative (2 ^ length xs) (number ys) ≡ get_or ys (length xs - 1) false
  sign-y =
      ap (λ (k : ℕ). is_negative (2 ^ k) (number ys)) (sym same)
      ∙ top-sign ys (omega arith)
      ∙ ap (λ (k : ℕ). get_or ys (k - 1) false) same

  below-y : number ys < 2 ^ length xs
  below-y = number-lt_of (length xs) ys (sym same)

  pub quotient-lists : signed_by (2 ^ length xs) (xor (get_or xs (length xs - 1) false) (get_or ys (length xs - 1) false)) (word_div_u (2 ^ length xs) (signed_by (2 ^ length xs) (get_or xs (length xs - 1) false) (number xs)) (signed_by (2 ^ length xs) (get_or ys (length xs - 1) false) (number ys))) ≡ word_div_s (2 ^ length xs) (number xs) (number ys)
  quotient-lists =
      let m : ℕ = 2 ^ length xs in
      let t : Bool = get_or ys (length xs - 1) false in
      let small_x : number xs < 2 * 2 ^ (length xs - 1) = omega (arith, number-lt xs, half-power) in
      let small_y : number ys < 2 * 2 ^ (length xs - 1) = omega (arith, below-y, half-power) in
      ap (λ (s : Bool). signed_by m (xor s t) (word_div_u m (signed_by m s (number xs)) (signed_by m t (number ys)))) (sym sign-x)
      ∙ ap (λ (s : Bool). signed_by m (xor (is_negative m (number xs)) s) (word_div_u m (signed_by m (is_negative m (number xs)) (number xs)) (signed_by m s (number ys)))) (sym sign-y)
      ∙ subst (λ (m : ℕ). signed_by m (xor (is_negative m (number xs)) (is_negative m (number ys))) (word_div_u m (signed_by m (is_negative m (number xs)) (number xs)) (signed_by m (is_negative m (number ys)) (number ys))) ≡ word_div_s m (number xs) (number ys)) half-power
      (quotient-signed (2 ^ (length xs - 1)) (number xs) (number ys) small_x small_y)

  pub remainder-lists : signed_by (2 ^ length xs) (get_or xs (length xs - 1) false) (word_rem_u (signed_by (2 ^ length xs) (get_or xs (length xs - 1) false) (number xs)) (signed_by (2 ^ length xs) (get_or ys (length xs - 1) false) (number ys))) ≡ word_rem_s (2 ^ length xs) (number xs) (number ys)
  remainder-lists =
      let m : ℕ = 2 ^ length xs in
      let t : Bool = get_or ys (length xs - 1) false in
      let small_x : number xs < 2 * 2 ^ (length xs - 1) = omega (arith, number-lt xs, half-power) in
      let small_y : number ys < 2 * 2 ^ (length xs - 1) = omega (arith, below-y, half-power) in
      ap (λ (s : Bool). signed_by m s (word_rem_u (signed_by m s (number xs)) (signed_by m t (number ys)))) (sym sign-x)
      ∙ ap (λ (s : Bool). signed_by m (is_negative m (number xs)) (word_rem_u (signed_by m (is_negative m (number xs)) (number xs)) (signed_by m s (number ys)))) (sym sign-y)
      ∙ subst (λ (m : ℕ). signed_by m (is_negative m (number xs)) (word_rem_u (signed_by m (is_negative m (number xs)) (number xs)) (signed_by m (is_negative m (number ys)) (number ys))) ≡ word_rem_s m (number xs) (number ys)) half-power
      (remainder-signed (2 ^ (length xs - 1)) (number xs) (number ys) small_x small_y)

below-true : (x m : ℕ) → x < m → nat_lt x m ≡ true
below-true x m h = grind (arith, nat_tests)

-- a word has no digit past its end
pub all-below : (n : Circuit) (bits : List Bool) (b : List Lit) (k : ℕ) → length b ≡ k → value n bits (record { code = 1 }) ≡ nat_lt (spelled n bits b) (2 ^ k)
all-below n bits b k long =
    value-true n bits (record { code = 1 }) refl
    ∙ sym (below-true (spelled n bits b) (2 ^ k) (number-lt_of k (values n bits b) (sym (length-map b (value n bits) ∙ long))))

-- the gates of the signs, the rows and the signs again
pub signs-room : (n : ℕ) → 0 < n → (3 * n + 3 * n + (3 * (n * n) + 5 * n - 1) + 1 + 3 * n + 3 * n ≤ 3 * (n * n) + 17 * n) × (n - 1 + (n - 1) + (n * n + 3 * n - 1) + 0 + (n - 1) + (n - 1) ≤ n * n + 7 * n)
signs-room n some = (omega arith, omega arith)

log-of : (k : ℕ) → 2 ≤ 2 ^ k → 1 ≤ k
log-of zero h = absurd (omega arith)
log-of (suc k) h = omega arith

log-of-more : (k : ℕ) → 3 ≤ 2 ^ k → 2 ≤ k
log-of-more zero h = absurd (omega arith)
log-of-more (suc zero) h = absurd (omega arith)
log-of-more (suc (suc k)) h = omega arith

-- they are within eight for each two places and each level of a tree and one more, from two places on
room-two : (k : ℕ) → 1 ≤ k → 3 * (2 * 2) + 17 * 2 ≤ 8 * (2 * 2 * (1 + k))
room-two k h = omega arith

room-three : (k : ℕ) → 2 ≤ k → 3 * (3 * 3) + 17 * 3 ≤ 8 * (3 * 3 * (1 + k))
room-three k h = omega arith

room-more : (j k : ℕ) → 3 * ((j + 4) * (j + 4)) + 17 * (j + 4) ≤ 8 * ((j + 4) * (j + 4) * (1 + k))
room-more j k =
    let square : (j + 4) * (j + 4) ≤ (j + 4) * (j + 4) * (1 + k) = le-mul_of_pos_right ((j + 4) * (j + 4)) (omega arith) in
    omega (arith, square)

room : (n k : ℕ) → 2 ≤ n → n ≤ 2 ^ k → 3 * (n * n) + 17 * n ≤ 8 * (n * n * (1 + k))
room zero k two small = absurd (omega arith)
room (suc zero) k two small = absurd (omega arith)
room (suc (suc zero)) k two small = room-two k (log-of k small)
room (suc (suc (suc zero))) k two small = room-three k (log-of-more k small)
room (suc (suc (suc (suc j)))) k two small = subst (λ (n : ℕ). 3 * (n * n) + 17 * n ≤ 8 * (n * n * (1 + k))) (omega arith) (room-more j k)

pub signed-gates : (n k : ℕ) → 2 ≤ n → n ≤ 2 ^ k → 3 * (n * n) + 17 * n ≤ divider_size n k
signed-gates n k two small = omega (arith, room n k two small)

-- and the Ands are within the stated number
pub signed-ands : (n : ℕ) → n * n + 7 * n ≤ 2 * (n * n) + 8 * n
signed-ands n = omega arith
