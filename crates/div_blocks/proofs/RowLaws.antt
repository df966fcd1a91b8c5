-- One row of a division in writing.
use Rattle.std.proofs.Common.{◌≡◌, ℕ, zero, suc, ◌+◌, ◌-◌, ◌*◌, ◌/◌, ◌%◌, ◌^◌, ◌<◌, ◌≤◌, Bool, true, false, not, ◌&&◌, nat_lt, nat_le, eqb, List, [], ◌∷◌, ◌++◌, length, get_or, take, drop, map, refl, sym, ap, ◌∙◌, subst, inl, inr, arith, add-one}
use Rattle.std.proofs.Math.Nat.{mod-eq_of_lt, mod-lt, add-mod_right, zero-div, zero-mod}
use Rattle.std.proofs.lemmas.Nat.{pow_pos, div-add-mod', div-mul-add, mod-mul-add}
use Rattle.std.proofs.lemmas.List.{take_more, drop_more, take-append-drop, length-take-le, length-map, drop_all}
use Rattle.std.proofs.lemmas.Bool.{cases_lt}
use Rattle.std.proofs.lemmas.Bool.Decides.{nat_tests}
use Rattle.hy_bits.specs.Bits.{bit, number, xor, bitwise, sum_bit, sum_bits, carry_out}
use Rattle.hy_bits.specs.Words.{word_div_u, word_rem_u}
use Rattle.hy_bits.proofs.BitLaws.{bit-lt, length-sum_bits, length-bitwise, number-append, number-difference, number-lt, number-lt_of, pow_two-suc}
use Rattle.gate_net.specs.declared.literal.Lit.{Lit}
use Rattle.gate_net.specs.Circuit.{Circuit}
use Rattle.gate_net.specs.Meaning.{value}
use Rattle.gate_net.specs.Spelled.{spelled}
use Rattle.adder_blocks.proofs.TreeLaws.{spelled-take}
use Rattle.adder_blocks.proofs.BitSteps.{sum_bits-more}
use Rattle.div_blocks.specs.Division.{left_of, changed_bits}

-- ---- tests

at_most : (b t : ℕ) → b ≤ t → nat_le b t ≡ true
at_most b t h = grind (arith, nat_tests)

above : (b t : ℕ) → t < b → nat_le b t ≡ false
above b t h = grind (arith, nat_tests)

fits-small : (b t p : ℕ) → b < p → t < p → (nat_le b t && nat_lt b p) ≡ nat_le b t
fits-small b t p h k = grind (arith, nat_tests)

fits-large : (b low t p : ℕ) → p ≤ b → t < p → (nat_le low t && nat_lt b p) ≡ nat_le b t
fits-large b low t p h k = grind (arith, nat_tests)

-- a number below p is at least b where it is at least what b has below p, and b is below p
pub fits-low : (b low t p : ℕ) → low ≡ b % p → t < p → (nat_le low t && nat_lt b p) ≡ nat_le b t
fits-low b low t p is below = elim (cases_lt b p) [
  | inl small ↦ ap (λ (k : ℕ). nat_le k t && nat_lt b p) (is ∙ mod-eq_of_lt small) ∙ fits-small b t p small below
  | inr large ↦ fits-large b low t p large below
]

left-zero : (fits : Bool) (t b low p : ℕ) → low ≡ b % p → (fits ≡ true → b < p) → left_of fits t low ≡ left_of fits t b
left-zero true t b low p is small = ap (λ (k : ℕ). t - k) (is ∙ mod-eq_of_lt (small refl))
left-zero false t b low p is small = refl

fits-below : (b t p : ℕ) → t < p → nat_le b t ≡ true → b < p
fits-below b t p below test = grind (arith, nat_tests)

-- and then what is left is that of the whole of b
pub left-low : (fits : Bool) (b low t p : ℕ) → low ≡ b % p → t < p → fits ≡ nat_le b t → left_of fits t low ≡ left_of fits t b
left-low fits b low t p is below test = left-zero fits t b low p is (λ e. fits-below b t p below (sym test ∙ e))

-- ---- one digit more of the dividend

not-zero : (b : ℕ) → 0 < b → eqb b 0 ≡ false
not-zero b some = grind (arith, nat_tests)

pub div-some : (m p q : ℕ) → 0 < q → word_div_u m p q ≡ p / q
div-some m p q some = rw (not-zero q some) refl

pub rem-some : (p q : ℕ) → 0 < q → word_rem_u p q ≡ p % q
rem-some p q some = rw (not-zero q some) refl

-- the digit fits: b is at most t
more-fits : (a b q r digit : ℕ) → digit < 2 → q * b + r ≡ a → r < b → b ≤ digit + 2 * r → ((digit + 2 * a) / b ≡ 1 + 2 * q) × ((digit + 2 * a) % b ≡ digit + 2 * r - b)
more-fits a b q r digit few whole below more =
    let rest : digit + 2 * r - b < b = omega arith in
    let parts : digit + 2 * a ≡ (1 + 2 * q) * b + (digit + 2 * r - b) = omega arith in
    (ap (λ (u : ℕ). u / b) parts ∙ div-mul-add (1 + 2 * q) b (digit + 2 * r - b) rest, ap (λ (u : ℕ). u % b) parts ∙ mod-mul-add (1 + 2 * q) b (digit + 2 * r - b) rest)

-- it doesn't
less-fits : (a b q r digit : ℕ) → q * b + r ≡ a → digit + 2 * r < b → ((digit + 2 * a) / b ≡ 0 + 2 * q) × ((digit + 2 * a) % b ≡ digit + 2 * r)
less-fits a b q r digit whole below =
    let parts : digit + 2 * a ≡ (0 + 2 * q) * b + (digit + 2 * r) = omega arith in
    (ap (λ (u : ℕ). u / b) parts ∙ div-mul-add (0 + 2 * q) b (digit + 2 * r) below, ap (λ (u : ℕ). u % b) parts ∙ mod-mul-add (0 + 2 * q) b (digit + 2 * r) below)

-- what a row makes of the quotient and the remainder
abbrev RowMakes : (a b q t p digit : ℕ) → Bool → Type 0
RowMakes a b q t p digit fits = (bit fits + 2 * q ≡ word_div_u p (digit + 2 * a) b) × (left_of fits t b ≡ word_rem_u (digit + 2 * a) b)

row-some : (a b q r p digit : ℕ) (fits : Bool) → 0 < b → digit < 2 → q ≡ a / b → r ≡ a % b → fits ≡ nat_le b (digit + 2 * r) → RowMakes a b q (digit + 2 * r) p digit fits
row-some a b q r p digit fits some few quotient rest test =
    let whole : q * b + r ≡ a = ap (λ (k : ℕ). k * b + r) quotient ∙ ap (λ (k : ℕ). a / b * b + k) rest ∙ div-add-mod' a b in
    let below : r < b = omega (arith, rest, mod-lt a some) in
    elim (cases_lt (digit + 2 * r) b) [
      | inl less ↦
          let known = less-fits a b q r digit whole less in
          subst (RowMakes a b q (digit + 2 * r) p digit) (sym (test ∙ above b (digit + 2 * r) less)) (rw (not-zero b some) (sym known.0, sym known.1))
      | inr more ↦
          let known = more-fits a b q r digit few whole below more in
          subst (RowMakes a b q (digit + 2 * r) p digit) (sym (test ∙ at_most b (digit + 2 * r) more)) (rw (not-zero b some) (sym known.0, sym known.1))
    ]

row-none : (a q r p digit : ℕ) (fits : Bool) → 0 < p → q ≡ p - 1 → r ≡ a → fits ≡ true → RowMakes a 0 q (digit + 2 * r) (2 * p) digit fits
row-none a q r p digit fits some quotient rest test =
    subst (RowMakes a 0 q (digit + 2 * r) (2 * p) digit) (sym test) (omega arith, omega arith)

-- the quotient and the remainder of the higher digits, and one row, make those with one digit more
pub row-step : (a b q r p digit : ℕ) (fits : Bool) → 0 < p → digit < 2 → q ≡ word_div_u p a b → r ≡ word_rem_u a b → fits ≡ nat_le b (digit + 2 * r) →
    (bit fits + 2 * q ≡ word_div_u (2 * p) (digit + 2 * a) b) × (left_of fits (digit + 2 * r) b ≡ word_rem_u (digit + 2 * a) b)
row-step a zero q r p digit fits some few quotient rest test = row-none a q r p digit fits some quotient rest (test ∙ at_most 0 (digit + 2 * r) (omega arith))
row-step a (suc b) q r p digit fits some few quotient rest test = row-some a (suc b) q r (2 * p) digit fits (omega arith) few (quotient ∙ div-some p a (suc b) (omega arith)) (rest ∙ rem-some a (suc b) (omega arith)) test

-- ---- bits that change

bitwise-push : (f : Bool → Bool → Bool) (xs ys : List Bool) (x y : Bool) → length xs ≡ length ys → bitwise f (xs ++ x ∷ []) (ys ++ y ∷ []) ≡ bitwise f xs ys ++ f x y ∷ []
bitwise-push f [] [] x y same = refl
bitwise-push f [] (v ∷ ys) x y same = absurd (omega arith)
bitwise-push f (u ∷ xs) [] x y same = absurd (omega arith)
bitwise-push f (u ∷ xs) (v ∷ ys) x y same = ap (λ (zs : List Bool). f u v ∷ zs) (bitwise-push f xs ys x y (omega arith))

change-bit : (x y c : Bool) → xor x (sum_bit x y c) ≡ xor y c
change-bit true true true = refl
change-bit true true false = refl
change-bit true false true = refl
change-bit true false false = refl
change-bit false true true = refl
change-bit false true false = refl
change-bit false false true = refl
change-bit false false false = refl

equal_bits : (f : Bool → Bool → Bool) {xs ys us vs : List Bool} → xs ≡ us → ys ≡ vs → bitwise f xs ys ≡ bitwise f us vs
equal_bits f {ys = ys} {us = us} p q = ap (λ (k : List Bool). bitwise f k ys) p ∙ ap (λ (k : List Bool). bitwise f us k) q

-- one place more of the bits in which a word and its sum with ns differ
pub changed-more : (xs ns : List Bool) (i : ℕ) → i < length xs → length xs ≡ length ns → bitwise xor (take (i + 1) xs) (sum_bits true (take (i + 1) xs) (take (i + 1) ns)) ≡ bitwise xor (take i xs) (sum_bits true (take i xs) (take i ns)) ++ xor (get_or ns i false) (carry_out true (take i xs) (take i ns)) ∷ []
changed-more xs ns i at same =
    let carry : Bool = carry_out true (take i xs) (take i ns) in
    let short_x : length (take i xs) ≡ i = length-take-le i xs (omega arith) in
    let short_n : length (take i ns) ≡ i = length-take-le i ns (omega arith) in
    let long : length (take i xs) ≡ length (sum_bits true (take i xs) (take i ns)) = sym (length-sum_bits true (take i xs) (take i ns) (short_x ∙ sym short_n)) in
    equal_bits xor (take_more xs i false at) (sum_bits-more true xs ns i false at (omega arith))
    ∙ bitwise-push xor (take i xs) (sum_bits true (take i xs) (take i ns)) (get_or xs i false) (sum_bit (get_or xs i false) (get_or ns i false) carry) long
    ∙ ap (λ (b : Bool). bitwise xor (take i xs) (sum_bits true (take i xs) (take i ns)) ++ b ∷ []) (change-bit (get_or xs i false) (get_or ns i false) carry)

-- bits that are changed twice
twice-changed : (xs ss : List Bool) → length xs ≡ length ss → bitwise xor xs (bitwise xor xs ss) ≡ ss
twice-changed [] [] same = refl
twice-changed [] (s ∷ ss) same = absurd (omega arith)
twice-changed (x ∷ xs) [] same = absurd (omega arith)
twice-changed (x ∷ xs) (s ∷ ss) same =
    ap (λ (b : Bool). b ∷ bitwise xor xs (bitwise xor xs ss)) (back x s) ∙ ap (λ (bs : List Bool). s ∷ bs) (twice-changed xs ss (omega arith))
  where
    back : (x s : Bool) → xor x (xor x s) ≡ s
    back true true = refl
    back true false = refl
    back false s = refl

never-changed : (xs ys : List Bool) → length xs ≡ length ys → bitwise (λ x y. xor x (false && y)) xs ys ≡ xs
never-changed [] [] same = refl
never-changed [] (y ∷ ys) same = absurd (omega arith)
never-changed (x ∷ xs) [] same = absurd (omega arith)
never-changed (x ∷ xs) (y ∷ ys) same = ap (λ (b : Bool). b ∷ bitwise (λ x y. xor x (false && y)) xs ys) (kept x) ∙ ap (λ (bs : List Bool). x ∷ bs) (never-changed xs ys (omega arith))
  where
    kept : (x : Bool) → xor x false ≡ x
    kept true = refl
    kept false = refl

-- where the divisor fits, the changes take it away
pub left-number : (fits : Bool) (xs ys : List Bool) → length xs ≡ length ys → (fits ≡ true → number ys ≤ number xs) → number (bitwise (λ x y. xor x (fits && y)) xs (changed_bits xs ys)) ≡ left_of fits (number xs) (number ys)
left-number true xs ys same within =
    let same' : length xs ≡ length (map not ys) = same ∙ sym (length-map ys not) in
    let long : length xs ≡ length (sum_bits true xs (map not ys)) = sym (length-sum_bits true xs (map not ys) same') in
    let fits : number ys ≤ number xs = within refl in
    let small : number xs - number ys < 2 ^ length xs = omega (arith, number-lt xs) in
    let wrapped : number xs + (2 ^ length xs - number ys) ≡ number xs - number ys + 2 ^ length xs = omega (arith, number-lt_of (length xs) ys same) in
    ap number (twice-changed xs (sum_bits true xs (map not ys)) long)
    ∙ number-difference xs ys same
    ∙ ap (λ (u : ℕ). u % 2 ^ length xs) wrapped
    ∙ add-mod_right (number xs - number ys) (2 ^ length xs)
    ∙ mod-eq_of_lt small
left-number false xs ys same within =
    let same' : length xs ≡ length (map not ys) = same ∙ sym (length-map ys not) in
    let long : length xs ≡ length (changed_bits xs ys) =
    sym (length-bitwise xor xs (sum_bits true xs (map not ys)) (sym (length-sum_bits true xs (map not ys) same'))) in
    ap number (never-changed xs (changed_bits xs ys) long)

-- ---- one row of the division of two lists

-- a row makes the quotient and the remainder with one digit more
pub row-makes : (a b low q r p digit : ℕ) (fits : Bool) → 0 < p → digit < 2 → r < p → q ≡ word_div_u p a b → r ≡ word_rem_u a b → low ≡ b % (2 * p) → fits ≡ (nat_le low (digit + 2 * r) && nat_lt b (2 * p)) →
    (bit fits + 2 * q ≡ word_div_u (2 * p) (digit + 2 * a) b) × (left_of fits (digit + 2 * r) low ≡ word_rem_u (digit + 2 * a) b)
row-makes a b low q r p digit fits some few small quotient rest lowest test =
    let below : digit + 2 * r < 2 * p = omega arith in
    let whole : fits ≡ nat_le b (digit + 2 * r) = test ∙ fits-low b low (digit + 2 * r) (2 * p) lowest below in
    let step = row-step a b q r p digit fits some few quotient rest whole in
    (step.0, left-low fits b low (digit + 2 * r) (2 * p) lowest below whole ∙ step.1)

-- the first test of two
pub first-true : (a b : Bool) → (a && b) ≡ true → a ≡ true
first-true true b e = refl
first-true false b e = absurd (cc)

pub at_most-true : (b t : ℕ) → nat_le b t ≡ true → b ≤ t
at_most-true b t e = grind (arith, nat_tests)

-- the lowest digit and the others
pub first-digit : (n : Circuit) (bits : List Bool) (ls : List Lit) (d : Lit) → 0 < length ls → spelled n bits ls ≡ bit (value n bits (get_or ls 0 d)) + 2 * spelled n bits (drop 1 ls)
first-digit n bits [] d h = absurd (omega arith)
first-digit n bits (x ∷ ls) d h = refl

below-set : (n p t k : ℕ) → n ≡ t + p * (1 + k) → nat_lt n p ≡ false
below-set n p t k is =
    let more : p ≤ n = omega arith in
    not-below n p more
  where
    not-below : (n p : ℕ) → p ≤ n → nat_lt n p ≡ false
    not-below n p h = grind (arith, nat_tests)

below-none : (n p t : ℕ) → t < p → n ≡ t → (nat_lt n (2 * p) && true) ≡ nat_lt n p
below-none n p t small is =
    let below : n < p = omega arith in
    both n p below
  where
    both : (n p : ℕ) → n < p → (nat_lt n (2 * p) && true) ≡ nat_lt n p
    both n p h = grind (arith, nat_tests)

below-more : (n p t d : ℕ) → n ≡ t + p * (0 + 2 * suc d) → (nat_lt n (2 * p) && true) ≡ nat_lt n p
below-more n p t d is =
    let more : 2 * p ≤ n = omega arith in
    both n p more
  where
    both : (n p : ℕ) → 2 * p ≤ n → (nat_lt n (2 * p) && true) ≡ nat_lt n p
    both n p h = grind (arith, nat_tests)

and-false : (a : Bool) → (a && false) ≡ false
and-false true = refl
and-false false = refl

-- a number below 2 p is below p where its next digit isn't set
below-half : (n p t d : ℕ) (x : Bool) → t < p → n ≡ t + p * (bit x + 2 * d) → (nat_lt n (2 * p) && not x) ≡ nat_lt n p
below-half n p t d true small is = and-false (nat_lt n (2 * p)) ∙ sym (below-set n p t (2 * d) is)
below-half n p t zero false small is = below-none n p t small (is ∙ omega arith)
below-half n p t (suc d) false small is = below-more n p t d is

pub below-places : (xs : List Bool) (j : ℕ) → j < length xs → (nat_lt (number xs) (2 ^ (j + 1)) && not (get_or xs j false)) ≡ nat_lt (number xs) (2 ^ j)
below-places xs j at =
    let parts : number xs ≡ number (take j xs) + 2 ^ j * (bit (get_or xs j false) + 2 * number (drop (j + 1) xs)) =
    ap number (sym (take-append-drop j xs))
    ∙ number-append (take j xs) (drop j xs)
    ∙ ap (λ (k : ℕ). number (take j xs) + 2 ^ k * number (drop j xs)) (length-take-le j xs (omega arith))
    ∙ ap (λ (ys : List Bool). number (take j xs) + 2 ^ j * number ys) (drop_more xs j false at) in
    let small : number (take j xs) < 2 ^ j = number-lt_of j (take j xs) (sym (length-take-le j xs (omega arith))) in
    let power : 2 ^ (j + 1) ≡ 2 * 2 ^ j = ap (λ (k : ℕ). 2 ^ k) (add-one j) ∙ pow_two-suc j in
    ap (λ (m : ℕ). nat_lt (number xs) m && not (get_or xs j false)) power
    ∙ below-half (number xs) (2 ^ j) (number (take j xs)) (number (drop (j + 1) xs)) (get_or xs j false) small parts

-- the gates of the rows of one digit less, a test and a row
pub rows-room : (k l : ℕ) → k ≡ l + 1 → 0 < l →
    (3 * (l * l) + 5 * l - 1 + 1 + (6 * k + 1) ≤ 3 * (k * k) + 5 * k - 1) × (l * l + 3 * l - 1 + 1 + (2 * k + 1) ≤ k * k + 3 * k - 1)
rows-room k l is some = rw is (omega arith, omega arith)

none-quotient : (b : ℕ) → 0 ≡ word_div_u 1 0 b
none-quotient zero = refl
none-quotient (suc b) = sym (rw (not-zero (suc b) (omega arith)) (zero-div (suc b)))

none-remainder : (b : ℕ) → 0 ≡ word_rem_u 0 b
none-remainder zero = refl
none-remainder (suc b) = sym (rw (not-zero (suc b) (omega arith)) (zero-mod (suc b)))

lowest-of : (n : Circuit) (bits : List Bool) (b low : List Lit) (k : ℕ) → low ≡ take k b → spelled n bits low ≡ spelled n bits b % 2 ^ k
lowest-of n bits b low k is = ap (spelled n bits) is ∙ spelled-take n bits b k

-- a row of lists: the quotient and the remainder of all digits of a but the lowest, and then of all
pub list-row : (n : Circuit) (bits : List Bool) (a b low : List Lit) (d : Lit) (q r k : ℕ) (fits short : Bool) → length a ≡ k + 1 → low ≡ take (k + 1) b → r < 2 ^ k
    → q ≡ word_div_u (2 ^ k) (spelled n bits (drop 1 a)) (spelled n bits b) → r ≡ word_rem_u (spelled n bits (drop 1 a)) (spelled n bits b)
    → short ≡ nat_lt (spelled n bits b) (2 ^ length a) → fits ≡ (nat_le (spelled n bits low) (bit (value n bits (get_or a 0 d)) + 2 * r) && short)
    → (bit fits + 2 * q ≡ word_div_u (2 ^ length a) (spelled n bits a) (spelled n bits b)) × (left_of fits (bit (value n bits (get_or a 0 d)) + 2 * r) (spelled n bits low) ≡ word_rem_u (spelled n bits a) (spelled n bits b))
list-row n bits a b low d q r k fits short long front small quotient rest says test =
    let digit : ℕ = bit (value n bits (get_or a 0 d)) in
    let power : 2 ^ (k + 1) ≡ 2 * 2 ^ k = ap (λ (j : ℕ). 2 ^ j) (add-one k) ∙ pow_two-suc k in
    let whole : spelled n bits a ≡ digit + 2 * spelled n bits (drop 1 a) = first-digit n bits a d (omega arith) in
    let size : 2 ^ length a ≡ 2 * 2 ^ k = ap (λ (j : ℕ). 2 ^ j) long ∙ power in
    let made = row-makes (spelled n bits (drop 1 a)) (spelled n bits b) (spelled n bits low) q r (2 ^ k) digit fits (pow_pos k) (bit-lt (value n bits (get_or a 0 d))) small quotient rest
    (lowest-of n bits b low (k + 1) front ∙ ap (λ (m : ℕ). spelled n bits b % m) power)
    (test ∙ ap (λ (s : Bool). nat_le (spelled n bits low) (digit + 2 * r) && s) (says ∙ ap (λ (m : ℕ). nat_lt (spelled n bits b) m) size)) in (
      made.0 ∙ ap (λ (m : ℕ). word_div_u m (digit + 2 * spelled n bits (drop 1 a)) (spelled n bits b)) (sym size) ∙ ap (λ (x : ℕ). word_div_u (2 ^ length a) x (spelled n bits b)) (sym whole),
      made.1 ∙ ap (λ (x : ℕ). word_rem_u x (spelled n bits b)) (sym whole),
    )

-- the first row: one digit
pub only-row : (n : Circuit) (bits : List Bool) (a b low : List Lit) (fits short : Bool) → length a ≡ 1 → low ≡ take 1 b
    → short ≡ nat_lt (spelled n bits b) (2 ^ length a) → fits ≡ (nat_le (spelled n bits low) (spelled n bits a) && short)
    → (bit fits + 2 * 0 ≡ word_div_u (2 ^ length a) (spelled n bits a) (spelled n bits b)) × (left_of fits (spelled n bits a) (spelled n bits low) ≡ word_rem_u (spelled n bits a) (spelled n bits b))
only-row n bits a b low fits short long front says test =
    let d : Lit = record { code = 0 } in
    let none : spelled n bits (drop 1 a) ≡ 0 = ap (spelled n bits) (drop_all 1 a (omega arith)) in
    let whole : spelled n bits a ≡ bit (value n bits (get_or a 0 (record { code = 0 }))) + 2 * 0 = first-digit n bits a d (omega arith) ∙ ap (λ (x : ℕ). bit (value n bits (get_or a 0 d)) + 2 * x) none in
    let made = list-row n bits a b low d 0 0 0 fits short long front (omega arith)
    (none-quotient (spelled n bits b) ∙ ap (λ (x : ℕ). word_div_u 1 x (spelled n bits b)) (sym none))
    (none-remainder (spelled n bits b) ∙ ap (λ (x : ℕ). word_rem_u x (spelled n bits b)) (sym none))
    says (test ∙ ap (λ (x : ℕ). nat_le (spelled n bits low) x && short) whole) in
    (made.0, ap (λ (x : ℕ). left_of fits x (spelled n bits low)) whole ∙ made.1)
