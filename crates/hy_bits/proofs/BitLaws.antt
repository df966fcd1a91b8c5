-- Laws of lists of bits, lowest bit first: their numbers, their parts, and the sum of two of them.
use Rattle.std.proofs.Common.{◌≡◌, ℕ, zero, suc, ◌+◌, ◌-◌, ◌*◌, ◌/◌, ◌%◌, ◌^◌, ◌<◌, ◌≤◌, Bool, true, false, not, ◌&&◌, ◌||◌, eqb, ltb, leb, List, [], ◌∷◌, ◌++◌, length, get_or, take, drop, replicate, min, map, refl, sym, ap, ◌∙◌, subst, arith, if◌then◌else◌, pos, negsuc, int_lt, bit_and, bit_or, bit_xor, zero-add, suc-add, add-one, nat_lt, nat_le}
use Rattle.std.proofs.Math.Nat.{pow-suc, mul_comm, div-div-eq-div-mul, div-one, zero-mod, zero-div, add-mul-mod_self_left, le-mul_of_pos_right, mod-eq_of_lt}
use Rattle.std.proofs.lemmas.List.{length-append, length-map, length-drop, length-replicate, drop-map}
use Rattle.std.specs.List.{list_all}
use Rattle.std.proofs.lemmas.Bool.Decides.{nat_tests}
use Rattle.std.proofs.lemmas.Nat.{pow_pos, pow-add, shr_le, and_block, or_block, xor_block, mod-pow-add}
use Rattle.hy_bits.specs.Words.{is_negative, signed, residue, is_less_s, word_add, word_sub, word_extend, word_shl, word_shr_u, word_shr_s}
use Rattle.hy_bits.specs.Bits.{bit, number, low_bits, xor, bitwise, bitwise_three, sum_bit, next_carry, sum_bits, carry_out}

-- ---- one bit

pub bit-lt : (b : Bool) → bit b < 2
bit-lt true = omega arith
bit-lt false = omega arith

-- two to one more is twice as much, with the two in front
pub pow_two-suc : (n : ℕ) → 2 ^ suc n ≡ 2 * 2 ^ n
pow_two-suc n = pow-suc 2 n ∙ mul_comm (2 ^ n) 2

-- ---- the number of a list of bits

pub number-lt : (bs : List Bool) → number bs < 2 ^ length bs
number-lt [] = omega arith
number-lt (b ∷ bs) = rw pow_two-suc (omega (arith, number-lt bs, bit-lt b))

pub number-append : (xs ys : List Bool) → number (xs ++ ys) ≡ number xs + 2 ^ length xs * number ys
number-append [] ys = omega arith
number-append (x ∷ xs) ys = rw (pow_two-suc, number-append xs ys) (omega arith)

pub number-push : (xs : List Bool) (b : Bool) → number (xs ++ b ∷ []) ≡ number xs + 2 ^ length xs * bit b
number-push xs b = number-append xs (b ∷ []) ∙ omega arith

-- the same, where the length is told beside the list
pub number-push_of : (n : ℕ) (xs : List Bool) (b : Bool) → n ≡ length xs → number (xs ++ b ∷ []) ≡ number xs + 2 ^ n * bit b
number-push_of n xs b same = number-push xs b ∙ ap (λ (k : ℕ). number xs + 2 ^ k * bit b) (sym same)

pub number-lt_of : (n : ℕ) (xs : List Bool) → n ≡ length xs → number xs < 2 ^ n
number-lt_of n xs same = subst (λ (k : ℕ). number xs < 2 ^ k) (sym same) (number-lt xs)

pub number-zeros : (n : ℕ) → number (replicate n false) ≡ 0
number-zeros zero = refl
number-zeros (suc n) = omega (arith, number-zeros n)

pub number-ones : (n : ℕ) → number (replicate n true) + 1 ≡ 2 ^ n
number-ones zero = refl
number-ones (suc n) = rw pow_two-suc (omega (arith, number-ones n))

-- ---- the low bits of a number

pub length-low_bits : (n a : ℕ) → length (low_bits n a) ≡ n
unfolding low_bits
length-low_bits zero a = refl
length-low_bits (suc n) a = ap suc (length-low_bits n (a / 2))

pub bit-odd : (a : ℕ) → bit (eqb (a % 2) 1) ≡ a % 2
bit-odd a = grind arith

-- one place of the remainder and of the quotient by a power of two
mod-two_pow : (a n : ℕ) → a % 2 ^ suc n ≡ a % 2 + 2 * (a / 2 % 2 ^ n)
mod-two_pow a n = ap (λ k. a % 2 ^ k) (sym (add-one n)) ∙ mod-pow-add a n 1 ∙ omega arith

div-two_pow : (a n : ℕ) → a / 2 ^ suc n ≡ a / 2 / 2 ^ n
div-two_pow a n = ap (λ k. a / k) (pow_two-suc n) ∙ sym (div-div-eq-div-mul a 2 (2 ^ n))

pub number-low_bits : (n a : ℕ) → number (low_bits n a) ≡ a % 2 ^ n
unfolding low_bits
number-low_bits zero a = omega arith
number-low_bits (suc n) a = rw (bit-odd a, number-low_bits n (a / 2)) (sym (mod-two_pow a n))

odd-of_bit : (b : Bool) (n : ℕ) → eqb ((bit b + 2 * n) % 2) 1 ≡ b
odd-of_bit true n = grind arith
odd-of_bit false n = grind arith

half-of_bit : (b : Bool) (n : ℕ) → (bit b + 2 * n) / 2 ≡ n
half-of_bit true n = omega arith
half-of_bit false n = omega arith

parity-of_bit : (b : Bool) (n : ℕ) → (bit b + 2 * n) % 2 ≡ bit b
parity-of_bit true n = omega arith
parity-of_bit false n = omega arith

pub low_bits-number : (bs : List Bool) → low_bits (length bs) (number bs) ≡ bs
unfolding low_bits
low_bits-number [] = refl
low_bits-number (b ∷ bs) = rw (odd-of_bit b (number bs), half-of_bit b (number bs), low_bits-number bs) refl

-- the same, where the length is told beside the list
pub low_bits-of : (n : ℕ) (bs : List Bool) → length bs ≡ n → low_bits n (number bs) ≡ bs
low_bits-of n bs same = ap (λ k. low_bits k (number bs)) (sym same) ∙ low_bits-number bs

-- two lists of one length with one number are one list
pub same_from_number : (xs ys : List Bool) → length xs ≡ length ys → number xs ≡ number ys → xs ≡ ys
same_from_number xs ys same_length same_number =
    sym (low_bits-of (length ys) xs same_length) ∙ ap (low_bits (length ys)) same_number ∙ low_bits-number ys

-- the bits above the n lowest don't matter
pub low_bits-mod : (n a : ℕ) → low_bits n (a % 2 ^ n) ≡ low_bits n a
low_bits-mod n a =
    ap (low_bits n) (sym (number-low_bits n a)) ∙ low_bits-of n (low_bits n a) (length-low_bits n a)

-- the n lowest bits, and the k bits above them
pub low_bits-add : (n k a : ℕ) → low_bits (n + k) a ≡ low_bits n a ++ low_bits k (a / 2 ^ n)
unfolding low_bits
low_bits-add zero k a = rw (zero-add, div-one) refl
low_bits-add (suc n) k a = rw (suc-add, div-two_pow) (ap (λ bs. eqb (a % 2) 1 ∷ bs) (low_bits-add n k (a / 2)))

pub low_bits-push : (n a : ℕ) → low_bits (suc n) a ≡ low_bits n a ++ eqb (a / 2 ^ n % 2) 1 ∷ []
unfolding low_bits
low_bits-push n a = ap (λ k. low_bits k a) (sym (add-one n)) ∙ low_bits-add n 1 a

pub low_bits-zero : (n : ℕ) → low_bits n 0 ≡ replicate n false
unfolding low_bits
low_bits-zero zero = refl
low_bits-zero (suc n) = ap (λ bs. false ∷ bs) (low_bits-zero n)

pub number-take : (n : ℕ) (bs : List Bool) → number (take n bs) ≡ number bs % 2 ^ n
number-take zero bs = omega arith
number-take (suc n) [] = sym (zero-mod (2 ^ suc n))
number-take (suc n) (b ∷ bs) =
    rw (mod-two_pow, number-take n bs, parity-of_bit b (number bs), half-of_bit b (number bs)) refl

pub number-drop : (n : ℕ) (bs : List Bool) → number (drop n bs) ≡ number bs / 2 ^ n
number-drop zero bs = omega arith
number-drop (suc n) [] = sym (zero-div (2 ^ suc n))
number-drop (suc n) (b ∷ bs) = rw (div-two_pow, number-drop n bs, half-of_bit b (number bs)) refl

-- ---- operations on each bit

pub length-bitwise : (f : Bool → Bool → Bool) (xs ys : List Bool) → length xs ≡ length ys → length (bitwise f xs ys) ≡ length xs
length-bitwise f [] ys same = refl
length-bitwise f (x ∷ xs) [] same = absurd (omega arith)
length-bitwise f (x ∷ xs) (y ∷ ys) same = ap suc (length-bitwise f xs ys (omega arith))

module _ (op : ℕ → ℕ → ℕ) (f : Bool → Bool → Bool) (on_bits : (x y : Bool) → op (bit x) (bit y) ≡ bit (f x y)) (on_blocks : (a b r s : ℕ) → r < 2 ^ 1 → s < 2 ^ 1 → op (a * 2 ^ 1 + r) (b * 2 ^ 1 + s) ≡ op a b * 2 ^ 1 + op r s) where
  low_place : (x y : Bool) (a b : ℕ) → op (bit x + 2 * a) (bit y + 2 * b) ≡ bit (f x y) + 2 * op a b
  low_place x y a b =
      let left : bit x + 2 * a ≡ a * 2 ^ 1 + bit x = omega arith in
      let right : bit y + 2 * b ≡ b * 2 ^ 1 + bit y = omega arith in
      rw (left, right, on_blocks a b (bit x) (bit y) (bit-lt x) (bit-lt y), on_bits x y) (omega arith)

  -- an operation on numbers that is f of each two bits
  number-bitwise : op 0 0 ≡ 0 → (xs ys : List Bool) → length xs ≡ length ys → number (bitwise f xs ys) ≡ op (number xs) (number ys)
  number-bitwise on_zeros [] [] same = sym on_zeros
  number-bitwise on_zeros [] (y ∷ ys) same = absurd (omega arith)
  number-bitwise on_zeros (x ∷ xs) [] same = absurd (omega arith)
  number-bitwise on_zeros (x ∷ xs) (y ∷ ys) same =
      rw (low_place x y (number xs) (number ys), number-bitwise on_zeros xs ys (omega arith)) refl

pub and-bits : (x y : Bool) → bit_and (bit x) (bit y) ≡ bit (x && y)
and-bits true true = refl
and-bits true false = refl
and-bits false true = refl
and-bits false false = refl

pub or-bits : (x y : Bool) → bit_or (bit x) (bit y) ≡ bit (x || y)
or-bits true true = refl
or-bits true false = refl
or-bits false true = refl
or-bits false false = refl

pub xor-bits : (x y : Bool) → bit_xor (bit x) (bit y) ≡ bit (xor x y)
xor-bits true true = refl
xor-bits true false = refl
xor-bits false true = refl
xor-bits false false = refl

pub number-and : (xs ys : List Bool) → length xs ≡ length ys → number (bitwise ◌&&◌ xs ys) ≡ bit_and (number xs) (number ys)
number-and = number-bitwise bit_and ◌&&◌ and-bits (and_block 1) refl

pub number-or : (xs ys : List Bool) → length xs ≡ length ys → number (bitwise ◌||◌ xs ys) ≡ bit_or (number xs) (number ys)
number-or = number-bitwise bit_or ◌||◌ or-bits (or_block 1) refl

pub number-xor : (xs ys : List Bool) → length xs ≡ length ys → number (bitwise xor xs ys) ≡ bit_xor (number xs) (number ys)
number-xor = number-bitwise bit_xor xor xor-bits (xor_block 1) refl

pub number-not : (bs : List Bool) → number (map not bs) + number bs + 1 ≡ 2 ^ length bs
number-not [] = refl
number-not (true ∷ bs) = rw pow_two-suc (omega (arith, number-not bs))
number-not (false ∷ bs) = rw pow_two-suc (omega (arith, number-not bs))

-- ---- the full adder

pub sum_bit-next_carry : (a b c : Bool) → bit a + bit b + bit c ≡ bit (sum_bit a b c) + 2 * bit (next_carry a b c)
sum_bit-next_carry true true true = refl
sum_bit-next_carry true true false = refl
sum_bit-next_carry true false true = refl
sum_bit-next_carry true false false = refl
sum_bit-next_carry false true true = refl
sum_bit-next_carry false true false = refl
sum_bit-next_carry false false true = refl
sum_bit-next_carry false false false = refl

pub length-sum_bits : (c : Bool) (xs ys : List Bool) → length xs ≡ length ys → length (sum_bits c xs ys) ≡ length xs
length-sum_bits c [] ys same = refl
length-sum_bits c (x ∷ xs) [] same = absurd (omega arith)
length-sum_bits c (x ∷ xs) (y ∷ ys) same = ap suc (length-sum_bits (next_carry x y c) xs ys (omega arith))

-- the whole sum: its bits, and above them the carry out
pub number-sum_bits : (c : Bool) (xs ys : List Bool) → length xs ≡ length ys → bit c + number xs + number ys ≡ number (sum_bits c xs ys) + 2 ^ length xs * bit (carry_out c xs ys)
number-sum_bits c [] [] same = omega arith
number-sum_bits c [] (y ∷ ys) same = absurd (omega arith)
number-sum_bits c (x ∷ xs) [] same = absurd (omega arith)
number-sum_bits c (x ∷ xs) (y ∷ ys) same =
    rw pow_two-suc (omega (arith, sum_bit-next_carry x y c, number-sum_bits (next_carry x y c) xs ys (omega arith)))

-- the bits of a sum are the sum modulo two to their number
wrapped-is : (a s p : ℕ) (c : Bool) → s < p → a ≡ s + p * bit c → s ≡ a % p
wrapped-is a s p c below whole = sym (rw (whole, add-mul-mod_self_left s p (bit c)) (mod-eq_of_lt below))

number-sum_bits-lt : (c : Bool) (xs ys : List Bool) → length xs ≡ length ys → number (sum_bits c xs ys) < 2 ^ length xs
number-sum_bits-lt c xs ys same =
    subst (λ (k : ℕ). number (sum_bits c xs ys) < 2 ^ k) (length-sum_bits c xs ys same) (number-lt (sum_bits c xs ys))

pub number-sum : (xs ys : List Bool) → length xs ≡ length ys → number (sum_bits false xs ys) ≡ word_add (2 ^ length xs) (number xs) (number ys)
number-sum xs ys same =
    wrapped-is (number xs + number ys) (number (sum_bits false xs ys)) (2 ^ length xs) (carry_out false xs ys)
    (number-sum_bits-lt false xs ys same)
    (omega (arith, number-sum_bits false xs ys same))

-- the complement, where the length is told beside the list
number-not_of : (n : ℕ) (ys : List Bool) → n ≡ length ys → number (map not ys) + number ys + 1 ≡ 2 ^ n
number-not_of n ys same = number-not ys ∙ ap (λ (k : ℕ). 2 ^ k) (sym same)

-- a difference is a sum with the complement and a carry into the lowest place
pub number-difference : (xs ys : List Bool) → length xs ≡ length ys → number (sum_bits true xs (map not ys)) ≡ word_sub (2 ^ length xs) (number xs) (number ys)
number-difference xs ys same =
    let same' : length xs ≡ length (map not ys) = same ∙ sym (length-map ys not) in
    wrapped-is (number xs + (2 ^ length xs - number ys)) (number (sum_bits true xs (map not ys))) (2 ^ length xs) (carry_out true xs (map not ys))
    (number-sum_bits-lt true xs (map not ys) same')
    (omega (arith, number-sum_bits true xs (map not ys) same', number-not_of (length xs) ys same))

carry-is : (x y y' s p : ℕ) (c : Bool) → s < p → y' + y + 1 ≡ p → 1 + x + y' ≡ s + p * bit c → c ≡ leb y x
carry-is x y y' s p true below complement whole = grind (arith, nat_tests)
carry-is x y y' s p false below complement whole = grind (arith, nat_tests)

-- its carry out says that nothing was borrowed
pub carry_out-difference : (xs ys : List Bool) → length xs ≡ length ys → carry_out true xs (map not ys) ≡ nat_le (number ys) (number xs)
carry_out-difference xs ys same =
    let same' : length xs ≡ length (map not ys) = same ∙ sym (length-map ys not) in
    carry-is (number xs) (number ys) (number (map not ys)) (number (sum_bits true xs (map not ys))) (2 ^ length xs) (carry_out true xs (map not ys))
    (number-sum_bits-lt true xs (map not ys) same')
    (number-not_of (length xs) ys same)
    (number-sum_bits true xs (map not ys) same')

lt-not_le : (a b : ℕ) → ltb a b ≡ not (leb b a)
lt-not_le a b = grind (arith, nat_tests)

eq-place : (x y : Bool) (a b : ℕ) → eqb (bit x + 2 * a) (bit y + 2 * b) ≡ not (xor x y) && eqb a b
eq-place true true a b = grind (arith, nat_tests)
eq-place true false a b = grind (arith, nat_tests)
eq-place false true a b = grind (arith, nat_tests)
eq-place false false a b = grind (arith, nat_tests)

pub nat_lt-difference : (xs ys : List Bool) → length xs ≡ length ys → nat_lt (number xs) (number ys) ≡ not (carry_out true xs (map not ys))
nat_lt-difference xs ys same = rw (carry_out-difference xs ys same) (lt-not_le (number xs) (number ys))

-- ---- carries found ahead of the sum

-- a place makes a carry, or hands on the one below it
pub next_carry-parts : (a b c : Bool) → next_carry a b c ≡ (a && b) || (xor a b && c)
next_carry-parts true true true = refl
next_carry-parts true true false = refl
next_carry-parts true false true = refl
next_carry-parts true false false = refl
next_carry-parts false true true = refl
next_carry-parts false true false = refl
next_carry-parts false false true = refl
next_carry-parts false false false = refl

carry_out-grows : (xs ys : List Bool) → length xs ≡ length ys → carry_out false xs ys ≡ true → carry_out true xs ys ≡ true
carry_out-grows [] [] same made = refl
carry_out-grows [] (y ∷ ys) same made = absurd (omega arith)
carry_out-grows (x ∷ xs) [] same made = absurd (omega arith)
carry_out-grows (true ∷ xs) (true ∷ ys) same made = made
carry_out-grows (true ∷ xs) (false ∷ ys) same made = carry_out-grows xs ys (omega arith) made
carry_out-grows (false ∷ xs) (true ∷ ys) same made = carry_out-grows xs ys (omega arith) made
carry_out-grows (false ∷ xs) (false ∷ ys) same made = made

made-or-handed : (made handed c : Bool) → (made ≡ true → handed ≡ true) → (if c then handed else made) ≡ made || (handed && c)
made-or-handed true true true grows = refl
made-or-handed true true false grows = refl
made-or-handed true false true grows = grows refl
made-or-handed true false false grows = refl
made-or-handed false true true grows = refl
made-or-handed false true false grows = refl
made-or-handed false false true grows = refl
made-or-handed false false false grows = refl

carry_out-choice : (c : Bool) (xs ys : List Bool) → carry_out c xs ys ≡ (if c then carry_out true xs ys else carry_out false xs ys)
carry_out-choice true xs ys = refl
carry_out-choice false xs ys = refl

-- a block of places makes a carry, or hands on the one below it
pub carry_out-parts : (c : Bool) (xs ys : List Bool) → length xs ≡ length ys → carry_out c xs ys ≡ carry_out false xs ys || (carry_out true xs ys && c)
carry_out-parts c xs ys same =
    carry_out-choice c xs ys ∙ made-or-handed (carry_out false xs ys) (carry_out true xs ys) c (carry_out-grows xs ys same)

-- two blocks, the lower one first
pub carry_out-append : (c : Bool) (xs ys xs' ys' : List Bool) → length xs ≡ length ys → carry_out c (xs ++ xs') (ys ++ ys') ≡ carry_out (carry_out c xs ys) xs' ys'
carry_out-append c [] [] xs' ys' same = refl
carry_out-append c [] (y ∷ ys) xs' ys' same = absurd (omega arith)
carry_out-append c (x ∷ xs) [] xs' ys' same = absurd (omega arith)
carry_out-append c (x ∷ xs) (y ∷ ys) xs' ys' same = carry_out-append (next_carry x y c) xs ys xs' ys' (omega arith)

pub sum_bits-append : (c : Bool) (xs ys xs' ys' : List Bool) → length xs ≡ length ys → sum_bits c (xs ++ xs') (ys ++ ys') ≡ sum_bits c xs ys ++ sum_bits (carry_out c xs ys) xs' ys'
sum_bits-append c [] [] xs' ys' same = refl
sum_bits-append c [] (y ∷ ys) xs' ys' same = absurd (omega arith)
sum_bits-append c (x ∷ xs) [] xs' ys' same = absurd (omega arith)
sum_bits-append c (x ∷ xs) (y ∷ ys) xs' ys' same =
    ap (λ bs. sum_bit x y c ∷ bs) (sum_bits-append (next_carry x y c) xs ys xs' ys' (omega arith))

-- bit i of the sum, by the carry out of the places below it
pub get_or-sum_bits : (c : Bool) (xs ys : List Bool) (i : ℕ) (d : Bool) → length xs ≡ length ys → i < length xs → get_or (sum_bits c xs ys) i d ≡ sum_bit (get_or xs i d) (get_or ys i d) (carry_out c (take i xs) (take i ys))
get_or-sum_bits c [] ys i d same within = absurd (omega arith)
get_or-sum_bits c (x ∷ xs) [] i d same within = absurd (omega arith)
get_or-sum_bits c (x ∷ xs) (y ∷ ys) zero d same within = refl
get_or-sum_bits c (x ∷ xs) (y ∷ ys) (suc i) d same within = get_or-sum_bits (next_carry x y c) xs ys i d (omega arith) (omega arith)

-- ---- three lists as two: carry-save adders

pub number-carry_save : (xs ys zs : List Bool) → length xs ≡ length ys → length xs ≡ length zs → number xs + number ys + number zs ≡ number (bitwise_three sum_bit xs ys zs) + 2 * number (bitwise_three next_carry xs ys zs)
number-carry_save [] [] [] p q = refl
number-carry_save [] [] (z ∷ zs) p q = absurd (omega arith)
number-carry_save [] (y ∷ ys) zs p q = absurd (omega arith)
number-carry_save (x ∷ xs) [] zs p q = absurd (omega arith)
number-carry_save (x ∷ xs) (y ∷ ys) [] p q = absurd (omega arith)
number-carry_save (x ∷ xs) (y ∷ ys) (z ∷ zs) p q =
    omega (arith, sum_bit-next_carry x y z, number-carry_save xs ys zs (omega arith) (omega arith))

pub length-bitwise_three : (f : Bool → Bool → Bool → Bool) (xs ys zs : List Bool) → length xs ≡ length ys → length xs ≡ length zs → length (bitwise_three f xs ys zs) ≡ length xs
length-bitwise_three f [] ys zs p q = refl
length-bitwise_three f (x ∷ xs) [] zs p q = absurd (omega arith)
length-bitwise_three f (x ∷ xs) (y ∷ ys) [] p q = absurd (omega arith)
length-bitwise_three f (x ∷ xs) (y ∷ ys) (z ∷ zs) p q = ap suc (length-bitwise_three f xs ys zs (omega arith) (omega arith))

-- ---- selection and equality

select-bit : (c x y : Bool) → xor y (c && xor x y) ≡ (if c then x else y)
select-bit true true true = refl
select-bit true true false = refl
select-bit true false true = refl
select-bit true false false = refl
select-bit false true true = refl
select-bit false true false = refl
select-bit false false true = refl
select-bit false false false = refl

pub select-bits : (c : Bool) (xs ys : List Bool) → length xs ≡ length ys → bitwise (λ x y. xor y (c && xor x y)) xs ys ≡ (if c then xs else ys)
select-bits true [] [] same = refl
select-bits false [] [] same = refl
select-bits c [] (y ∷ ys) same = absurd (omega arith)
select-bits c (x ∷ xs) [] same = absurd (omega arith)
select-bits true (x ∷ xs) (y ∷ ys) same = rw (select-bit true x y, select-bits true xs ys (omega arith)) refl
select-bits false (x ∷ xs) (y ∷ ys) same = rw (select-bit false x y, select-bits false xs ys (omega arith)) refl

-- two numbers are equal where all their bits are
pub eq-bits : (xs ys : List Bool) → length xs ≡ length ys → eqb (number xs) (number ys) ≡ list_all (λ b. b) (bitwise (λ x y. not (xor x y)) xs ys)
eq-bits [] [] same = refl
eq-bits [] (y ∷ ys) same = absurd (omega arith)
eq-bits (x ∷ xs) [] same = absurd (omega arith)
eq-bits (x ∷ xs) (y ∷ ys) same = eq-place x y (number xs) (number ys) ∙ ap (λ rest. not (xor x y) && rest) (eq-bits xs ys (omega arith))

-- ---- one row of a product

pub number-row : (x : Bool) (ys : List Bool) → number (map (λ y. x && y) ys) ≡ bit x * number ys
number-row true [] = refl
number-row true (y ∷ ys) = omega (arith, number-row true ys)
number-row false [] = refl
number-row false (y ∷ ys) = omega (arith, number-row false ys)

pub product-rows : (x : Bool) (xs ys : List Bool) → number (x ∷ xs) * number ys ≡ number (map (λ y. x && y) ys) + 2 * (number xs * number ys)
product-rows x xs ys = rw (number-row x ys) (omega arith)

-- ---- shifts, of n bits

pub number-shl : (count : ℕ) (bs : List Bool) → number (take (length bs) (replicate (min count (length bs)) false ++ bs)) ≡ word_shl (length bs) (number bs) count
number-shl count bs =
    let n : ℕ = length bs in
    let k : ℕ = min count n in
    number-take n (replicate k false ++ bs)
    ∙ ap (λ (a : ℕ). a % 2 ^ n) (number-append (replicate k false) bs ∙ rw (number-zeros k, length-replicate) (omega arith))

pub number-shr_u : (count : ℕ) (bs : List Bool) → number (drop (min count (length bs)) bs) ≡ word_shr_u (length bs) (number bs) count
number-shr_u count bs = number-drop (min count (length bs)) bs

-- ---- extension

pub number-zero_extended : (k : ℕ) (bs : List Bool) → number (bs ++ replicate k false) ≡ number bs
number-zero_extended k bs = rw (number-append bs (replicate k false), number-zeros k) (omega arith)

-- ---- the sign bit, which is the last of the list

-- the word whose sign bit is `sign`, and whose other bits are those of a number below h
sign-of : (h n : ℕ) (sign : Bool) → n < h → is_negative (2 * h) (n + h * bit sign) ≡ sign
sign-of h n true below = grind (arith, nat_tests)
sign-of h n false below = grind (arith, nat_tests)

signed-of : (h n : ℕ) (sign : Bool) → n < h → signed (2 * h) (n + h * bit sign) ≡ (if sign then negsuc (h - 1 - n) else pos n)
signed-of h n true below = rw (sign-of h n true below) (ap negsuc (omega arith))
signed-of h n false below = rw (sign-of h n false below) (ap pos (omega arith))

pub is_negative-push : (xs : List Bool) (sign : Bool) → is_negative (2 ^ suc (length xs)) (number (xs ++ sign ∷ [])) ≡ sign
is_negative-push xs sign = rw (pow_two-suc, number-push) (sign-of (2 ^ length xs) (number xs) sign (number-lt xs))

pub signed-push : (xs : List Bool) (sign : Bool) → signed (2 ^ suc (length xs)) (number (xs ++ sign ∷ [])) ≡ (if sign then negsuc (2 ^ length xs - 1 - number xs) else pos (number xs))
signed-push xs sign = rw (pow_two-suc, number-push) (signed-of (2 ^ length xs) (number xs) sign (number-lt xs))

less-of : (h n m : ℕ) (x y : Bool) → n < h → m < h → int_lt (if x then negsuc (h - 1 - n) else pos n) (if y then negsuc (h - 1 - m) else pos m) ≡ ltb (n + h * bit (not x)) (m + h * bit (not y))
less-of h n m true true p q = grind (arith, nat_tests)
less-of h n m true false p q = grind (arith, nat_tests)
less-of h n m false true p q = grind (arith, nat_tests)
less-of h n m false false p q = grind (arith, nat_tests)

is_less_s-of : (h n m : ℕ) (x y : Bool) → n < h → m < h → is_less_s (2 * h) (n + h * bit x) (m + h * bit y) ≡ ltb (n + h * bit (not x)) (m + h * bit (not y))
is_less_s-of h n m x y p q = rw (signed-of h n x p, signed-of h m y q) (less-of h n m x y p q)

-- a signed comparison is an unsigned one with both sign bits turned
pub is_less_s-push : (xs ys : List Bool) (x y : Bool) → length xs ≡ length ys → is_less_s (2 ^ suc (length xs)) (number (xs ++ x ∷ [])) (number (ys ++ y ∷ [])) ≡ nat_lt (number (xs ++ not x ∷ [])) (number (ys ++ not y ∷ []))
is_less_s-push xs ys x y same =
    rw (pow_two-suc (length xs), number-push xs x, number-push xs (not x), number-push_of (length xs) ys y same, number-push_of (length xs) ys (not y) same)
    (is_less_s-of (2 ^ length xs) (number xs) (number ys) x y (number-lt xs) (number-lt_of (length xs) ys same))

-- r is the number of the copies of the sign, and p two to how many there are
extended-of : (h n p r : ℕ) (sign : Bool) → n < h → 0 < p → r ≡ (if sign then p - 1 else 0) → n + h * bit sign + 2 * h * r ≡ residue (2 * h * p) (if sign then negsuc (h - 1 - n) else pos n)
extended-of h n p r true below some copies =
    let next : p ≡ r + 1 = omega arith in
    let small : h - 1 - n < 2 * h * (r + 1) = omega arith in
    rw (next, mod-eq_of_lt small) (omega arith)
extended-of h n p r false below some copies =
    let small : n < 2 * h * p = omega (arith, le-mul_of_pos_right h some) in
    rw (mod-eq_of_lt small, copies) (omega arith)

pub number-copies : (k : ℕ) (sign : Bool) → number (replicate k sign) ≡ (if sign then 2 ^ k - 1 else 0)
number-copies k true = omega (arith, number-ones k)
number-copies k false = number-zeros k

length-push : (xs : List Bool) (b : Bool) → length (xs ++ b ∷ []) ≡ suc (length xs)
length-push xs b = omega (arith, length-append xs (b ∷ []))

pub number-sign_extended : (k : ℕ) (xs : List Bool) (sign : Bool) → number ((xs ++ sign ∷ []) ++ replicate k sign) ≡ word_extend (2 ^ suc (length xs)) (2 ^ (suc (length xs) + k)) true (number (xs ++ sign ∷ []))
number-sign_extended k xs sign =
    rw (signed-push xs sign, number-append (xs ++ sign ∷ []) (replicate k sign), length-push xs sign, number-push xs sign, pow-add 2 (suc (length xs)) k, pow_two-suc (length xs))
    (extended-of (2 ^ length xs) (number xs) (2 ^ k) (number (replicate k sign)) sign (number-lt xs) (pow_pos k) (number-copies k sign))

-- d is left of the word, q of its complement, and the r + 1 highest numbers are free
shifted-of : (q d l r m : ℕ) → q + d + 1 ≡ l → l * (r + 1) ≡ m → d + l * r ≡ m - 1 - q % m
shifted-of q d l r m parts whole =
    let small : q < m = omega arith in
    rw (mod-eq_of_lt small) (omega arith)

dropped-of : (k : ℕ) (bs : List Bool) → k ≤ length bs → 2 ^ length (drop k bs) * 2 ^ k ≡ 2 ^ length bs
dropped-of k bs within =
    let parts : length (drop k bs) + k ≡ length bs = omega (arith, length-drop k bs) in
    sym (pow-add 2 (length (drop k bs)) k) ∙ ap (λ (j : ℕ). 2 ^ j) parts

pub number-shr_s : (count : ℕ) (xs : List Bool) (sign : Bool) →
    let n = suc (length xs) in
    number (drop (min count n) (xs ++ sign ∷ []) ++ replicate (min count n) sign) ≡ word_shr_s n (number (xs ++ sign ∷ [])) count
number-shr_s count xs true =
    let k : ℕ = min count (suc (length xs)) in
    let bs : List Bool = xs ++ true ∷ [] in
    let places : length bs ≡ suc (length xs) = length-push xs true in
    let complement : number (map not bs) ≡ 2 ^ length xs - 1 - number xs = omega (arith, number-not_of (suc (length xs)) bs (sym places), number-push xs true, pow_two-suc (length xs)) in
    let quotient : number (map not (drop k bs)) ≡ (2 ^ length xs - 1 - number xs) / 2 ^ k = ap number (sym (drop-map not k bs)) ∙ number-drop k (map not bs) ∙ ap (λ (u : ℕ). u / 2 ^ k) complement in
    let whole : 2 ^ length (drop k bs) * (number (replicate k true) + 1) ≡ 2 ^ suc (length xs) = rw (number-ones k) (dropped-of k bs (omega arith) ∙ ap (λ (j : ℕ). 2 ^ j) places) in
    rw (signed-push xs true, number-append (drop k bs) (replicate k true), ← quotient)
    (shifted-of (number (map not (drop k bs))) (number (drop k bs)) (2 ^ length (drop k bs)) (number (replicate k true)) (2 ^ suc (length xs)) (number-not (drop k bs)) whole)
number-shr_s count xs false =
    let k : ℕ = min count (suc (length xs)) in
    let small : number xs / 2 ^ k < 2 ^ suc (length xs) = omega (arith, shr_le (number xs) k, number-lt xs, pow_two-suc (length xs)) in
    rw (signed-push xs false, number-zero_extended k (drop k (xs ++ false ∷ [])), number-drop k (xs ++ false ∷ []), number-push xs false)
    (rw (mod-eq_of_lt small) (ap (λ (u : ℕ). u / 2 ^ k) (omega arith)))
