-- One place more of operations on lists of bits.
use Rattle.std.proofs.Common.{◌≡◌, ℕ, zero, suc, ◌+◌, ◌<◌, Bool, true, false, List, [], ◌∷◌, ◌++◌, length, get_or, take, refl, ap, ◌∙◌, arith, add-one}
use Rattle.hy_bits.specs.Bits.{xor, bitwise, bitwise_three, sum_bit, next_carry, sum_bits, carry_out}

bitwise-suc : (f : Bool → Bool → Bool) (xs ys : List Bool) (i : ℕ) (d : Bool) → i < length xs → i < length ys → bitwise f (take (suc i) xs) (take (suc i) ys) ≡ bitwise f (take i xs) (take i ys) ++ f (get_or xs i d) (get_or ys i d) ∷ []
bitwise-suc f [] ys i d h k = absurd (omega arith)
bitwise-suc f (x ∷ xs) [] i d h k = absurd (omega arith)
bitwise-suc f (x ∷ xs) (y ∷ ys) zero d h k = refl
bitwise-suc f (x ∷ xs) (y ∷ ys) (suc i) d h k = ap (λ (zs : List Bool). f x y ∷ zs) (bitwise-suc f xs ys i d (omega arith) (omega arith))

pub bitwise-more : (f : Bool → Bool → Bool) (xs ys : List Bool) (i : ℕ) (d : Bool) → i < length xs → i < length ys → bitwise f (take (i + 1) xs) (take (i + 1) ys) ≡ bitwise f (take i xs) (take i ys) ++ f (get_or xs i d) (get_or ys i d) ∷ []
bitwise-more f xs ys i d h k = ap (λ (n : ℕ). bitwise f (take n xs) (take n ys)) (add-one i) ∙ bitwise-suc f xs ys i d h k

sum_bits-suc : (c : Bool) (xs ys : List Bool) (i : ℕ) (d : Bool) → i < length xs → i < length ys → sum_bits c (take (suc i) xs) (take (suc i) ys) ≡ sum_bits c (take i xs) (take i ys) ++ sum_bit (get_or xs i d) (get_or ys i d) (carry_out c (take i xs) (take i ys)) ∷ []
sum_bits-suc c [] ys i d h k = absurd (omega arith)
sum_bits-suc c (x ∷ xs) [] i d h k = absurd (omega arith)
sum_bits-suc c (x ∷ xs) (y ∷ ys) zero d h k = refl
sum_bits-suc c (x ∷ xs) (y ∷ ys) (suc i) d h k = ap (λ (zs : List Bool). sum_bit x y c ∷ zs) (sum_bits-suc (next_carry x y c) xs ys i d (omega arith) (omega arith))

pub sum_bits-more : (c : Bool) (xs ys : List Bool) (i : ℕ) (d : Bool) → i < length xs → i < length ys → sum_bits c (take (i + 1) xs) (take (i + 1) ys) ≡ sum_bits c (take i xs) (take i ys) ++ sum_bit (get_or xs i d) (get_or ys i d) (carry_out c (take i xs) (take i ys)) ∷ []
sum_bits-more c xs ys i d h k = ap (λ (n : ℕ). sum_bits c (take n xs) (take n ys)) (add-one i) ∙ sum_bits-suc c xs ys i d h k

carry_out-suc : (c : Bool) (xs ys : List Bool) (i : ℕ) (d : Bool) → i < length xs → i < length ys → carry_out c (take (suc i) xs) (take (suc i) ys) ≡ next_carry (get_or xs i d) (get_or ys i d) (carry_out c (take i xs) (take i ys))
carry_out-suc c [] ys i d h k = absurd (omega arith)
carry_out-suc c (x ∷ xs) [] i d h k = absurd (omega arith)
carry_out-suc c (x ∷ xs) (y ∷ ys) zero d h k = refl
carry_out-suc c (x ∷ xs) (y ∷ ys) (suc i) d h k = carry_out-suc (next_carry x y c) xs ys i d (omega arith) (omega arith)

pub carry_out-more : (c : Bool) (xs ys : List Bool) (i : ℕ) (d : Bool) → i < length xs → i < length ys → carry_out c (take (i + 1) xs) (take (i + 1) ys) ≡ next_carry (get_or xs i d) (get_or ys i d) (carry_out c (take i xs) (take i ys))
carry_out-more c xs ys i d h k = ap (λ (n : ℕ). carry_out c (take n xs) (take n ys)) (add-one i) ∙ carry_out-suc c xs ys i d h k

-- the order of two Xors
pub sum-order : (a b c : Bool) → xor (xor a c) b ≡ sum_bit a b c
sum-order true true true = refl
sum-order true true false = refl
sum-order true false true = refl
sum-order true false false = refl
sum-order false true true = refl
sum-order false true false = refl
sum-order false false true = refl
sum-order false false false = refl

bitwise_three-suc : (f : Bool → Bool → Bool → Bool) (xs ys zs : List Bool) (i : ℕ) (d : Bool) → i < length xs → i < length ys → i < length zs → bitwise_three f (take (suc i) xs) (take (suc i) ys) (take (suc i) zs) ≡ bitwise_three f (take i xs) (take i ys) (take i zs) ++ f (get_or xs i d) (get_or ys i d) (get_or zs i d) ∷ []
bitwise_three-suc f [] ys zs i d h k l = absurd (omega arith)
bitwise_three-suc f (x ∷ xs) [] zs i d h k l = absurd (omega arith)
bitwise_three-suc f (x ∷ xs) (y ∷ ys) [] i d h k l = absurd (omega arith)
bitwise_three-suc f (x ∷ xs) (y ∷ ys) (z ∷ zs) zero d h k l = refl
bitwise_three-suc f (x ∷ xs) (y ∷ ys) (z ∷ zs) (suc i) d h k l = ap (λ (ws : List Bool). f x y z ∷ ws) (bitwise_three-suc f xs ys zs i d (omega arith) (omega arith) (omega arith))

pub bitwise_three-more : (f : Bool → Bool → Bool → Bool) (xs ys zs : List Bool) (i : ℕ) (d : Bool) → i < length xs → i < length ys → i < length zs → bitwise_three f (take (i + 1) xs) (take (i + 1) ys) (take (i + 1) zs) ≡ bitwise_three f (take i xs) (take i ys) (take i zs) ++ f (get_or xs i d) (get_or ys i d) (get_or zs i d) ∷ []
bitwise_three-more f xs ys zs i d h k l = ap (λ (n : ℕ). bitwise_three f (take n xs) (take n ys) (take n zs)) (add-one i) ∙ bitwise_three-suc f xs ys zs i d h k l
