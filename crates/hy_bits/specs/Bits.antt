-- Words as lists of bits, lowest bit first, and the bit by bit sum of two such lists.
use Rattle.std.specs.Prelude.{ℕ, zero, suc, ◌+◌, ◌*◌, ◌/◌, ◌%◌, ◌==◌, Bool, true, false, not, ◌&&◌, List, [], ◌∷◌}
-- a bit as a number, 1 or 0
pub use Rattle.std.specs.Int.{from_bool as bit}

-- the number whose bits these are
abbrev pub number : List Bool → ℕ
number [] = 0
number (b ∷ bs) = bit b + 2 * number bs

-- the n lowest bits of a number
unfoldable pub low_bits : ℕ → ℕ → List Bool
low_bits zero a = []
low_bits (suc n) a = (a % 2 == 1) ∷ low_bits n (a / 2)

-- ---- operations on each bit

abbrev pub xor : Bool → Bool → Bool
xor true b = not b
xor false b = b

-- bit i of the result is f of the two bits i; as long as the shorter list
abbrev pub bitwise : (Bool → Bool → Bool) → List Bool → List Bool → List Bool
bitwise f [] ys = []
bitwise f (x ∷ xs) [] = []
bitwise f (x ∷ xs) (y ∷ ys) = f x y ∷ bitwise f xs ys

-- the same of three lists
abbrev pub bitwise_three : (Bool → Bool → Bool → Bool) → List Bool → List Bool → List Bool → List Bool
bitwise_three f [] ys zs = []
bitwise_three f (x ∷ xs) [] zs = []
bitwise_three f (x ∷ xs) (y ∷ ys) [] = []
bitwise_three f (x ∷ xs) (y ∷ ys) (z ∷ zs) = f x y z ∷ bitwise_three f xs ys zs

-- ---- the full adder, and sums of two lists of one length with a carry into the lowest place

abbrev pub sum_bit : Bool → Bool → Bool → Bool
sum_bit a b c = xor (xor a b) c

abbrev pub next_carry : Bool → Bool → Bool → Bool
next_carry a b c = xor c (xor a c && xor b c)

abbrev pub sum_bits : Bool → List Bool → List Bool → List Bool
sum_bits c [] ys = []
sum_bits c (x ∷ xs) [] = []
sum_bits c (x ∷ xs) (y ∷ ys) = sum_bit x y c ∷ sum_bits (next_carry x y c) xs ys

-- the carry out of the highest place
abbrev pub carry_out : Bool → List Bool → List Bool → Bool
carry_out c [] ys = c
carry_out c (x ∷ xs) [] = c
carry_out c (x ∷ xs) (y ∷ ys) = carry_out (next_carry x y c) xs ys
