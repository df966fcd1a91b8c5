-- Words of a width and their operations (C11 6.2.5, 6.3.1.3 and 6.5.3 to 6.5.9).
-- A word of n bits is a whole number from 0 to below m = 2 ^ n. Its unsigned reading is that number. Its signed reading is that
-- number where it is below m / 2, and else that number minus m. Each operation is arithmetic on one of the two readings, reduced
-- modulo m. Where C leaves an operation undefined, its value is the one that the comment above it gives.
use Rattle.std.specs.Prelude.{ℕ, ◌+◌, ◌-◌, ◌*◌, ◌/◌, ◌%◌, ◌^◌, ◌<◌, ◌==◌, min, Bool, true, false, if◌then◌else◌, nat_le, ℤ, pos, negsuc, int_div, int_rem, int_lt}
use Rattle.std.specs.Int.{int_shr}
use Rattle.hy_bits.specs.declared.width.Width.{Width}
use Rattle.hy_bits.specs.declared.width.Width.TheVariants.{W1, W8, W16, W32, W64}

-- the number of bits
abbrev pub bits : Width → ℕ
bits W1 = 1
bits W8 = 8
bits W16 = 16
bits W32 = 32
bits W64 = 64

-- two to the number of bits: words are the numbers below it, and arithmetic is modulo it
abbrev pub modulus : Width → ℕ
modulus w = 2 ^ bits w

-- the number is a word of the width
abbrev pub IsWord : Width → ℕ → Type 0
IsWord w a = a < modulus w

-- ---- the signed reading, and the way back

-- the highest bit of the word is set
abbrev pub is_negative : ℕ → ℕ → Bool
is_negative m a = nat_le (m / 2) a

abbrev pub signed : ℕ → ℕ → ℤ
signed m a = if is_negative m a then negsuc (m - 1 - a) else pos a

-- an integer modulo m
abbrev pub residue : ℕ → ℤ → ℕ
residue m (pos n) = n % m
residue m (negsuc n) = m - 1 - n % m

-- ---- sums and products, which are the same for both readings

abbrev pub word_add : ℕ → ℕ → ℕ → ℕ
word_add m a b = (a + b) % m

abbrev pub word_sub : ℕ → ℕ → ℕ → ℕ
word_sub m a b = (a + (m - b)) % m

abbrev pub word_mul : ℕ → ℕ → ℕ → ℕ
word_mul m a b = (a * b) % m

abbrev pub word_neg : ℕ → ℕ → ℕ
word_neg m a = (m - a) % m

-- ---- quotients and remainders

-- x / 0 is all ones
abbrev pub word_div_u : ℕ → ℕ → ℕ → ℕ
word_div_u m a b = if b == 0 then m - 1 else a / b

-- x % 0 is x
abbrev pub word_rem_u : ℕ → ℕ → ℕ
word_rem_u a b = if b == 0 then a else a % b

-- toward zero. x / 0 is 1 where x is negative, and else -1. The least number by -1 wraps to itself
abbrev pub word_div_s : ℕ → ℕ → ℕ → ℕ
word_div_s m a b =
    if b == 0
    then (if is_negative m a then 1 else m - 1)
    else residue m (int_div (signed m a) (signed m b))

-- with the sign of the dividend. x % 0 is x
abbrev pub word_rem_s : ℕ → ℕ → ℕ → ℕ
word_rem_s m a b = if b == 0 then a else residue m (int_rem (signed m a) (signed m b))

-- ---- the complement. The other operations on each bit are `bit_and`, `bit_or` and `bit_xor` of std

abbrev pub word_not : ℕ → ℕ → ℕ
word_not m a = m - 1 - a

-- ---- shifts of words of n bits. A count above n acts as n: nothing is left of the word but, in a signed shift to the right, its sign

abbrev pub word_shl : ℕ → ℕ → ℕ → ℕ
word_shl n a count = (a * 2 ^ min count n) % 2 ^ n

abbrev pub word_shr_u : ℕ → ℕ → ℕ → ℕ
word_shr_u n a count = a / 2 ^ min count n

-- rounded down, so the sign is copied
abbrev pub word_shr_s : ℕ → ℕ → ℕ → ℕ
word_shr_s n a count = residue (2 ^ n) (int_shr (signed (2 ^ n) a) (min count n))

-- ---- comparison of the signed readings. That of the unsigned ones is `nat_lt`

abbrev pub is_less_s : ℕ → ℕ → ℕ → Bool
is_less_s m a b = int_lt (signed m a) (signed m b)

-- ---- from words below m to words below k: the value of the reading, modulo k

abbrev pub word_extend : ℕ → ℕ → Bool → ℕ → ℕ
word_extend m k true a = residue k (signed m a)
word_extend m k false a = a % k
