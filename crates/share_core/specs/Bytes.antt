-- Numbers as bytes, lowest byte first (little-endian).
use Rattle.std.specs.Prelude.{ℕ, zero, suc, ◌+◌, ◌*◌, ◌/◌, ◌%◌, ◌^◌, ◌<◌, List, [], ◌∷◌, slice_index}
use Rattle.hy_bits.specs.declared.width.Width.{Width}
use Rattle.hy_bits.specs.declared.width.Width.TheVariants.{W1, W8, W16, W32, W64}

-- the n lowest bytes of a number
unfoldable pub bytes : ℕ → ℕ → List ℕ
bytes zero a = []
bytes (suc n) a = (a % 256) ∷ bytes n (a / 256)

-- the number whose bytes these are
abbrev pub number : List ℕ → ℕ
number [] = 0
number (b ∷ bs) = b + 256 * number bs

-- how many bytes a word takes in a message: a bit takes one byte
abbrev pub byte_count : Width → ℕ
byte_count W1 = 1
byte_count W8 = 1
byte_count W16 = 2
byte_count W32 = 4
byte_count W64 = 8

-- a list of words of 64 bits, as are dealt: each number is below 2 ^ 64
abbrev pub AreWords : List ℕ → Type 0
AreWords words = (k : ℕ) → slice_index words k < 2 ^ 64
