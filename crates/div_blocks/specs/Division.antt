-- The parts of a division in writing, digit by digit from the highest.
use Rattle.std.specs.Prelude.{◌≡◌, ℕ, ◌-◌, ◌^◌, Bool, true, false, not, nat_lt, List, map}
use Rattle.hy_bits.specs.Bits.{xor, bitwise, sum_bits}
use Rattle.hy_bits.specs.Words.{word_neg, word_div_u, word_div_s, word_rem_u, word_rem_s}
use Rattle.gate_net.specs.declared.literal.Lit.{Lit}
use Rattle.gate_net.specs.Circuit.{Circuit}
use Rattle.gate_net.specs.Meaning.{value}
use Rattle.gate_net.specs.Spelled.{spelled}

-- the bits in which xs and the difference of xs and ys differ
abbrev pub changed_bits : List Bool → List Bool → List Bool
changed_bits xs ys = bitwise xor xs (sum_bits true xs (map not ys))

-- what is left of t: b is taken away where `fits` says so
abbrev pub left_of : Bool → ℕ → ℕ → ℕ
left_of true t b = t - b
left_of false t b = t

-- for all inputs the literal says that the word is below two to the n, so that it has no digit 1 from place n on
abbrev pub SaysBelow : Circuit → List Lit → ℕ → Lit → Type 0
SaysBelow c word n l = (bits : List Bool) → value c bits l ≡ nat_lt (spelled c bits word) (2 ^ n)

-- minus the number where the sign is set, modulo m
abbrev pub signed_by : ℕ → Bool → ℕ → ℕ
signed_by m true x = word_neg m x
signed_by m false x = x

-- the quotient of two words of n bits by either reading
abbrev pub quotient_of : Bool → ℕ → ℕ → ℕ → ℕ
quotient_of true n a b = word_div_s (2 ^ n) a b
quotient_of false n a b = word_div_u (2 ^ n) a b

-- the remainder
abbrev pub remainder_of : Bool → ℕ → ℕ → ℕ → ℕ
remainder_of true n a b = word_rem_s (2 ^ n) a b
remainder_of false n a b = word_rem_u a b
