-- Left shifts of signed words, and quotients of signed words, by the numbers behind them.
use Rattle.std.specs.Prelude.{◌≡◌, ℕ, zero, suc, ◌-◌, ◌*◌, ◌/◌, ◌^◌, ◌<◌, ◌≤◌, ◌||◌, Bool, true, false, not, nat_lt, nat_le, if◌then◌else◌, ℤ, pos, negsuc, ◌*ℤ◌, int_div, Option, None, Some, SomeIff, FitsSigned, refl}
use Rattle.std.specs.Int.{w64, CanDivide, IsNonZero}
use Rattle.std.proofs.Common.{arith, of_z}
use Rattle.std.proofs.Math.Nat.{div-lt_iff_lt-mul}
use Rattle.std.proofs.lemmas.Nat.{pow_pos}
use Rattle.hy_bits.specs.declared.scalar.Scalar.{Scalar}
use Rattle.hy_bits.specs.declared.scalar.Scalar.TheVariants.{B1, S8, U8, S16, U16, S32, U32, S64, U64}
use Rattle.hy_bits.specs.Scalar.{scalar_width}
use Rattle.hy_bits.specs.Words.{IsWord, is_negative, signed}
use Rattle.c_meaning.specs.Operations.{modulus_of, is_out_of_range}

pub half_less_one : (t : Scalar) → (modulus_of t - 1 - 0) / 2 ≡ modulus_of t / 2 - 1
half_less_one B1 = refl
half_less_one S8 = refl
half_less_one U8 = refl
half_less_one S16 = refl
half_less_one U16 = refl
half_less_one S32 = refl
half_less_one U32 = refl
half_less_one S64 = refl
half_less_one U64 = refl

pub half_is_some : (t : Scalar) → 0 < modulus_of t / 2
half_is_some B1 = omega arith
half_is_some S8 = omega arith
half_is_some U8 = omega arith
half_is_some S16 = omega arith
half_is_some U16 = omega arith
half_is_some S32 = omega arith
half_is_some U32 = omega arith
half_is_some S64 = omega arith
half_is_some U64 = omega arith

at_least : (a c : ℕ) → 0 < c → a ≤ a * c
at_least a zero some = absurd (omega (some, arith))
at_least a (suc c) some = omega arith

-- over any half: what is above the greatest number, shifted back
loses : (h a c : ℕ) → 0 < h → 0 < c → nat_lt ((h - 1) / c) a ≡ (nat_le h a || not (nat_lt (a * c) h))
loses h a c some many = grind (arith, at_least a c many, div-lt_iff_lt-mul {k = c} {x = h - 1} {y = a} many)

pub left_loses : (t : Scalar) (a count : ℕ) → nat_lt ((modulus_of t - 1 - 0) / 2 / 2 ^ count) a ≡ (is_negative (modulus_of t) a || is_out_of_range t (pos a *ℤ pos (2 ^ count)))
left_loses t a count = rw (half_less_one t) (loses (modulus_of t / 2) a (2 ^ count) (half_is_some t) (pow_pos count))

pub divided : (o : Option ℤ) (x y : ℤ) → IsNonZero w64 y → SomeIff o (CanDivide w64 x y) (int_div x y) → SomeIff o (FitsSigned w64 (int_div x y)) (int_div x y)
divided None x y some told = λ fits. told (some, fits)
divided (Some z) x y some told = (told.0.1, told.1)

-- the word of a number that isn't negative, and of one that is
word_of_either : (m b : ℕ) (is_below : Bool) → m ≤ 2 ^ 64 → b < m → 0 < b → 0 < of_z w64 (if is_below then negsuc (m - 1 - b) else pos b)
word_of_either m b true few word some = omega (arith, few, word, some)
word_of_either m b false few word some = omega (arith, few, word, some)

modulus_below : (t : Scalar) → modulus_of t ≤ 2 ^ 64
modulus_below B1 = omega arith
modulus_below S8 = omega arith
modulus_below U8 = omega arith
modulus_below S16 = omega arith
modulus_below U16 = omega arith
modulus_below S32 = omega arith
modulus_below U32 = omega arith
modulus_below S64 = omega arith
modulus_below U64 = omega arith

pub nonzero : (t : Scalar) (b : ℕ) → IsWord (scalar_width t) b → 0 < b → IsNonZero w64 (signed (modulus_of t) b)
nonzero t b word some = word_of_either (modulus_of t) b (is_negative (modulus_of t) b) (modulus_below t) word some
