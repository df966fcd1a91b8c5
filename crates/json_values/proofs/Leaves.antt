-- The word of a number, by its sign and its magnitude.
use Rattle.std.proofs.Common.{◌≡◌, ℕ, suc, ◌-◌, ℤ, pos, negsuc, ◌<ℤ◌, ◌≤ℤ◌, unsigned_abs, nat_lt, if◌then◌else◌, Some, None, refl, ap, ◌∙◌, arith, rules}
use Rattle.hy_bits.specs.declared.scalar.Scalar.{Scalar}
use Rattle.hy_bits.specs.Scalar.{scalar_width}
use Rattle.hy_bits.specs.Words.{modulus}
use Rattle.json_values.specs.Leaf.{above, below, word_of}

pub word_from_zero : (scalar : Scalar) (number : ℤ) → pos 0 ≤ℤ number → word_of scalar number ≡ (if nat_lt (unsigned_abs number) (above scalar) then Some (unsigned_abs number) else None)
word_from_zero scalar (pos n) least = refl
word_from_zero scalar (negsuc n) least = absurd (search (rules, arith))

pub word_below_zero : (scalar : Scalar) (number : ℤ) → number <ℤ pos 0 → word_of scalar number ≡ (if nat_lt (unsigned_abs number - 1) (below scalar) then Some (modulus (scalar_width scalar) - unsigned_abs number) else None)
word_below_zero scalar (pos n) negative = absurd (search (rules, arith))
word_below_zero scalar (negsuc n) negative =
    let one : n ≡ suc n - 1 = omega arith in
    let two : modulus (scalar_width scalar) - 1 - n ≡ modulus (scalar_width scalar) - suc n = omega arith in
    ap (λ (m : ℕ). if nat_lt m (below scalar) then Some (modulus (scalar_width scalar) - 1 - n) else None) one ∙ ap (λ (word : ℕ). if nat_lt (suc n - 1) (below scalar) then Some word else None) two
