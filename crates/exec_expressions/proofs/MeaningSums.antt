-- Pointers moved by words are what the meaning of a sum says (C11 6.5.6p8): the index moves by the exact number, modulo 2^64.
use Rattle.std.proofs.Common.{◌≡◌, ℕ, zero, suc, ◌+◌, ◌-◌, ◌%◌, ◌^◌, ◌<◌, ◌≤◌, Bool, true, false, if◌then◌else◌, ltb, ℤ, pos, negsuc, ◌+ℤ◌, neg_ℤ, refl, sym, ap, ◌∙◌, arith}
use lib.IntN.{sub_ℕ}
use Rattle.std.proofs.lemmas.Bool.Decides.{nat_tests}
use Rattle.std.specs.Prelude.{Some}
use Rattle.hy_bits.specs.declared.scalar.Scalar.{Scalar}
use Rattle.hy_bits.specs.declared.scalar.Scalar.TheVariants.{S64}
use Rattle.hy_bits.specs.Scalar.{is_signed}
use Rattle.hy_bits.specs.Words.{residue, signed, word_extend}
use Rattle.c_meaning.specs.declared.operators.Direction.{Direction}
use Rattle.c_meaning.specs.declared.operators.Direction.TheVariants as direction
use Rattle.c_meaning.specs.declared.values.Pointer.{Pointer}
use Rattle.c_meaning.specs.Expressions.{offset_by}
use Rattle.c_meaning.specs.Operations.{converted_to, low, modulus_of, reading}
use Rattle.c_meaning.specs.State.{moved}
use Rattle.exec_expressions.specs.Pointers.{moved_address, moved_word}
use Rattle.exec_expressions.proofs.OperationLaws.{low-word}

-- ---- sums of integers modulo 2^64

difference-by : (p q : ℕ) (less : Bool) → ltb p (suc q) ≡ less → residue (2 ^ 64) (if less then negsuc (suc q - suc p) else pos (p - suc q)) ≡ (p % 2 ^ 64 + (2 ^ 64 - 1 - q % 2 ^ 64)) % 2 ^ 64
difference-by p q true e =
    let less : p < suc q = grind (arith, nat_tests) in
    omega (arith, less)
difference-by p q false e =
    let more : suc q ≤ p = grind (arith, nat_tests) in
    omega (arith, more)

difference-residue : (p q : ℕ) → residue (2 ^ 64) (sub_ℕ p (suc q)) ≡ (p % 2 ^ 64 + (2 ^ 64 - 1 - q % 2 ^ 64)) % 2 ^ 64
difference-residue p q = difference-by p q (ltb p (suc q)) refl

sum-residue : (y z : ℤ) → residue (2 ^ 64) (y +ℤ z) ≡ (residue (2 ^ 64) y + residue (2 ^ 64) z) % 2 ^ 64
sum-residue (pos p) (pos q) = omega arith
sum-residue (pos p) (negsuc q) = difference-residue p q
sum-residue (negsuc p) (pos q) = difference-residue q p ∙ ap (λ (n : ℕ). n % 2 ^ 64) (omega arith)
sum-residue (negsuc p) (negsuc q) = omega arith

negative-residue : (z : ℤ) → residue (2 ^ 64) (neg_ℤ z) ≡ (2 ^ 64 - residue (2 ^ 64) z) % 2 ^ 64
negative-residue (pos zero) = omega arith
negative-residue (pos (suc n)) = omega arith
negative-residue (negsuc n) = omega arith

-- ---- the words of the integers by which pointers move

extended-by : (m a : ℕ) (b : Bool) → word_extend m (2 ^ 64) b a ≡ residue (2 ^ 64) (if b then signed m a else pos a)
extended-by m a true = refl
extended-by m a false = refl

converted-reading : (t : Scalar) (w : ℕ) → w < modulus_of t → converted_to t S64 w ≡ residue (2 ^ 64) (reading t w)
converted-reading t w h = ap (word_extend (modulus_of t) (2 ^ 64) (is_signed t)) (low-word t w h) ∙ extended-by (modulus_of t) w (is_signed t)

index-moved : (way : Direction) (t : Scalar) (w : ℕ) (i : ℤ) → w < modulus_of t → residue (2 ^ 64) (i +ℤ offset_by way t w) ≡ moved_word way (residue (2 ^ 64) i) (converted_to t S64 w)
index-moved direction.Forward t w i h = sum-residue i (reading t w) ∙ ap (λ (n : ℕ). (residue (2 ^ 64) i + n) % 2 ^ 64) (sym (converted-reading t w h))
index-moved direction.Backward t w i h =
    sum-residue i (neg_ℤ (reading t w))
    ∙ ap (λ (n : ℕ). (residue (2 ^ 64) i + n) % 2 ^ 64) (negative-residue (reading t w))
    ∙ inner (residue (2 ^ 64) i) (2 ^ 64 - residue (2 ^ 64) (reading t w))
    ∙ ap (λ (n : ℕ). (residue (2 ^ 64) i + (2 ^ 64 - n)) % 2 ^ 64) (sym (converted-reading t w h))
  where
    inner : (a b : ℕ) → (a + b % 2 ^ 64) % 2 ^ 64 ≡ (a + b) % 2 ^ 64
    inner a b = omega arith

-- a pointer that the meaning moves by the value of an integer is the one that `move_pointer` moves by the word of it at 64 bits
pub moved-as-meant : (way : Direction) (t : Scalar) (w : ℕ) (p : Pointer) → w < modulus_of t → Some (moved (offset_by way t w) p) ≡ moved_address way (converted_to t S64 w) (Some p)
moved-as-meant way t w p h = ap (λ (n : ℕ). Some (record p { index = signed (2 ^ 64) n })) (index-moved way t w p.index h)
