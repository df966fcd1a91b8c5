-- Sums over gates, with one more gate.
use Rattle.std.proofs.Common.{◌≡◌, ℕ, ◌+◌, ◌<◌, List, [], ◌∷◌, ◌++◌, get_or, length, take, sym, ap, ◌∙◌, arith}
use Rattle.std.proofs.lemmas.List.{take_more}
use Rattle.share_core.specs.declared.instr.Instr.{Instr}
use Rattle.share_core.specs.declared.instr.InstrKind.TheVariants.{Offset}
use Rattle.hy_bits.specs.declared.width.Width.TheVariants.{W1}
use Rattle.share_core.specs.Levels.{summed}

abbrev pub no_instr : Instr
no_instr = record { kind = Offset; number = 0; width = W1; left = 0; right = 0; target = 0; value = 0 }

summed-append : (count : Instr → ℕ) (xs : List Instr) (y : Instr) → summed count (xs ++ y ∷ []) ≡ summed count xs + count y
summed-append count [] y = omega arith
summed-append count (x ∷ xs) y = ap (λ (n : ℕ). count x + n) (summed-append count xs y) ∙ omega arith

pub summed-more : (count : Instr → ℕ) (gates : List Instr) (i now next : ℕ) → i < length gates → now ≡ summed count (take i gates) → next ≡ now + count (get_or gates i no_instr) → next ≡ summed count (take (i + 1) gates)
summed-more count gates i now next within so then =
    then ∙ ap (λ (n : ℕ). n + count (get_or gates i no_instr)) so ∙ sym (ap (summed count) (take_more gates i no_instr within) ∙ summed-append count (take i gates) (get_or gates i no_instr))
