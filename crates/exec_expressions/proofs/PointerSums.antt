-- Targets whose indices are moved: how many are there, and what they stand for.
use Rattle.std.proofs.Common.{◌≡◌, ℕ, zero, suc, ◌+◌, ◌^◌, ◌<◌, ◌==◌, List, [], ◌∷◌, Bool, true, false, map, refl, sym, ap, arith}
use Rattle.std.specs.Prelude.{Some}
use Rattle.std.specs.List.{All}
use Rattle.hy_bits.proofs.WordLaws.{residue-signed}
use Rattle.c_meaning.specs.declared.operators.Direction.{Direction}
use Rattle.c_place.specs.Aims.{Aim, aimed_at, aims_there, pointer_of}
use Rattle.exec_expressions.specs.Pointers.{moved_word, moved_address, moved_aim}

pub there-moved : (way : Direction) (w : ℕ) (xs : List Aim) → aims_there (map (moved_aim way w) xs) ≡ aims_there xs
there-moved way w [] = refl
there-moved way w (x ∷ xs) = ap (λ (n : ℕ). x.guard + n) (there-moved way w xs)

pub aimed-moved : (way : Direction) (w : ℕ) (xs : List Aim) → All (λ (a : Aim). a.index < 2 ^ 64) xs → aimed_at (map (moved_aim way w) xs) ≡ moved_address way w (aimed_at xs)
aimed-moved way w [] words = refl
aimed-moved way w (x ∷ xs) words = here (x.guard == 1) refl (aimed-moved way w xs (λ k d h. words (suc k) d (omega arith)))
  where
    here : (b : Bool) → (x.guard == 1) ≡ b → aimed_at (map (moved_aim way w) xs) ≡ moved_address way w (aimed_at xs) → aimed_at (map (moved_aim way w) (x ∷ xs)) ≡ moved_address way w (aimed_at (x ∷ xs))
    here true g rest =
        rw g (ap (λ (n : ℕ). Some (pointer_of (record x { index = moved_word way n w }))) (sym (residue-signed (2 ^ 64) x.index (words zero x (omega arith)))))
    here false g rest = rw g rest
