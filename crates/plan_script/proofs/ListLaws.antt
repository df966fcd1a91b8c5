-- Loops as folds over the elements so far; and the numbers below a number.
use Rattle.std.proofs.Common.{◌≡◌, ℕ, zero, suc, ◌+◌, ◌<◌, List, [], ◌∷◌, ◌++◌, get_or, length, take, sym, ap, ◌∙◌, arith, add-one}
use Rattle.std.specs.List.{fold, range_with_len}
use Rattle.std.proofs.lemmas.List.{take_more}
use Rattle.std.proofs.lemmas.List.Sums.{fold-append}
use Rattle.module_split.specs.Cut.{below}

module _ {A B : Type 0} (f : B → A → B) where
  -- one more element
  pub fold-more : (s0 : B) (xs : List A) (i : ℕ) (x : A) (s t : B) → i < length xs → x ≡ get_or xs i x → s ≡ fold f s0 (take i xs) → t ≡ f s x → t ≡ fold f s0 (take (i + 1) xs)
  fold-more s0 xs i x s t within is so then =
      then ∙ ap (λ (u : B). f u x) so ∙ ap (f (fold f s0 (take i xs))) is ∙ sym (ap (fold f s0) (take_more xs i x within) ∙ fold-append f s0 (take i xs) (get_or xs i x ∷ []))

range-more : (a n : ℕ) → range_with_len a (n + 1) ≡ range_with_len a n ++ (a + n) ∷ []
range-more a n = rw add-one (more a n)
  where
    more : (a n : ℕ) → range_with_len a (suc n) ≡ range_with_len a n ++ (a + n) ∷ []
    more a zero = ap (λ (k : ℕ). k ∷ []) (omega arith)
    more a (suc n) = ap (λ (ks : List ℕ). a ∷ ks) (more (a + 1) n ∙ ap (λ (k : ℕ). range_with_len (a + 1) n ++ k ∷ []) (omega arith))

pub below-more : (n : ℕ) → below (n + 1) ≡ below n ++ n ∷ []
below-more n = range-more 0 n ∙ ap (λ (k : ℕ). below n ++ k ∷ []) (omega arith)

pub fold-below : {B : Type 0} (f : B → ℕ → B) (s0 : B) (n : ℕ) (s t : B) → s ≡ fold f s0 (below n) → t ≡ f s n → t ≡ fold f s0 (below (n + 1))
fold-below f s0 n s t so then = then ∙ ap (λ u. f u n) so ∙ sym (ap (fold f s0) (below-more n) ∙ fold-append f s0 (below n) (n ∷ []))
