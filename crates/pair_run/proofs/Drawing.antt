-- One word more drawn from a source.
use Rattle.std.proofs.Common.{◌≡◌, ℕ, zero, suc, ◌+◌, List, [], ◌∷◌, ◌++◌, refl, sym, ap, ◌∙◌, add-one}
use Rattle.rand_core.specs.Stream.{Stream, next_u64}
use Rattle.dealer.specs.Drawing.{left, taken}

pub none_taken : (s : Stream) → taken 0 s ≡ []
unfolding taken
none_taken s = refl

pub none_left : (s : Stream) → left 0 s ≡ s
unfolding left
none_left s = refl

pub taken-more : (n : ℕ) (s : Stream) → taken (suc n) s ≡ taken n s ++ (next_u64 (left n s)).0 ∷ []
unfolding taken left
taken-more zero s = refl
taken-more (suc n) s = ap (λ (xs : List ℕ). (next_u64 s).0 ∷ xs) (taken-more n (next_u64 s).1)

left-more : (n : ℕ) (s : Stream) → left (suc n) s ≡ (next_u64 (left n s)).1
unfolding left
left-more zero s = refl
left-more (suc n) s = left-more n (next_u64 s).1

pub left_one_more : (n : ℕ) (s : Stream) → (next_u64 (left n s)).1 ≡ left (n + 1) s
left_one_more n s = sym (left-more n s) ∙ ap (λ (k : ℕ). left k s) (sym (add-one n))
