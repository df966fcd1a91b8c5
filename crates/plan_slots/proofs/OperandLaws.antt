-- Shares of codes one after another.
use Rattle.std.proofs.Common.{◌≡◌, ℕ, suc, ◌+◌, List, [], ◌∷◌, ◌++◌, slice_index, refl, sym, ap, ◌∙◌, add-one, append_assoc}
use Rattle.std.proofs.lemmas.Grind.{flat_map-append}
use Rattle.std.proofs.lemmas.List.{append-nil}
use Rattle.share_core.specs.Machine.{listed}
use Rattle.plan_slots.specs.Operands.{share_in, shares_at}

-- one code more
pub shares-more : (codes : List ℕ) (place n code : ℕ) (out now next : List ℕ) → code ≡ slice_index codes (place + n) → now ≡ out ++ shares_at codes place n → next ≡ now ++ share_in code → next ≡ out ++ shares_at codes place (n + 1)
unfolding listed
shares-more codes place n code out now next is so then =
    let f : ℕ → ℕ = λ k. slice_index codes (place + k) in
    let one : shares_at codes place (suc n) ≡ shares_at codes place n ++ share_in (f n) = flat_map-append share_in (listed n f) (f n ∷ []) ∙ ap (λ (xs : List ℕ). shares_at codes place n ++ xs) (append-nil (share_in (f n))) in
    then ∙ ap (λ (xs : List ℕ). xs ++ share_in code) so ∙ ap (λ (c : ℕ). (out ++ shares_at codes place n) ++ share_in c) is ∙ append_assoc out (shares_at codes place n) (share_in (f n)) ∙ ap (λ (xs : List ℕ). out ++ xs) (sym one) ∙ rw add-one refl

-- none
pub shares-none : (codes : List ℕ) (place : ℕ) (out : List ℕ) → out ≡ out ++ shares_at codes place 0
unfolding listed
shares-none codes place out = sym (append-nil out)
