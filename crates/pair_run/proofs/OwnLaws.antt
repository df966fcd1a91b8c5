-- One party's words among all, place by place.
use Rattle.std.proofs.Common.{◌≡◌, ℕ, zero, suc, ◌+◌, ◌<◌, min, Bool, true, false, if◌then◌else◌, List, [], ◌∷◌, ◌++◌, length, take, get_or, refl, sym, ap, ◌∙◌, arith, add-one}
use Rattle.hy_bits.specs.declared.turns.Role.{Role}
use Rattle.hy_bits.specs.Ports.{is_of, own_of}

abbrev with_word : Bool → ℕ → List ℕ → List ℕ
with_word b word own = if b then own ++ word ∷ [] else own

step : (role : Role) (owners : List Role) (words : List ℕ) (k : ℕ) (d : Role) → k < length owners → k < length words →
    own_of role (take (suc k) owners) (take (suc k) words) ≡ with_word (is_of role (get_or owners k d)) (get_or words k 0) (own_of role (take k owners) (take k words))
step role [] words k d lt less = absurd (omega arith)
step role (o ∷ owners) [] k d lt less = absurd (omega arith)
step role (o ∷ owners) (w ∷ words) zero d lt less = by (is_of role o)
  where
    by : (b : Bool) → (if b then w ∷ [] else []) ≡ with_word b w []
    by true = refl
    by false = refl
step role (o ∷ owners) (w ∷ words) (suc k) d lt less =
    ap (λ (xs : List ℕ). if is_of role o then w ∷ xs else xs) (step role owners words k d (omega arith) (omega arith))
    ∙ by (is_of role o) (is_of role (get_or owners k d)) (own_of role (take k owners) (take k words))
  where
    by : (a b : Bool) (xs : List ℕ) → (if a then w ∷ with_word b (get_or words k 0) xs else with_word b (get_or words k 0) xs) ≡ with_word b (get_or words k 0) (if a then w ∷ xs else xs)
    by true true xs = refl
    by true false xs = refl
    by false true xs = refl
    by false false xs = refl

pub own_more : (role : Role) (owners : List Role) (words own next : List ℕ) (k : ℕ) (d : Role) → k < length owners → k < length words → own ≡ own_of role (take k owners) (take k words) →
    next ≡ (if is_of role (get_or owners k d) then own ++ get_or words k 0 ∷ [] else own) → next ≡ own_of role (take (k + 1) owners) (take (k + 1) words)
own_more role owners words own next k d lt less so is =
    is ∙ ap (λ (xs : List ℕ). with_word (is_of role (get_or owners k d)) (get_or words k 0) xs) so ∙ sym (step role owners words k d lt less)
    ∙ ap (λ (n : ℕ). own_of role (take n owners) (take n words)) (sym (add-one k))

pub own_whole : (role : Role) (owners : List Role) (words : List ℕ) (n : ℕ) → n ≡ min (length owners) (length words) → own_of role (take n owners) (take n words) ≡ own_of role owners words
own_whole role [] words zero is = refl
own_whole role [] words (suc n) is = refl
own_whole role (o ∷ owners) [] zero is = refl
own_whole role (o ∷ owners) [] (suc n) is = refl
own_whole role (o ∷ owners) (w ∷ words) zero is = absurd (omega arith)
own_whole role (o ∷ owners) (w ∷ words) (suc n) is =
    ap (λ (xs : List ℕ). if is_of role o then w ∷ xs else xs) (own_whole role owners words n (omega arith))
