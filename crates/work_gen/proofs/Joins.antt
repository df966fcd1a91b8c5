-- Joined texts that grow by one.
use Rattle.std.proofs.Common.{◌≡◌, ◌∙◌, ◌+◌, ℕ, suc, zero, refl, sym, ap, List, [], ◌∷◌, ◌++◌, map, append_assoc, add-zero, arith}
use Rattle.std.specs.List.{join_with_byte, range_with_len}
use Rattle.std.proofs.lemmas.List.{map_push}

-- one more item after a first one
join-push : (c : ℕ) (x : List ℕ) (xs : List (List ℕ)) (y : List ℕ)
    → join_with_byte c ((x ∷ xs) ++ y ∷ []) ≡ join_with_byte c (x ∷ xs) ++ (c ∷ y)
join-push c x [] y = refl
join-push c x (z ∷ xs) y = ap (λ rest. x ++ (c ∷ rest)) (join-push c z xs y) ∙ sym (append_assoc x (c ∷ join_with_byte c (z ∷ xs)) (c ∷ y))

-- one number more
range-push : (a n : ℕ) → range_with_len a (suc n) ≡ range_with_len a n ++ (a + n) ∷ []
range-push a zero = ap (λ (x : ℕ). x ∷ []) (sym (add-zero a))
range-push a (suc n) =
    let same : (a + 1) + n ≡ a + suc n = omega arith in
    ap (λ (xs : List ℕ). a ∷ xs) (range-push (a + 1) n ∙ ap (λ (x : ℕ). range_with_len (a + 1) n ++ x ∷ []) same)

-- joined items of the numbers below i, and the next one
pub join-next : (c : ℕ) (f : ℕ → List ℕ) (i : ℕ)
    → join_with_byte c (map f (range_with_len 0 (suc (suc i)))) ≡ join_with_byte c (map f (range_with_len 0 (suc i))) ++ (c ∷ f (suc i))
join-next c f i =
    let same : 0 + suc i ≡ suc i = omega arith in
    ap (λ (ns : List ℕ). join_with_byte c (map f ns)) (range-push 0 (suc i) ∙ ap (λ (x : ℕ). range_with_len 0 (suc i) ++ x ∷ []) same)
    ∙ ap (join_with_byte c) (map_push f (range_with_len 0 (suc i)) (suc i))
    ∙ join-push c (f 0) (map f (range_with_len 1 i)) (f (suc i))
