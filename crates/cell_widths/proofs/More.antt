-- A list that is mapped one item after another.
use Rattle.std.proofs.Common.{◌≡◌, ℕ, ◌+◌, ◌<◌, ◌≤◌, List, [], ◌∷◌, ◌++◌, append_assoc, map, drop, get_or, length, ap, sym, ◌∙◌}
use Rattle.std.proofs.lemmas.List.{drop_more, drop_all, append-nil}

pub one_more : {A B : Type 0} (f : A → B) (before : List B) (xs : List A) (i : ℕ) (x : A) → i < length xs → x ≡ get_or xs i x
    → (before ++ f x ∷ []) ++ map f (drop (i + 1) xs) ≡ before ++ map f (drop i xs)
one_more f before xs i x within is =
    append_assoc before (f x ∷ []) (map f (drop (i + 1) xs))
    ∙ ap (λ (y : _). before ++ (f y ∷ map f (drop (i + 1) xs))) is
    ∙ ap (λ (left : List _). before ++ map f left) (sym (drop_more xs i x within))

pub no_more : {A B : Type 0} (f : A → B) (before : List B) (xs : List A) (i : ℕ) → length xs ≤ i → before ++ map f (drop i xs) ≡ before
no_more f before xs i h = ap (λ (left : List _). before ++ map f left) (drop_all i xs h) ∙ append-nil before
