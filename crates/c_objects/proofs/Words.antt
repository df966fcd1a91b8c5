-- The words of objects of file scope, one after another.
use Rattle.std.proofs.Common.{◌≡◌, ℕ, zero, suc, ◌+◌, ◌<◌, ◌≤◌, List, [], ◌∷◌, ◌++◌, append_assoc, map, drop, get_or, length, replicate, ap, sym, ◌∙◌, refl, arith}
use Rattle.std.proofs.lemmas.List.{drop_more, drop_all, append-nil}
use Rattle.c_meaning.specs.declared.statements.Part.{Part}
use Rattle.c_objects.specs.Objects.{static_word}

replicate_push : {A : Type 0} (n : ℕ) (x : A) → replicate n x ++ x ∷ [] ≡ replicate (suc n) x
replicate_push zero x = refl
replicate_push (suc n) x = ap (λ (rest : List _). x ∷ rest) (replicate_push n x)

pub one_more : {A : Type 0} (n : ℕ) (x : A) → replicate n x ++ x ∷ [] ≡ replicate (n + 1) x
one_more n x =
    let next : suc n ≡ n + 1 = omega arith in
    replicate_push n x ∙ ap (λ (m : ℕ). replicate m x) next

pub one_more_word : (before : List ℕ) (parts : List Part) (i : ℕ) (part : Part) → i < length parts → part ≡ get_or parts i part
    → (before ++ static_word part ∷ []) ++ map static_word (drop (i + 1) parts) ≡ before ++ map static_word (drop i parts)
one_more_word before parts i part within is =
    append_assoc before (static_word part ∷ []) (map static_word (drop (i + 1) parts))
    ∙ ap (λ (p : Part). before ++ (static_word p ∷ map static_word (drop (i + 1) parts))) is
    ∙ ap (λ (left : List Part). before ++ map static_word left) (sym (drop_more parts i part within))

pub no_more_words : (before : List ℕ) (parts : List Part) (i : ℕ) → length parts ≤ i → before ++ map static_word (drop i parts) ≡ before
no_more_words before parts i h = ap (λ (left : List Part). before ++ map static_word left) (drop_all i parts h) ∙ append-nil before
