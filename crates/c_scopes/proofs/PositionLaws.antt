-- Where a list has an element that passes a test.
use Rattle.std.proofs.Common.{◌≡◌, ℕ, zero, suc, ◌+◌, ◌<◌, Bool, true, false, cond, Option, None, Some, List, [], ◌∷◌, ◌||◌, map, position, get_or, length, refl, sym, ap, ◌∙◌, arith}
use Rattle.std.specs.List.{position_from, list_any}
use Rattle.std.proofs.lemmas.Iterator.Adapters.{position_from-zero}

from_map : {A B : Type 0} (p : B → Bool) (f : A → B) (i : ℕ) (xs : List A) → position_from p i (map f xs) ≡ position_from (λ x. p (f x)) i xs
from_map p f i [] = refl
from_map p f i (x ∷ xs) = ap (λ (rest : Option ℕ). cond (p (f x)) (Some i) rest) (from_map p f (i + 1) xs)

pub position-map : {A B : Type 0} (p : B → Bool) (f : A → B) (xs : List A) → position (λ x. p (f x)) xs ≡ position p (map f xs)
position-map p f xs = position_from-zero (λ x. p (f x)) xs ∙ sym (from_map p f 0 xs) ∙ sym (position_from-zero p (map f xs))

none_first : (b : Bool) (i : ℕ) (rest : Option ℕ) → cond b (Some i) rest ≡ None → (b ≡ false) × (rest ≡ None)
none_first true i rest h = absurd (cc)
none_first false i rest h = (refl, h)

fails_from : {X : Type 0} (p : X → Bool) (i : ℕ) (xs : List X) (k : ℕ) (d : X) → position_from p i xs ≡ None → k < length xs → p (get_or xs k d) ≡ false
fails_from p i [] k d none within = absurd (omega (arith, within))
fails_from p i (x ∷ xs) zero d none within = (none_first (p x) i (position_from p (i + 1) xs) none).0
fails_from p i (x ∷ xs) (suc k) d none within =
    fails_from p (i + 1) xs k d (none_first (p x) i (position_from p (i + 1) xs) none).1 (omega (arith, within))

pub fails-position : {X : Type 0} (p : X → Bool) (xs : List X) (k : ℕ) (d : X) → position p xs ≡ None → k < length xs → p (get_or xs k d) ≡ false
fails-position p xs k d none within = fails_from p 0 xs k d (sym (position_from-zero p xs) ∙ none) within

none_from : {X : Type 0} (p : X → Bool) (i : ℕ) (xs : List X) → position_from p i xs ≡ None → list_any p xs ≡ false
none_from p i [] none = refl
none_from p i (x ∷ xs) none =
    let first = none_first (p x) i (position_from p (i + 1) xs) none in
    ap (λ (b : Bool). b || list_any p xs) first.0 ∙ none_from p (i + 1) xs first.1

pub none-position : {X : Type 0} (p : X → Bool) (xs : List X) → position p xs ≡ None → list_any p xs ≡ false
none-position p xs none = none_from p 0 xs (sym (position_from-zero p xs) ∙ none)
