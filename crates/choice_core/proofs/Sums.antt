-- Sums over fans, least numbers, and rows with their choices.
use Rattle.std.proofs.Common.{◌≡◌, ℕ, ◌+◌, ◌≤◌, min, List, [], ◌∷◌, ◌++◌, length, drop, Option, Some, None, sym, ◌∙◌, ap, refl, inl, inr, ◌⊎◌, arith}
use Rattle.std.specs.List.{sum_by, All}
use Rattle.std.proofs.lemmas.List.Sums.{sum_by-cons}
use Rattle.std.proofs.lemmas.List.Elements.{All-head, All-tail}
use Rattle.choice_core.specs.declared.sharings.Choice.{Choice}
use Rattle.choice_core.specs.declared.sharings.Choice.TheVariants.{A, Y, C, S}
use Rattle.choice_core.specs.Problems.{Row, own_sum, Fits}
use Rattle.choice_core.specs.Bound.{lesser, least}

pub sum_add : {X : Type 0} (f g : X → ℕ) (xs : List X) → sum_by (λ x. f x + g x) xs ≡ sum_by f xs + sum_by g xs
sum_add f g [] = refl
sum_add f g (x ∷ xs) = rw (sum_by-cons (λ y. f y + g y) x xs, sum_by-cons f x xs, sum_by-cons g x xs) (let rest = sum_add f g xs in omega arith)

pub sum_le : {X : Type 0} (P : X → Type 0) (f g : X → ℕ) (xs : List X) → All P xs → ((x : X) → P x → f x ≤ g x) → sum_by f xs ≤ sum_by g xs
sum_le P f g [] all le = omega arith
sum_le P f g (x ∷ xs) all le =
    rw (sum_by-cons f x xs, sum_by-cons g x xs) (let rest = sum_le P f g xs (All-tail P x xs all) le in let first = le x (All-head P x xs all) in omega arith)

pub sum_zero : {X : Type 0} (P : X → Type 0) (f : X → ℕ) (xs : List X) → All P xs → ((x : X) → P x → f x ≡ 0) → sum_by f xs ≡ 0
sum_zero P f [] all none = refl
sum_zero P f (x ∷ xs) all none =
    rw (sum_by-cons f x xs) (let rest = sum_zero P f xs (All-tail P x xs all) none in let first = none x (All-head P x xs all) in omega arith)

lesser_left : (a b : Option ℕ) (n : ℕ) → a ≡ Some n → (m : ℕ) × (lesser a b ≡ Some m) × (m ≤ n)
unfolding lesser
lesser_left None b n is = absurd (cc)
lesser_left (Some a) None n is = (a, refl, let same : a ≡ n = cc in omega arith)
lesser_left (Some a) (Some b) n is = (min a b, refl, let same : a ≡ n = cc in omega arith)

lesser_right : (a b : Option ℕ) (n : ℕ) → b ≡ Some n → (m : ℕ) × (lesser a b ≡ Some m) × (m ≤ n)
unfolding lesser
lesser_right None b n is = (n, is, omega arith)
lesser_right (Some a) None n is = absurd (cc)
lesser_right (Some a) (Some b) n is = (min a b, refl, let same : b ≡ n = cc in omega arith)

lesser_from : (a b : Option ℕ) (n : ℕ) → lesser a b ≡ Some n → (a ≡ Some n) ⊎ (b ≡ Some n)
unfolding lesser
lesser_from None b n is = inr is
lesser_from (Some a) None n is = inl is
lesser_from (Some a) (Some b) n is = elim (min_cases a b) [ inl e ↦ inl (ap Some (sym e) ∙ is) | inr e ↦ inr (ap Some (sym e) ∙ is) ]
  where
    min_cases : (a b : ℕ) → (min a b ≡ a) ⊎ (min a b ≡ b)
    min_cases a b = grind arith

-- the least is at most what any choice gives
pub least_le : (f : Choice → Option ℕ) (c : Choice) (n : ℕ) → f c ≡ Some n → (m : ℕ) × (least f ≡ Some m) × (m ≤ n)
least_le f A n is =
    let one = lesser_left (f A) (f Y) n is in
    let two = lesser_left (lesser (f A) (f Y)) (f C) one.0 one.1 in
    let three = lesser_left (lesser (lesser (f A) (f Y)) (f C)) (f S) two.0 two.1 in
    (three.0, three.1, omega (arith, one.2, two.2, three.2))
least_le f Y n is =
    let one = lesser_right (f A) (f Y) n is in
    let two = lesser_left (lesser (f A) (f Y)) (f C) one.0 one.1 in
    let three = lesser_left (lesser (lesser (f A) (f Y)) (f C)) (f S) two.0 two.1 in
    (three.0, three.1, omega (arith, one.2, two.2, three.2))
least_le f C n is =
    let two = lesser_right (lesser (f A) (f Y)) (f C) n is in
    let three = lesser_left (lesser (lesser (f A) (f Y)) (f C)) (f S) two.0 two.1 in
    (three.0, three.1, omega (arith, two.2, three.2))
least_le f S n is = lesser_right (lesser (lesser (f A) (f Y)) (f C)) (f S) n is

-- and some choice gives it
pub least_from : (f : Choice → Option ℕ) (m : ℕ) → least f ≡ Some m → (c : Choice) × (f c ≡ Some m)
least_from f m is = elim (lesser_from (lesser (lesser (f A) (f Y)) (f C)) (f S) m is) [
  | inr e ↦ (S, e)
  | inl more ↦ elim (lesser_from (lesser (f A) (f Y)) (f C) m more) [
    | inr e ↦ (C, e)
    | inl less ↦ elim (lesser_from (f A) (f Y) m less) [ inr e ↦ (Y, e) | inl e ↦ (A, e) ]
  ]
]

pub own_sum-append : (rows : List Row) (cs ds : List Choice) → own_sum rows (cs ++ ds) ≡ own_sum rows cs + own_sum (drop (length cs) rows) ds
unfolding own_sum
own_sum-append [] [] ds = refl
own_sum-append [] (c ∷ cs) ds = refl
own_sum-append (row ∷ rows) [] ds = omega arith
own_sum-append (row ∷ rows) (c ∷ cs) ds = (let rest = own_sum-append rows cs ds in omega (arith, rest))

pub Fits-left : (rows : List Row) (cs ds : List Choice) → Fits rows (cs ++ ds) → Fits rows cs
unfolding Fits
Fits-left rows [] ds fits = tt
Fits-left [] (c ∷ cs) ds fits = fits
Fits-left (row ∷ rows) (c ∷ cs) ds fits = (fits.0, Fits-left rows cs ds fits.1)

pub Fits-right : (rows : List Row) (cs ds : List Choice) → Fits rows (cs ++ ds) → Fits (drop (length cs) rows) ds
unfolding Fits
Fits-right rows [] ds fits = fits
Fits-right [] (c ∷ cs) ds fits = absurd fits
Fits-right (row ∷ rows) (c ∷ cs) ds fits = Fits-right rows cs ds fits.1

pub Fits-append : (rows : List Row) (cs ds : List Choice) → Fits rows cs → Fits (drop (length cs) rows) ds → Fits rows (cs ++ ds)
unfolding Fits
Fits-append rows [] ds one two = two
Fits-append [] (c ∷ cs) ds one two = absurd one
Fits-append (row ∷ rows) (c ∷ cs) ds one two = (one.0, Fits-append rows cs ds one.1 two)

pub Fits-within : (rows : List Row) (cs : List Choice) → Fits rows cs → length cs ≤ length rows
unfolding Fits
Fits-within rows [] fits = omega arith
Fits-within [] (c ∷ cs) fits = absurd fits
Fits-within (row ∷ rows) (c ∷ cs) fits = let rest = Fits-within rows cs fits.1 in omega arith
