-- Lists of numbers in lexicographic order: strictly ascending lists of them, and how one more goes in.
use Rattle.std.proofs.Common.{◌≡◌, ◌⊎◌, inl, inr, ℕ, ◌<◌, List, [], ◌∷◌, length, refl, sym, ap, ◌∙◌, subst, arith}
use Rattle.std.specs.List.{fold}
use Rattle.std.specs.Ordering.{nat_cmp, ordering_reverse}
use Rattle.std.specs.Cmp.{tied_itself}
use Rattle.std.specs.Cmp.Lexicographic.{slice_cmp, nat_list_cmp_total}
use Rattle.std.specs.FinMap.{nat_cmp-IsAntisymmetric, slice_cmp-IsAntisymmetric}
use Rattle.std.specs.declared.cmp.Ordering.{Ordering}
use Rattle.std.specs.declared.cmp.Ordering.TheVariants.{Less, Equal, Greater}
use Rattle.bundle_core.specs.Costs.{with_consumers, with_list, with_list_by}

abbrev pub compared : List ℕ → List ℕ → Ordering
compared = slice_cmp nat_cmp

pub same-of : (x y : List ℕ) → compared x y ≡ Equal → x ≡ y
same-of x y e = slice_cmp-IsAntisymmetric nat_cmp-IsAntisymmetric x y e

pub not_below : (x : List ℕ) → compared x x ≡ Less → ⊥
not_below x e = let tied = tied_itself nat_list_cmp_total x in absurd (cc)

pub turned : (x y : List ℕ) → compared x y ≡ Greater → compared y x ≡ Less
turned x y e = nat_list_cmp_total.antisymm y x ∙ ap ordering_reverse e

-- the list is one of these
abbrev pub In : List ℕ → List (List ℕ) → Type 0
In l [] = ⊥
In l (m ∷ ms) = (l ≡ m) ⊎ In l ms

-- it is below the first of these
abbrev pub IsBefore : List ℕ → List (List ℕ) → Type 0
IsBefore x [] = Unit {0}
IsBefore x (m ∷ ms) = compared x m ≡ Less

abbrev pub Rising : List (List ℕ) → Type 0
Rising [] = Unit {0}
Rising (m ∷ ms) = IsBefore m ms × Rising ms

pub below-all : (x : List ℕ) (ls : List (List ℕ)) (l : List ℕ) → IsBefore x ls → Rising ls → In l ls → compared x l ≡ Less
below-all x [] l f r i = absurd i
below-all x (m ∷ ms) l f r i = elim i [
  | inl e ↦ subst (λ (k : List ℕ). compared x k ≡ Less) (sym e) f
  | inr j ↦ nat_list_cmp_total.trans x m l f (below-all m ms l r.0 r.1 j)
]

-- what is in the one and not first is in the other's rest
rest-of : (x : List ℕ) (xs ys : List (List ℕ)) → IsBefore x xs → Rising xs → ((l : List ℕ) → In l (x ∷ xs) → In l (x ∷ ys)) → (l : List ℕ) → In l xs → In l ys
rest-of x xs ys f r give l i = elim (give l (inr i)) [
  | inl e ↦ absurd (not_below x (subst (λ (k : List ℕ). compared x k ≡ Less) e (below-all x xs l f r i)))
  | inr j ↦ j
]

first-of : (x y : List ℕ) (xs ys : List (List ℕ)) → Rising (x ∷ xs) → Rising (y ∷ ys) → In x (y ∷ ys) → In y (x ∷ xs) → x ≡ y
first-of x y xs ys r s i j = elim i [
  | inl e ↦ e
  | inr k ↦ elim j [
    | inl e ↦ sym e
    | inr h ↦ absurd (not_below x (nat_list_cmp_total.trans x y x (below-all x xs y r.0 r.1 h) (below-all y ys x s.0 s.1 k)))
  ]
]

-- two ascending lists of the same members are equal
pub rising-same : (xs ys : List (List ℕ)) → Rising xs → Rising ys → ((l : List ℕ) → In l xs → In l ys) → ((l : List ℕ) → In l ys → In l xs) → xs ≡ ys
rising-same [] [] r s give back = refl
rising-same [] (y ∷ ys) r s give back = absurd (back y (inl refl))
rising-same (x ∷ xs) [] r s give back = absurd (give x (inl refl))
rising-same (x ∷ xs) (y ∷ ys) r s give back =
    let first : x ≡ y = first-of x y xs ys r s (give x (inl refl)) (back y (inl refl)) in
    let give' : (l : List ℕ) → In l (x ∷ xs) → In l (x ∷ ys) = λ l i. subst (λ (z : List ℕ). In l (z ∷ ys)) (sym first) (give l i) in
    let back' : (l : List ℕ) → In l (y ∷ ys) → In l (y ∷ xs) = λ l i. subst (λ (z : List ℕ). In l (z ∷ xs)) first (back l i) in
    let rest : xs ≡ ys = rising-same xs ys r.1 s.1 (rest-of x xs ys r.0 r.1 give') (rest-of y ys xs s.0 s.1 back') in
    rw (first, rest) refl

-- ---- one list more

pub with-in : (l : List ℕ) (ls : List (List ℕ)) (m : List ℕ) → In m (with_list l ls) → (m ≡ l) ⊎ In m ls
with-in l [] m i = i
with-in l (n ∷ ls) m i = by (compared l n) (λ j. with-in l ls m j) i
  where
    by : (o : Ordering) → (In m (with_list l ls) → (m ≡ l) ⊎ In m ls) → In m (with_list_by o l n ls (with_list l ls)) → (m ≡ l) ⊎ In m (n ∷ ls)
    by Less rec j = j
    by Equal rec j = inr j
    by Greater rec j = elim j [ inl e ↦ inr (inl e) | inr k ↦ elim (rec k) [ inl e ↦ inl e | inr h ↦ inr (inr h) ] ]

pub with-old : (l : List ℕ) (ls : List (List ℕ)) (m : List ℕ) → In m ls → In m (with_list l ls)
with-old l [] m i = absurd i
with-old l (n ∷ ls) m i = by (compared l n) (λ j. with-old l ls m j) i
  where
    by : (o : Ordering) → (In m ls → In m (with_list l ls)) → In m (n ∷ ls) → In m (with_list_by o l n ls (with_list l ls))
    by Less rec j = inr j
    by Equal rec j = j
    by Greater rec j = elim j [ inl e ↦ inl e | inr k ↦ inr (rec k) ]

pub with-new : (l : List ℕ) (ls : List (List ℕ)) → In l (with_list l ls)
with-new l [] = inl refl
with-new l (n ∷ ls) = by (compared l n) refl (with-new l ls)
  where
    by : (o : Ordering) → compared l n ≡ o → In l (with_list l ls) → In l (with_list_by o l n ls (with_list l ls))
    by Less e rec = inl refl
    by Equal e rec = inl (same-of l n e)
    by Greater e rec = inr rec

before-with : (x l : List ℕ) (ls : List (List ℕ)) → IsBefore x ls → compared x l ≡ Less → IsBefore x (with_list l ls)
before-with x l [] f e = e
before-with x l (n ∷ ls) f e = by (compared l n)
  where
    by : (o : Ordering) → IsBefore x (with_list_by o l n ls (with_list l ls))
    by Less = e
    by Equal = f
    by Greater = f

pub with-rising : (l : List ℕ) (ls : List (List ℕ)) → Rising ls → Rising (with_list l ls)
with-rising l [] r = (tt, tt)
with-rising l (n ∷ ls) r = by (compared l n) refl (with-rising l ls r.1)
  where
    by : (o : Ordering) → compared l n ≡ o → Rising (with_list l ls) → Rising (with_list_by o l n ls (with_list l ls))
    by Less e rec = (e, r)
    by Equal e rec = r
    by Greater e rec = (before-with n l ls r.0 (turned l n e), rec)

-- ---- many lists more

consumers-rising : (l : List ℕ) (acc : List (List ℕ)) → Rising acc → Rising (with_consumers acc l)
consumers-rising [] acc r = r
consumers-rising (m ∷ ms) acc r = with-rising (m ∷ ms) acc r

pub folded-rising : (acc ls : List (List ℕ)) → Rising acc → Rising (fold with_consumers acc ls)
folded-rising acc [] r = r
folded-rising acc (l ∷ ls) r = folded-rising (with_consumers acc l) ls (consumers-rising l acc r)

consumers-old : (l : List ℕ) (acc : List (List ℕ)) (m : List ℕ) → In m acc → In m (with_consumers acc l)
consumers-old [] acc m i = i
consumers-old (x ∷ xs) acc m i = with-old (x ∷ xs) acc m i

pub folded-old : (acc ls : List (List ℕ)) (m : List ℕ) → In m acc → In m (fold with_consumers acc ls)
folded-old acc [] m i = i
folded-old acc (l ∷ ls) m i = folded-old (with_consumers acc l) ls m (consumers-old l acc m i)

consumers-new : (l : List ℕ) (acc : List (List ℕ)) → 0 < length l → In l (with_consumers acc l)
consumers-new [] acc h = absurd (omega arith)
consumers-new (x ∷ xs) acc h = with-new (x ∷ xs) acc

pub folded-new : (acc ls : List (List ℕ)) (m : List ℕ) → 0 < length m → In m ls → In m (fold with_consumers acc ls)
folded-new acc [] m h i = absurd i
folded-new acc (l ∷ ls) m h i = elim i [
  | inl e ↦ folded-old (with_consumers acc l) ls m (subst (λ (k : List ℕ). In m (with_consumers acc k)) e (consumers-new m acc h))
  | inr j ↦ folded-new (with_consumers acc l) ls m h j
]

consumers-in : (l : List ℕ) (acc : List (List ℕ)) (m : List ℕ) → In m (with_consumers acc l) → In m acc ⊎ ((m ≡ l) × (0 < length m))
consumers-in [] acc m i = inl i
consumers-in (x ∷ xs) acc m i = elim (with-in (x ∷ xs) acc m i) [
  | inl e ↦ inr (e, omega (arith, ap length e))
  | inr j ↦ inl j
]

pub folded-in : (acc ls : List (List ℕ)) (m : List ℕ) → In m (fold with_consumers acc ls) → In m acc ⊎ (In m ls × (0 < length m))
folded-in acc [] m i = inl i
folded-in acc (l ∷ ls) m i = elim (folded-in (with_consumers acc l) ls m i) [
  | inl j ↦ elim (consumers-in l acc m j) [ inl k ↦ inl k | inr p ↦ inr (inl p.0, p.1) ]
  | inr p ↦ inr (inr p.0, p.1)
]
