-- Which modules use each node, found module by module.
use Rattle.std.proofs.Common.{◌≡◌, ◌≢◌, ◌⊎◌, inl, inr, ℕ, zero, suc, ◌+◌, ◌<◌, Bool, true, false, ◌||◌, cond, eqb, List, [], ◌∷◌, ◌++◌, Option, Some, filter, get_or, length, replicate, slice_get, slice_set, take, refl, sym, ap, ◌∙◌, subst, arith}
use Rattle.std.specs.List.{list_any}
use Rattle.std.proofs.lemmas.List.{take_more, get_or_default, get_or-set_other, get_or-set_same, get_or-take, length-take-le}
use Rattle.std.proofs.lemmas.Option.{slice_get-get_or}
use Rattle.module_split.specs.declared.module.Module.{Module}
use Rattle.module_split.specs.Cut.{below}
use Rattle.module_split.specs.Steps.{IsDistinct}
use Rattle.module_split.proofs.UseLaws.{filter_below-more}
use Rattle.bundle_core.specs.Costs.{uses}
use Rattle.bundle_core.specs.Fans.{AreUsers, AreUsersOf, list_at}

either : (a b : ℕ) → (a ≡ b) ⊎ (a ≢ b)
either a b = by (eqb a b) refl
  where
    by : (t : Bool) → eqb a b ≡ t → (a ≡ b) ⊎ (a ≢ b)
    by true e = inl (grind arith)
    by false e = inr (λ p. absurd (grind arith))

itself : (a : ℕ) → eqb a a ≡ true
itself a = grind arith

others : (a b : ℕ) → a ≢ b → eqb a b ≡ false
others a b h = grind arith

any-push : (p : ℕ → Bool) (xs : List ℕ) (x : ℕ) → list_any p (xs ++ x ∷ []) ≡ (list_any p xs || p x)
any-push p [] x = by (p x)
  where
    by : (b : Bool) → (b || false) ≡ b
    by true = refl
    by false = refl
any-push p (y ∷ xs) x = by (p y) (any-push p xs x)
  where
    by : (b : Bool) → list_any p (xs ++ x ∷ []) ≡ (list_any p xs || p x) → (b || list_any p (xs ++ x ∷ [])) ≡ ((b || list_any p xs) || p x)
    by true e = refl
    by false e = e

any-none : (xs : List ℕ) (k : ℕ) → ((j : ℕ) → j < length xs → get_or xs j 0 ≢ k) → list_any (λ used. eqb used k) xs ≡ false
any-none [] k h = refl
any-none (x ∷ xs) k h = ap (λ b. b || list_any (λ used. eqb used k) xs) (others x k (h 0 (omega arith))) ∙ any-none xs k (λ j l. h (suc j) (omega arith))

or-false : (b : Bool) → (b || false) ≡ b
or-false true = refl
or-false false = refl

nothing-more : (xs : List ℕ) → xs ++ [] ≡ xs
nothing-more [] = refl
nothing-more (x ∷ xs) = ap (λ (ys : List ℕ). x ∷ ys) (nothing-more xs)

-- one place more
pub user-more : (old lists lists' : List (List ℕ)) (places : List ℕ) (i d number : ℕ) → IsDistinct places → i < length places → get_or places i d < length lists →
    ((k : ℕ) → list_at lists k ≡ list_at old k ++ cond (list_any (λ used. eqb used k) (take i places)) (number ∷ []) []) →
    lists' ≡ slice_set lists (get_or places i d) (list_at lists (get_or places i d) ++ number ∷ []) →
    (k : ℕ) → list_at lists' k ≡ list_at old k ++ cond (list_any (λ used. eqb used k) (take (i + 1) places)) (number ∷ []) []
user-more old lists lists' places i d number distinct h low before after k = elim (either (get_or places i d) k) [
  | inl here ↦
      let fresh : list_any (λ used. eqb used k) (take i places) ≡ false =
      any-none (take i places) k (λ j l e. distinct j i (omega (arith, l, length-take-le i places (omega arith))) h (sym (get_or-take i places j 0 (omega (arith, l, length-take-le i places (omega arith)))) ∙ e ∙ sym here ∙ get_or_default places i d 0 h)) in
      let found : list_any (λ used. eqb used k) (take (i + 1) places) ≡ true =
      ap (list_any (λ used. eqb used k)) (take_more places i d h) ∙ any-push (λ used. eqb used k) (take i places) (get_or places i d) ∙ ap (λ b. b || eqb (get_or places i d) k) fresh ∙ ap (λ a. eqb a k) here ∙ itself k in
      let was : list_at lists k ≡ list_at old k = before k ∙ ap (λ b. list_at old k ++ cond b (number ∷ []) []) fresh ∙ nothing-more (list_at old k) in
      let there : list_at lists' (get_or places i d) ≡ list_at lists (get_or places i d) ++ number ∷ [] = ap (λ (ls : List (List ℕ)). list_at ls (get_or places i d)) after ∙ get_or-set_same lists (get_or places i d) (list_at lists (get_or places i d) ++ number ∷ []) [] low in
      subst (λ (a : ℕ). list_at lists' a ≡ list_at lists a ++ number ∷ []) here there ∙ ap (λ (xs : List ℕ). xs ++ number ∷ []) was ∙ ap (λ b. list_at old k ++ cond b (number ∷ []) []) (sym found)
  | inr apart ↦
      let same : list_any (λ used. eqb used k) (take (i + 1) places) ≡ list_any (λ used. eqb used k) (take i places) =
      ap (list_any (λ used. eqb used k)) (take_more places i d h) ∙ any-push (λ used. eqb used k) (take i places) (get_or places i d) ∙ ap (λ b. list_any (λ used. eqb used k) (take i places) || b) (others (get_or places i d) k apart) ∙ or-false (list_any (λ used. eqb used k) (take i places)) in
      ap (λ (ls : List (List ℕ)). list_at ls k) after ∙ get_or-set_other lists (get_or places i d) k (list_at lists (get_or places i d) ++ number ∷ []) [] (λ e. apart (sym e)) ∙ before k ∙ ap (λ b. list_at old k ++ cond b (number ∷ []) []) (sym same)
]

replicate-at : (count k : ℕ) → list_at (replicate count []) k ≡ []
replicate-at zero k = refl
replicate-at (suc count) zero = refl
replicate-at (suc count) (suc k) = replicate-at count k

pub users-none : (list : List Module) (count : ℕ) (lists : List (List ℕ)) → lists ≡ replicate count [] → AreUsersOf list 0 (length lists) lists
users-none list count lists e = record {
  size = refl;
  each = λ k h. ap (λ (ls : List (List ℕ)). list_at ls k) e ∙ replicate-at count k;
}

-- one module more
pub users-more : (list : List Module) (i count : ℕ) (part : Module) (lists lists' : List (List ℕ)) → i < length list → part ≡ get_or list i part → AreUsersOf list i count lists → length lists' ≡ length lists →
    ((k : ℕ) → list_at lists' k ≡ list_at lists k ++ cond (list_any (λ used. eqb used k) part.ins) (i ∷ []) []) → AreUsersOf list (i + 1) count lists'
users-more list i count part lists lists' h is before size each = record {
  size = size ∙ before.size;
  each = λ k l.
      let entry : slice_get list i ≡ Some part = slice_get-get_or list i part h ∙ ap (λ (m : Module). Some m) (sym is) in
      let used : uses (slice_get list i) k ≡ list_any (λ used. eqb used k) part.ins = ap (λ (o : Option Module). uses o k) entry in
      each k ∙ ap (λ (xs : List ℕ). xs ++ cond (list_any (λ used. eqb used k) part.ins) (i ∷ []) []) (before.each k l)
      ∙ ap (λ b. filter (λ m. uses (slice_get list m) k) (below i) ++ cond b (i ∷ []) []) (sym used)
      ∙ sym (filter_below-more (λ m. uses (slice_get list m) k) i);
}

pub users-all : (list : List Module) (i count : ℕ) (lists : List (List ℕ)) → i ≡ length list → AreUsersOf list i count lists → AreUsers list count lists
users-all list i count lists e all = record {
  size = all.size;
  each = λ k h. all.each k h ∙ ap (λ (n : ℕ). filter (λ m. uses (slice_get list m) k) (below n)) e;
}
