-- Lists: what a filter keeps, and how long a list without repetitions can be.
use Rattle.std.proofs.Common.{◌≡◌, ◌≢◌, ℕ, zero, suc, ◌+◌, ◌-◌, ◌<◌, ◌≤◌, Bool, true, false, cond, List, [], ◌∷◌, ◌++◌, length, take, map, get_or, sym, ◌∙◌, ap, inl, inr, arith, append_assoc}
use Rattle.std.specs.List.{All, AllPairs, Contains, filter, remove}
use Rattle.std.proofs.lemmas.Bool.{cases_lt, cases_eq}
use Rattle.std.proofs.lemmas.List.{get_or_default, map-append, take_more}
use Rattle.std.proofs.lemmas.List.Edits.{length-remove, get_or-remove_below, get_or-remove_above}
use Rattle.std.proofs.lemmas.List.Elements.{filter-append}

kept_more : {X : Type 0} (b : Bool) (y : X) (kept : List X) (x : X) → Contains kept x → Contains (cond b (y ∷ kept) kept) x
kept_more true y kept x (k, within, is) = (suc k, omega arith, is)
kept_more false y kept x there = there

-- what passes is kept
pub Contains-filter : {X : Type 0} (test : X → Bool) (xs : List X) (x : X) → Contains xs x → test x ≡ true → Contains (filter test xs) x
Contains-filter test [] x (k, within, is) passes = absurd (omega arith)
Contains-filter test (y ∷ ys) x (zero, within, is) passes = let test_is : test y ≡ true = ap test is ∙ passes in rw test_is (zero, omega arith, is)
Contains-filter test (y ∷ ys) x (suc k, within, is) passes = kept_more (test y) y (filter test ys) x (Contains-filter test ys x (k, omega arith, is) passes)

-- another element is still there when one was removed
contains_removed : {X : Type 0} (ys : List X) (k : ℕ) (x y : X) → k < length ys → get_or ys k x ≡ x → x ≢ y → Contains ys y → Contains (remove ys k) y
contains_removed ys k x y within is apart (j, inside, same) =
    let size = length-remove ys k within in
    elim (cases_lt j k) [
      | inl below ↦ (j, omega (arith, size), get_or-remove_below ys k y j below within ∙ same)
      | inr above ↦ elim (cases_eq j k) [
        | inl here ↦ absurd (apart (sym is ∙ get_or_default ys k x y within ∙ ap (λ (i : ℕ). get_or ys i y) (sym here) ∙ same))
        | inr other ↦ (
            let next : j - 1 + 1 ≡ j = omega (arith, above, other) in
            (j - 1, omega (arith, size, above, other), get_or-remove_above ys k y (j - 1) (omega (arith, above, other)) within ∙ ap (λ (i : ℕ). get_or ys i y) next ∙ same))
      ]
    ]

-- a list without repetitions is at most as long as one that has all its elements
pub differ_within : {X : Type 0} (xs ys : List X) → AllPairs (λ one two. one ≢ two) xs → All (Contains ys) xs → length xs ≤ length ys
differ_within [] ys differ all = omega arith
differ_within (x ∷ xs) ys differ all =
    let first = all 0 x (omega arith) in
    let size = length-remove ys first.0 first.1 in
    let rest = differ_within xs (remove ys first.0) (λ i j d before within. differ (suc i) (suc j) d (omega arith) (omega arith))
    (λ k d within. contains_removed ys first.0 x (get_or xs k d) first.1 first.2 (differ 0 (suc k) d (omega arith) (omega arith)) (all (suc k) d (omega arith))) in
    omega (arith, size, rest)

-- a loop that pushes f of each element that passes
pub push_kept : {X Y : Type 0} (f : X → Y) (test : X → Bool) (all : List X) (d : X) (i : ℕ) (base : List Y) → i < length all → (base ++ map f (filter test (take i all))) ++ map f (filter test (get_or all i d ∷ [])) ≡ base ++ map f (filter test (take (i + 1) all))
push_kept {Y = Y} f test all d i base within =
    append_assoc base (map f (filter test (take i all))) (map f (filter test (get_or all i d ∷ [])))
    ∙ ap (λ (zs : List Y). base ++ zs) (sym (map-append f (filter test (take i all)) (filter test (get_or all i d ∷ []))) ∙ ap (map f) (sym (filter-append test (take i all) (get_or all i d ∷ [])) ∙ ap (filter test) (sym (take_more all i d within))))
