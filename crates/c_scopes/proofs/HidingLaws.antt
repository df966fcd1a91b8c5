-- The latest declaration of a name, as declarations come and go.
use Rattle.std.proofs.Common.{◌≡◌, ◌≢◌, ℕ, zero, suc, ◌+◌, ◌<◌, ◌≤◌, ◌==◌, Bool, true, false, Option, None, Some, List, [], ◌∷◌, ◌++◌, map, take, set, get_or, slice_get, length, if◌then◌else◌, ◌⊎◌, inl, inr, refl, sym, ap, ◌∙◌, subst, arith, rules}
use Rattle.std.proofs.Math.Nat.{eq-or-lt_of_le}
use Rattle.std.proofs.Math.Seq.{take-length}
use Rattle.std.proofs.lemmas.Option.{slice_get_within, slice_get-get_or, same_Some}
use Rattle.std.proofs.lemmas.List.{get_or_append_left, get_or_push, get_or-set_same, get_or-set_other, length-append, length-map, length-set, map-append, take-append-le}
use Rattle.std.proofs.lemmas.Bool.{cases_eq}
use Rattle.std.proofs.lemmas.Bool.Decides.{nat_tests}
use Rattle.c_scopes.specs.Scopes.{or_else}
use Rattle.c_scopes.specs.declared.hiding.Declaration.{Declaration}
use Rattle.c_scopes.specs.Hiding.{latest, ids_of, IsHiding, Told, told}

or_else_assoc : (a b c : Option ℕ) → or_else (or_else a b) c ≡ or_else a (or_else b c)
or_else_assoc None b c = refl
or_else_assoc (Some n) b c = refl

abbrev where_is : Bool → ℕ → Option ℕ
where_is b at = if b then Some at else None

where_last : (b : Bool) (at : ℕ) → where_is b at ≡ or_else (where_is b (at + 0)) None
where_last true at = ap Some (omega arith)
where_last false at = refl

-- one more declaration
pub latest-push : (at : ℕ) (ids : List ℕ) (id other : ℕ) → latest at (ids ++ id ∷ []) other ≡ or_else (if id == other then Some (at + length ids) else None) (latest at ids other)
latest-push at [] id other = where_last (id == other) at
latest-push at (first ∷ rest) id other =
    ap (λ (found : Option ℕ). or_else found (where_is (first == other) at))
    (latest-push (at + 1) rest id other ∙ ap (λ (n : ℕ). or_else (where_is (id == other) n) (latest (at + 1) rest other)) (omega arith))
    ∙ or_else_assoc (where_is (id == other) (at + suc (length rest))) (latest (at + 1) rest other) (where_is (first == other) at)

pub latest-same : (ids : List ℕ) (id : ℕ) → latest 0 (ids ++ id ∷ []) id ≡ Some (length ids)
latest-same ids id =
    latest-push 0 ids id id ∙ ap (λ (b : Bool). or_else (where_is b (0 + length ids)) (latest 0 ids id)) (same id) ∙ ap Some (omega arith)
  where
    same : (n : ℕ) → (n == n) ≡ true
    same n = search rules

pub latest-other : (ids : List ℕ) (id other : ℕ) → id ≢ other → latest 0 (ids ++ id ∷ []) other ≡ latest 0 ids other
latest-other ids id other differ =
    latest-push 0 ids id other ∙ ap (λ (b : Bool). or_else (where_is b (0 + length ids)) (latest 0 ids other)) (unequal id other differ)
  where
    unequal : (n m : ℕ) → n ≢ m → (n == m) ≡ false
    unequal n m h = grind (arith, nat_tests, h)

-- a name without declarations
pub latest-none : (at : ℕ) (declarations : List Declaration) (id : ℕ) → ((j : ℕ) (d : Declaration) → slice_get declarations j ≡ Some d → d.id < id) → latest at (ids_of declarations) id ≡ None
latest-none at [] id within = refl
latest-none at (d ∷ ds) id within =
    ap (λ (found : Option ℕ). or_else found (where_is (d.id == id) at)) (latest-none (at + 1) ds id (λ j e h. within (suc j) e h))
    ∙ ap (λ (b : Bool). where_is b at) (below d.id id (within 0 d refl))
  where
    below : (n m : ℕ) → n < m → (n == m) ≡ false
    below n m h = grind (arith, nat_tests, h)

-- ---- elements of lists that grow

pub slice_get-before : {X : Type 0} (xs : List X) (y : X) (i : ℕ) → i < length xs → slice_get (xs ++ y ∷ []) i ≡ slice_get xs i
slice_get-before [] y i h = absurd (omega (arith, h))
slice_get-before (x ∷ xs) y zero h = refl
slice_get-before (x ∷ xs) y (suc i) h = slice_get-before xs y i (omega (arith, h))

pub slice_get-last : {X : Type 0} (xs : List X) (y : X) → slice_get (xs ++ y ∷ []) (length xs) ≡ Some y
slice_get-last [] y = refl
slice_get-last (x ∷ xs) y = slice_get-last xs y

pub get_or-any : {X : Type 0} (xs : List X) (i : ℕ) (d e : X) → i < length xs → get_or xs i d ≡ get_or xs i e
get_or-any xs i d e h = same_Some (get_or xs i d) (get_or xs i e) (sym (slice_get-get_or xs i d h) ∙ slice_get-get_or xs i e h)

-- ---- the invariant

ids-push : (declarations : List Declaration) (d : Declaration) → ids_of (declarations ++ d ∷ []) ≡ ids_of declarations ++ d.id ∷ []
ids-push declarations d = map-append (λ (x : Declaration). x.id) declarations (d ∷ [])

length-ids : (declarations : List Declaration) → length (ids_of declarations) ≡ length declarations
length-ids declarations = length-map declarations (λ (x : Declaration). x.id)

pub hiding-name : (tops : List (Option ℕ)) (declarations : List Declaration) → IsHiding tops declarations → IsHiding (tops ++ None ∷ []) declarations
hiding-name tops declarations h = record {
  latest_of = λ id within. by id (eq-or-lt_of_le (at_most id within));
  outer = h.outer;
  within = λ j d at. omega (arith, h.within j d at, length-append tops (None ∷ []));
}
  where
    at_most : (id : ℕ) → id < length (tops ++ None ∷ []) → id ≤ length tops
    at_most id within = omega (arith, within, length-append tops (None ∷ []))

    by : (id : ℕ) → (id ≡ length tops) ⊎ (id < length tops) → get_or (tops ++ None ∷ []) id None ≡ latest 0 (ids_of declarations) id
    by id (inl last) =
        get_or_push tops None None id (sym last)
        ∙ sym (latest-none 0 declarations id (λ j d at. omega (arith, h.within j d at, last)))
    by id (inr less) = get_or_append_left tops (None ∷ []) None id less ∙ h.latest_of id less

-- what holds of a declaration that stands before the last
outer_before : (declarations : List Declaration) (d : Declaration) (j : ℕ) (other : Declaration) → j ≤ length declarations
    → latest 0 (take j (ids_of (declarations ++ d ∷ []))) other.id ≡ latest 0 (take j (ids_of declarations)) other.id
outer_before declarations d j other within =
    ap (λ (ids : List ℕ). latest 0 (take j ids) other.id) (ids-push declarations d)
    ∙ ap (λ (ids : List ℕ). latest 0 ids other.id)
    (take-append-le j (ids_of declarations) (d.id ∷ []) (omega (arith, within, length-ids declarations)))

declared_last : (tops : List (Option ℕ)) (declarations : List Declaration) (d : Declaration) → IsHiding tops declarations → d.id < length tops → d.outer ≡ get_or tops d.id None
    → IsHiding (set tops d.id (Some (length declarations))) (declarations ++ d ∷ [])
declared_last tops declarations d h within outer = record {
  latest_of = λ id inside. by_name id (omega (arith, inside, length-set tops d.id (Some (length declarations)))) (cases_eq id d.id);
  outer = λ j other at. by_outer j other at (eq-or-lt_of_le (at_most j other at));
  within = λ j other at. omega (arith, by_within j other at (eq-or-lt_of_le (at_most j other at)), length-set tops d.id (Some (length declarations)));
}
  where
    at_most : (j : ℕ) (other : Declaration) → slice_get (declarations ++ d ∷ []) j ≡ Some other → j ≤ length declarations
    at_most j other at = omega (arith, slice_get_within (declarations ++ d ∷ []) j other at, length-append declarations (d ∷ []))

    is_last : (j : ℕ) (other : Declaration) → slice_get (declarations ++ d ∷ []) j ≡ Some other → j ≡ length declarations → other ≡ d
    is_last j other at last = same_Some other d (sym at ∙ ap (slice_get (declarations ++ d ∷ [])) last ∙ slice_get-last declarations d)

    by_name : (id : ℕ) → id < length tops → (id ≡ d.id) ⊎ (id ≡ d.id → ⊥) → get_or (set tops d.id (Some (length declarations))) id None ≡ latest 0 (ids_of (declarations ++ d ∷ [])) id
    by_name id inside (inl same) =
        ap (λ (k : ℕ). get_or (set tops d.id (Some (length declarations))) k None) same
        ∙ get_or-set_same tops d.id (Some (length declarations)) None within
        ∙ ap Some (sym (length-ids declarations))
        ∙ sym (latest-same (ids_of declarations) d.id)
        ∙ ap (λ (ids : List ℕ). latest 0 ids d.id) (sym (ids-push declarations d))
        ∙ ap (latest 0 (ids_of (declarations ++ d ∷ []))) (sym same)
    by_name id inside (inr differ) =
        get_or-set_other tops d.id id (Some (length declarations)) None differ
        ∙ h.latest_of id inside
        ∙ sym (latest-other (ids_of declarations) d.id id (λ e. differ (sym e)))
        ∙ ap (λ (ids : List ℕ). latest 0 ids id) (sym (ids-push declarations d))

    by_outer : (j : ℕ) (other : Declaration) → slice_get (declarations ++ d ∷ []) j ≡ Some other → (j ≡ length declarations) ⊎ (j < length declarations)
        → other.outer ≡ latest 0 (take j (ids_of (declarations ++ d ∷ []))) other.id
    by_outer j other at (inl last) =
        ap (λ (x : Declaration). x.outer) (is_last j other at last)
        ∙ outer ∙ h.latest_of d.id within
        ∙ ap (λ (ids : List ℕ). latest 0 ids d.id) (sym (take-length (ids_of declarations)) ∙ ap (λ (n : ℕ). take n (ids_of declarations)) (length-ids declarations ∙ sym last))
        ∙ ap (λ (k : ℕ). latest 0 (take j (ids_of declarations)) k) (ap (λ (x : Declaration). x.id) (sym (is_last j other at last)))
        ∙ sym (outer_before declarations d j other (omega (arith, last)))
    by_outer j other at (inr less) =
        h.outer j other (sym (slice_get-before declarations d j less) ∙ at) ∙ sym (outer_before declarations d j other (omega (arith, less)))

    by_within : (j : ℕ) (other : Declaration) → slice_get (declarations ++ d ∷ []) j ≡ Some other → (j ≡ length declarations) ⊎ (j < length declarations) → other.id < length tops
    by_within j other at (inl last) = subst (λ (x : Declaration). x.id < length tops) (sym (is_last j other at last)) within
    by_within j other at (inr less) = h.within j other (sym (slice_get-before declarations d j less) ∙ at)

pub hiding-declared : (tops : List (Option ℕ)) (declarations : List Declaration) (d : Declaration) (at : ℕ) → IsHiding tops declarations → at ≡ length declarations → d.id < length tops → d.outer ≡ get_or tops d.id None
    → IsHiding (set tops d.id (Some at)) (declarations ++ d ∷ [])
hiding-declared tops declarations d at h is within outer =
    subst (λ (n : ℕ). IsHiding (set tops d.id (Some n)) (declarations ++ d ∷ [])) (sym is) (declared_last tops declarations d h within outer)

pub hiding-undone : (tops : List (Option ℕ)) (declarations : List Declaration) (d : Declaration) → IsHiding tops (declarations ++ d ∷ []) → IsHiding (set tops d.id d.outer) declarations
hiding-undone tops declarations d h = record {
  latest_of = λ id inside. by_name id (omega (arith, inside, length-set tops d.id d.outer)) (cases_eq id d.id);
  outer = λ j other at. h.outer j other (slice_get-before declarations d j (there j other at) ∙ at) ∙ outer_before declarations d j other (omega (arith, there j other at));
  within = λ j other at. omega (arith, h.within j other (slice_get-before declarations d j (there j other at) ∙ at), length-set tops d.id d.outer);
}
  where
    there : (j : ℕ) (other : Declaration) → slice_get declarations j ≡ Some other → j < length declarations
    there j other at = slice_get_within declarations j other at

    last_outer : d.outer ≡ latest 0 (ids_of declarations) d.id
    last_outer =
        h.outer (length declarations) d (slice_get-last declarations d)
        ∙ outer_before declarations d (length declarations) d (omega arith)
        ∙ ap (λ (ids : List ℕ). latest 0 ids d.id) (ap (λ (n : ℕ). take n (ids_of declarations)) (sym (length-ids declarations)) ∙ take-length (ids_of declarations))

    by_name : (id : ℕ) → id < length tops → (id ≡ d.id) ⊎ (id ≡ d.id → ⊥) → get_or (set tops d.id d.outer) id None ≡ latest 0 (ids_of declarations) id
    by_name id inside (inl same) =
        ap (λ (k : ℕ). get_or (set tops d.id d.outer) k None) same
        ∙ get_or-set_same tops d.id d.outer None (subst (λ (k : ℕ). k < length tops) same inside)
        ∙ last_outer ∙ ap (latest 0 (ids_of declarations)) (sym same)
    by_name id inside (inr differ) =
        get_or-set_other tops d.id id d.outer None differ
        ∙ h.latest_of id inside
        ∙ ap (λ (ids : List ℕ). latest 0 ids id) (ids-push declarations d)
        ∙ latest-other (ids_of declarations) d.id id (λ e. differ (sym e))

-- ---- declarations as they are seen

pub told-ids : (declarations : List Declaration) → ids_of declarations ≡ map (λ (x : Told). x.id) (map told declarations)
told-ids [] = refl
told-ids (d ∷ ds) = ap (λ (ids : List ℕ). d.id ∷ ids) (told-ids ds)

pub told_at : (declarations : List Declaration) (at : ℕ) (d e : Declaration) → at < length (map told declarations) → d ≡ get_or declarations at e
    → (x : Told) × (slice_get (map told declarations) at ≡ Some x) × (d.number ≡ x.number)
told_at [] at d e within is = absurd (omega (arith, within))
told_at (first ∷ rest) zero d e within is = (told first, refl, ap (λ (x : Declaration). x.number) is)
told_at (first ∷ rest) (suc at) d e within is = told_at rest at d e (omega (arith, within)) is
