-- What names are bound to, by their numbers.
use Rattle.std.proofs.Common.{◌≡◌, ◌≢◌, ℕ, zero, suc, ◌+◌, ◌-◌, ◌<◌, ◌≤◌, ◌==◌, Bool, true, false, Option, None, Some, option_map, List, [], ◌∷◌, ◌++◌, map, take, drop, position, get_or, slice_get, length, if◌then◌else◌, ◌⊎◌, inl, inr, true≢false, Result, Ok, Err, refl, sym, ap, ◌∙◌, subst, arith}
use Rattle.std.specs.Result.{OnOk, OnErr}
use Rattle.std.specs.List.{list_any}
use Rattle.std.specs.Str.{bytes_eq}
use Rattle.std.proofs.Math.Nat.{eq-or-lt_of_le}
use Rattle.std.proofs.lemmas.Option.{slice_get_within, slice_get-map, same_Some}
use Rattle.std.proofs.lemmas.List.{get_or_append_left, get_or_push, length-append, length-map, length-take-le, map-append}
use Rattle.std.proofs.lemmas.List.Quantifiers.{position-Some}
use Rattle.std.proofs.lemmas.Bool.{cases_eq}
use Rattle.std.proofs.lemmas.Bool.Decides.{nat_tests}
use Rattle.std.proofs.lemmas.Slice.Eq.{bytes_eq-Decides}
use Rattle.c_scopes.proofs.PositionLaws.{fails-position, none-position}
use Rattle.c_scopes.proofs.HidingLaws.{slice_get-before, slice_get-last}
use Rattle.c_scopes.specs.Scopes.{Bound, or_else, found, before, all_but_last}
use Rattle.c_scopes.specs.Hiding.{latest, Told, Declarations}
use Rattle.c_scopes.specs.Bindings.{place_of, noted, bound_as, bound_by, AreBound, AreOpened}

-- ---- numbers of names

-- all declarations are of these names
abbrev pub AreWithin : List (List ℕ) → List Told → Type 0
AreWithin names told = (j : ℕ) (t : Told) → slice_get told j ≡ Some t → t.id < length names

abbrev pub AreOnce : List (List ℕ) → Type 0
AreOnce names = (i j : ℕ) → i < length names → j < length names → get_or names i [] ≡ get_or names j [] → i ≡ j

is_false : (b : Bool) → (b ≡ true → ⊥) → b ≡ false
is_false true h = absurd (h refl)
is_false false h = refl

equal_numbers : (n m : ℕ) → n ≡ m → (n == m) ≡ true
equal_numbers n m h = grind (arith, nat_tests, h)

unequal_numbers : (n m : ℕ) → n ≢ m → (n == m) ≡ false
unequal_numbers n m h = grind (arith, nat_tests, h)

-- a name is told from others as its number is
same_name : (names : List (List ℕ)) (name : List ℕ) (id other : ℕ) → AreOnce names → id < length names → other < length names → get_or names id [] ≡ name
    → bytes_eq name (get_or names other []) ≡ (other == id)
same_name names name id other once within inside is = by (cases_eq other id)
  where
    by : (other ≡ id) ⊎ (other ≡ id → ⊥) → bytes_eq name (get_or names other []) ≡ (other == id)
    by (inl same) =
        (bytes_eq-Decides name (get_or names other [])).1 (sym is ∙ ap (λ (k : ℕ). get_or names k []) (sym same))
        ∙ sym (equal_numbers other id same)
    by (inr differ) =
        is_false (bytes_eq name (get_or names other []))
        (λ equal. differ (once other id inside within (sym ((bytes_eq-Decides name (get_or names other [])).0 equal) ∙ sym is)))
        ∙ sym (unequal_numbers other id differ)

ids_told : List Told → List ℕ
ids_told told = map (λ (x : Told). x.id) told

pub place-id : (at : ℕ) (names : List (List ℕ)) (told : List Told) (name : List ℕ) (id : ℕ) → AreOnce names → id < length names → get_or names id [] ≡ name → AreWithin names told
    → place_of at (bound_by names told) name ≡ latest at (map (λ (x : Told). x.id) told) id
place-id at names [] name id once inside is within = refl
place-id at names (t ∷ ts) name id once inside is within =
    ap (λ (b : Bool). or_else (place_of (at + 1) (bound_by names ts) name) (if b then Some at else None)) (same_name names name id t.id once inside (within zero t refl) is)
    ∙ ap (λ (rest : Option ℕ). or_else rest (if t.id == id then Some at else None)) (place-id (at + 1) names ts name id once inside is (λ j u at. within (suc j) u at))

-- a name that isn't there
absent_name : (names : List (List ℕ)) (p : List ℕ → Bool) (k : ℕ) → position p names ≡ None → k < length names → p (get_or names k []) ≡ false
absent_name names p k absent within = fails-position p names k [] absent within

pub place-absent : (at : ℕ) (names : List (List ℕ)) (told : List Told) (name : List ℕ) → position (bytes_eq name) names ≡ None → AreWithin names told → place_of at (bound_by names told) name ≡ None
place-absent at names [] name absent within = refl
place-absent at names (t ∷ ts) name absent within =
    ap (λ (b : Bool). or_else (place_of (at + 1) (bound_by names ts) name) (if b then Some at else None)) (absent_name names (bytes_eq name) t.id absent (within zero t refl))
    ∙ ap (λ (rest : Option ℕ). or_else rest None) (place-absent (at + 1) names ts name absent (λ j u at. within (suc j) u at))

-- ---- what the place of the last declaration says

abbrev pub PlaceSays : ℕ → List Bound → List ℕ → Option ℕ → Type 0
PlaceSays at bound name None = (n : ℕ) → found (drop n bound) name ≡ None
PlaceSays at bound name (Some j) =
    (k : ℕ) × (b : Bound) × (j ≡ at + k) × (slice_get bound k ≡ Some b)
    × ((n : ℕ) → n ≤ k → found (drop n bound) name ≡ Some b.number) × ((n : ℕ) → k < n → found (drop n bound) name ≡ None)

nothing_found : (n : ℕ) (name : List ℕ) → found (drop n []) name ≡ None
nothing_found zero name = refl
nothing_found (suc n) name = refl

hidden_by : (b : Bound) (bs : List Bound) (name : List ℕ) (later : Option ℕ) (test : Bool) → found bs name ≡ later → bytes_eq name b.name ≡ test
    → found (b ∷ bs) name ≡ or_else later (if test then Some b.number else None)
hidden_by b bs name later test is tells =
    ap (λ (rest : Option ℕ). or_else rest (if bytes_eq name b.name then Some b.number else None)) is
    ∙ ap (λ (t : Bool). or_else later (if t then Some b.number else None)) tells

first_says : (at : ℕ) (b : Bound) (bs : List Bound) (name : List ℕ) (test : Bool) → ((n : ℕ) → found (drop n bs) name ≡ None) → bytes_eq name b.name ≡ test
    → PlaceSays at (b ∷ bs) name (if test then Some at else None)
first_says at b bs name true none tells = (0, b, omega arith, refl, here, after)
  where
    here : (n : ℕ) → n ≤ 0 → found (drop n (b ∷ bs)) name ≡ Some b.number
    here zero within = hidden_by b bs name None true (none 0) tells
    here (suc n) within = absurd (omega (arith, within))

    after : (n : ℕ) → 0 < n → found (drop n (b ∷ bs)) name ≡ None
    after zero within = absurd (omega (arith, within))
    after (suc n) within = none n
first_says at b bs name false none tells = nowhere
  where
    nowhere : (n : ℕ) → found (drop n (b ∷ bs)) name ≡ None
    nowhere zero = hidden_by b bs name None false (none 0) tells
    nowhere (suc n) = none n

later_says : (at : ℕ) (b : Bound) (bs : List Bound) (name : List ℕ) (later : Option ℕ) → PlaceSays (at + 1) bs name later
    → PlaceSays at (b ∷ bs) name (or_else later (if bytes_eq name b.name then Some at else None))
later_says at b bs name None none = first_says at b bs name (bytes_eq name b.name) none refl
later_says at b bs name (Some j) h = (suc h.0, h.1, omega (arith, h.2), h.3, here, after)
  where
    here : (n : ℕ) → n ≤ suc h.0 → found (drop n (b ∷ bs)) name ≡ Some h.1.number
    here zero within = hidden_by b bs name (Some h.1.number) (bytes_eq name b.name) (h.4 0 (omega arith)) refl
    here (suc n) within = h.4 n (omega (arith, within))

    after : (n : ℕ) → suc h.0 < n → found (drop n (b ∷ bs)) name ≡ None
    after zero within = absurd (omega (arith, within))
    after (suc n) within = h.5 n (omega (arith, within))

pub place_says : (at : ℕ) (bound : List Bound) (name : List ℕ) → PlaceSays at bound name (place_of at bound name)
place_says at [] name = λ n. nothing_found n name
place_says at (b ∷ bs) name = later_says at b bs name (place_of (at + 1) bs name) (place_says (at + 1) bs name)

-- with a place that is known
pub says_where : (bound : List Bound) (name : List ℕ) (place : Option ℕ) → place ≡ place_of 0 bound name → PlaceSays 0 bound name place
says_where bound name place is = subst (PlaceSays 0 bound name) (sym is) (place_says 0 bound name)

-- ---- names that are found

pub position_name : (names : List (List ℕ)) (name : List ℕ) (id : ℕ) → position (bytes_eq name) names ≡ Some id → (id < length names) × (get_or names id [] ≡ name)
position_name names name id is =
    let found = position-Some (bytes_eq name) names id [] is in
    (found.0, sym ((bytes_eq-Decides name (get_or names id [])).0 found.1))

length-bound : (names : List (List ℕ)) (told : List Told) → length (bound_by names told) ≡ length told
length-bound names told = length-map told (bound_as names)

pub place_told : (names : List (List ℕ)) (told : List Told) (name : List ℕ) (at : ℕ) → Some at ≡ place_of 0 (bound_by names told) name → at < length told
place_told names told name at is =
    let says = says_where (bound_by names told) name (Some at) is in
    omega (arith, says.2, slice_get_within (bound_by names told) says.0 says.1 says.3, length-bound names told)

pub number_told : (names : List (List ℕ)) (told : List Told) (at : ℕ) (t : Told) (b : Bound) → slice_get told at ≡ Some t → slice_get (bound_by names told) at ≡ Some b → t.number ≡ b.number
number_told names told at t b there is =
    ap (λ (x : Bound). x.number) (same_Some (bound_as names t) b (sym (ap (option_map (bound_as names)) there) ∙ sym (slice_get-map (bound_as names) told at) ∙ is))

-- the number of the last declaration, where it is in the scope that begins at a place
pub number_found : (names : List (List ℕ)) (told : List Told) (name : List ℕ) (at n : ℕ) (t : Told) → Some at ≡ place_of 0 (bound_by names told) name → n ≤ at → slice_get told at ≡ Some t
    → found (drop n (bound_by names told)) name ≡ Some t.number
number_found names told name at n t is within there =
    let says = says_where (bound_by names told) name (Some at) is in
    says.4 n (omega (arith, within, says.2))
    ∙ ap Some (sym (number_told names told at t says.1 there (ap (slice_get (bound_by names told)) (says.2 ∙ omega arith) ∙ says.3)))

pub none_found : (bound : List Bound) (name : List ℕ) (at n : ℕ) → Some at ≡ place_of 0 bound name → at < n → found (drop n bound) name ≡ None
none_found bound name at n is within =
    let says = says_where bound name (Some at) is in
    says.5 n (omega (arith, within, says.2))

-- ---- names that are added

found_name : (b : Bool) (names : List (List ℕ)) (name : List ℕ) → list_any (bytes_eq name) names ≡ b → b ≡ false → noted names name ≡ names ++ name ∷ []
found_name b names name is none = ap (λ (x : Bool). if x then names else names ++ name ∷ []) (is ∙ none)

pub new_name : (names : List (List ℕ)) (name : List ℕ) → position (bytes_eq name) names ≡ None → noted names name ≡ names ++ name ∷ []
new_name names name none = found_name (list_any (bytes_eq name) names) names name refl (none-position (bytes_eq name) names none)

-- what is told keeps its names
pub bound-added : (names : List (List ℕ)) (name : List ℕ) (told : List Told) → AreWithin names told → bound_by (names ++ name ∷ []) told ≡ bound_by names told
bound-added names name [] within = refl
bound-added names name (t ∷ ts) within =
    ap (λ (x : List ℕ). record { name = x; number = t.number } ∷ bound_by (names ++ name ∷ []) ts) (get_or_append_left names (name ∷ []) [] t.id (within zero t refl))
    ∙ ap (λ (rest : List Bound). bound_as names t ∷ rest) (bound-added names name ts (λ j u at. within (suc j) u at))

pub added_within : (names : List (List ℕ)) (name : List ℕ) (told : List Told) → AreWithin names told → AreWithin (names ++ name ∷ []) told
added_within names name told within j t at = omega (arith, within j t at, length-append names (name ∷ []))

pub added_once : (names : List (List ℕ)) (name : List ℕ) → position (bytes_eq name) names ≡ None → AreOnce names → AreOnce (names ++ name ∷ [])
added_once names name none once i j inside within same = by (eq-or-lt_of_le (at_most i inside)) (eq-or-lt_of_le (at_most j within))
  where
    at_most : (k : ℕ) → k < length (names ++ name ∷ []) → k ≤ length names
    at_most k h = omega (arith, h, length-append names (name ∷ []))

    before : (k : ℕ) → k < length names → get_or (names ++ name ∷ []) k [] ≡ get_or names k []
    before k h = get_or_append_left names (name ∷ []) [] k h

    last : (k : ℕ) → k ≡ length names → get_or (names ++ name ∷ []) k [] ≡ name
    last k h = get_or_push names name [] k (sym h)

    apart : (k : ℕ) → k < length names → name ≡ get_or names k [] → ⊥
    apart k h equal = true≢false (sym ((bytes_eq-Decides name (get_or names k [])).1 equal) ∙ fails-position (bytes_eq name) names k [] none h)

    by : (i ≡ length names) ⊎ (i < length names) → (j ≡ length names) ⊎ (j < length names) → i ≡ j
    by (inl a) (inl b) = a ∙ sym b
    by (inl a) (inr b) = absurd (apart j b (sym (last i a) ∙ same ∙ before j b))
    by (inr a) (inl b) = absurd (apart i a (sym (last j b) ∙ sym same ∙ before i a))
    by (inr a) (inr b) = once i j a b (sym (before i a) ∙ same ∙ before j b)

-- ---- a declaration more, and declarations that end

pub declared_bound : (names : List (List ℕ)) (told : List Told) (t : Told) → bound_by names (told ++ t ∷ []) ≡ bound_by names told ++ bound_as names t ∷ []
declared_bound names told t = map-append (bound_as names) told (t ∷ [])

pub declared_within : (names : List (List ℕ)) (told : List Told) (t : Told) → t.id < length names → AreWithin names told → AreWithin names (told ++ t ∷ [])
declared_within names told t inside within j u at = by (eq-or-lt_of_le (at_most (slice_get_within (told ++ t ∷ []) j u at)))
  where
    at_most : j < length (told ++ t ∷ []) → j ≤ length told
    at_most h = omega (arith, h, length-append told (t ∷ []))

    by : (j ≡ length told) ⊎ (j < length told) → u.id < length names
    by (inl last) = subst (λ (x : Told). x.id < length names) (same_Some t u (sym (slice_get-last told t) ∙ sym (ap (slice_get (told ++ t ∷ [])) last) ∙ at)) inside
    by (inr less) = within j u (sym (slice_get-before told t j less) ∙ at)

pub opened_more : (least most more : ℕ) (opened : List ℕ) → most ≤ more → AreOpened least opened most → AreOpened least opened more
opened_more least most more [] h within = omega (arith, h, within)
opened_more least most more (n ∷ rest) h within = (within.0, opened_more n most more rest h within.1)

pub opened_last : (least most : ℕ) (opened : List ℕ) → AreOpened least opened most → AreOpened least (opened ++ most ∷ []) most
opened_last least most [] within = (within, omega arith)
opened_last least most (n ∷ rest) within = (within.0, opened_last n most rest within.1)

pub opened_first : (least most last : ℕ) (opened : List ℕ) → AreOpened least (opened ++ last ∷ []) most → AreOpened least opened last × (last ≤ most)
opened_first least most last [] within = (within.0, within.1)
opened_first least most last (n ∷ rest) within =
    let first = opened_first n most last rest within.1 in
    ((within.0, first.0), first.1)

-- ---- the innermost scope

pub last_before : (opened : List ℕ) (k n : ℕ) → suc k ≡ length opened → slice_get opened k ≡ Some n → n ≡ before opened
last_before [] k n h is = absurd (omega (arith, h))
last_before (m ∷ []) zero n h is = same_Some n m (sym is)
last_before (m ∷ []) (suc k) n h is = absurd (omega (arith, h))
last_before (m ∷ next ∷ rest) zero n h is = absurd (omega (arith, h))
last_before (m ∷ next ∷ rest) (suc k) n h is = last_before (next ∷ rest) k n (omega (arith, h)) is

pub before_last : (opened : List ℕ) (n : ℕ) → before (opened ++ n ∷ []) ≡ n
before_last [] n = refl
before_last (m ∷ []) n = refl
before_last (m ∷ next ∷ rest) n = before_last (next ∷ rest) n

pub all_but_last-last : (opened : List ℕ) (n : ℕ) → all_but_last (opened ++ n ∷ []) ≡ opened
all_but_last-last [] n = refl
all_but_last-last (m ∷ []) n = refl
all_but_last-last (m ∷ next ∷ rest) n = ap (λ (l : List ℕ). m ∷ l) (all_but_last-last (next ∷ rest) n)

pub bound-take : (names : List (List ℕ)) (told : List Told) (n : ℕ) → bound_by names (take n told) ≡ take n (bound_by names told)
bound-take names told zero = refl
bound-take names [] (suc n) = refl
bound-take names (t ∷ ts) (suc n) = ap (λ (rest : List Bound). bound_as names t ∷ rest) (bound-take names ts n)

taken : (told : List Told) (n j : ℕ) (t : Told) → slice_get (take n told) j ≡ Some t → slice_get told j ≡ Some t
taken told zero j t is = absurd (cc)
taken [] (suc n) j t is = absurd (cc)
taken (x ∷ xs) (suc n) zero t is = is
taken (x ∷ xs) (suc n) (suc j) t is = taken xs n j t is

pub taken_within : (names : List (List ℕ)) (told : List Told) (n : ℕ) → AreWithin names told → AreWithin names (take n told)
taken_within names told n within j t at = within j t (taken told n j t at)

pub some_before : (opened : List ℕ) (n : ℕ) → slice_get opened (length opened - 1) ≡ Some n → n ≡ before opened
some_before opened n is = last_before opened (length opened - 1) n (omega (arith, slice_get_within opened (length opened - 1) n is)) is

pub are_bound_added : (names : List (List ℕ)) (name : List ℕ) (d : Declarations) → position (bytes_eq name) names ≡ None → AreBound names d
    → AreBound (names ++ name ∷ []) (record { names = d.names + 1; told = d.told })
are_bound_added names name d none bound = record {
  count = omega (arith, bound.count, length-append names (name ∷ []));
  within = added_within names name d.told bound.within;
  once = added_once names name none bound.once;
}

pub name_added : (names : List (List ℕ)) (name : List ℕ) (id : ℕ) → id ≡ length names → (id < length (names ++ name ∷ [])) × (get_or (names ++ name ∷ []) id [] ≡ name)
name_added names name id is = (omega (arith, is, length-append names (name ∷ [])), get_or_push names name [] id (sym is))

pub are_bound_declared : (names : List (List ℕ)) (d : Declarations) (t : Told) → t.id < length names → AreBound names d → AreBound names (record { names = d.names; told = d.told ++ t ∷ [] })
are_bound_declared names d t inside bound = record { count = bound.count; within = declared_within names d.told t inside bound.within; once = bound.once }

pub are_bound_cut : (names : List (List ℕ)) (d : Declarations) (n : ℕ) → AreBound names d → AreBound names (record { names = d.names; told = take n d.told })
are_bound_cut names d n bound = record { count = bound.count; within = taken_within names d.told n bound.within; once = bound.once }

-- what holds where a call ends, whichever way
pub either_way : {U E : Type 0} (P : Declarations → Type 0) (r : Result U E) (old new added : Declarations) → OnOk r (new ≡ added) → OnErr r (new ≡ old) → P added → P old → P new
either_way P (Ok u) old new added ok err a o = subst P (sym ok) a
either_way P (Err e) old new added ok err a o = subst P (sym err) o

snoc : (m : ℕ) (rest : List ℕ) → m ∷ rest ≡ all_but_last (m ∷ rest) ++ before (m ∷ rest) ∷ []
snoc m [] = refl
snoc m (next ∷ rest) = ap (λ (l : List ℕ). m ∷ l) (snoc next rest)

pub opened_cut : (opened : List ℕ) (told : List Told) → AreOpened 0 opened (length told) → AreOpened 0 (all_but_last opened) (length (take (before opened) told))
opened_cut [] told within = omega arith
opened_cut (m ∷ rest) told within =
    let first = opened_first 0 (length told) (before (m ∷ rest)) (all_but_last (m ∷ rest)) (subst (λ (l : List ℕ). AreOpened 0 l (length told)) (snoc m rest) within) in
    subst (AreOpened 0 (all_but_last (m ∷ rest))) (sym (length-take-le (before (m ∷ rest)) told first.1)) first.0
