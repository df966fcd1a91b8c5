-- The groups of the modules: each node's group is among them, and they stand by layers.
use Rattle.std.proofs.Common.{◌≡◌, ◌⊎◌, inl, inr, ℕ, zero, suc, ◌+◌, ◌-◌, ◌<◌, ◌≤◌, max, min, Bool, true, false, ◌&&◌, ◌||◌, cond, not, eqb, List, [], ◌∷◌, ◌++◌, Option, Some, None, add-one, get_or, length, map, refl, sym, ap, ◌∙◌, subst, arith}
use Rattle.std.specs.Prelude.{if◌then◌else◌, nat_lt}
use Rattle.std.proofs.lemmas.Bool.Decides.{Decides-ltb}
use Rattle.std.specs.List.{All, Contains, cons_option, filter_map, flat_map, fold, list_any, position, position_or_len}
use Rattle.std.proofs.lemmas.Bool.{eqb-true}
use Rattle.std.proofs.lemmas.List.{append-nil, get_or_append_left, get_or_push, length_push}
use Rattle.std.proofs.lemmas.List.Elements.{All-append, All-push}
use Rattle.std.proofs.lemmas.List.Folds.{list_any-append}
use Rattle.module_split.specs.declared.homes.Group.{Group}
use Rattle.module_split.specs.declared.homes.Home.{Home}
use Rattle.module_split.specs.declared.homes.Home.TheVariants.{Input, Constant, Inside}
use Rattle.module_split.specs.Homes.{group_of, layer_over, same_bit}
use Rattle.module_split.specs.Cut.{below, different_after, group_in, number_in, order_of, same_group}
use Rattle.module_split.proofs.OrderLaws.{order_of-more}

-- ---- equal groups

same_bit-itself : (b : Bool) → same_bit b b ≡ true
same_bit-itself true = refl
same_bit-itself false = refl

eqb-itself : (n : ℕ) → eqb n n ≡ true
eqb-itself n = grind arith

pub same_group-itself : (g : Group) → same_group g g ≡ true
same_group-itself g = rw (same_bit-itself g.ring, eqb-itself g.layer, eqb-itself g.region) refl

and_two : (a b : Bool) → (a && b) ≡ true → (a ≡ true) × (b ≡ true)
and_two true true e = (refl, refl)
and_two true false e = absurd (cc)
and_two false b e = absurd (cc)

same_bit-equal : (a b : Bool) → same_bit a b ≡ true → a ≡ b
same_bit-equal true true e = refl
same_bit-equal true false e = absurd (cc)
same_bit-equal false true e = absurd (cc)
same_bit-equal false false e = refl

pub same_group-layer : (g h : Group) → same_group g h ≡ true → g.layer ≡ h.layer
same_group-layer g h e = eqb-true g.layer h.layer (and_two (eqb g.layer h.layer) (eqb g.region h.region) (and_two (same_bit g.ring h.ring) (eqb g.layer h.layer && eqb g.region h.region) e).1).0

-- ---- a group that comes is among the different ones

or_left : (a b : Bool) → a ≡ true → (a || b) ≡ true
or_left true b e = refl
or_left false b e = absurd (cc)

or_right : (a b : Bool) → b ≡ true → (a || b) ≡ true
or_right true b e = refl
or_right false b e = e

kept-among : (g h : Group) (before : List Group) (b : Bool) → list_any (same_group g) before ≡ true → list_any (same_group g) (if b then before else before ++ h ∷ []) ≡ true
kept-among g h before true e = e
kept-among g h before false e = list_any-append (same_group g) before (h ∷ []) ∙ or_left (list_any (same_group g) before) (list_any (same_group g) (h ∷ [])) e

different-keeps : (g : Group) (before gs : List Group) → list_any (same_group g) before ≡ true → list_any (same_group g) (different_after before gs) ≡ true
unfolding different_after
different-keeps g before [] e = e
different-keeps g before (h ∷ gs) e = different-keeps g (if list_any (same_group h) before then before else before ++ h ∷ []) gs (kept-among g h before (list_any (same_group h) before) e)

added-among : (g : Group) (before : List Group) (b : Bool) → list_any (same_group g) before ≡ b → list_any (same_group g) (if b then before else before ++ g ∷ []) ≡ true
added-among g before true e = e
added-among g before false e = list_any-append (same_group g) before (g ∷ []) ∙ or_right (list_any (same_group g) before) (list_any (same_group g) (g ∷ [])) (or_left (same_group g g) false (same_group-itself g))

pub different-has : (g : Group) (before gs : List Group) → Contains gs g → list_any (same_group g) (different_after before gs) ≡ true
unfolding different_after
different-has g before [] (k, h, e) = absurd (omega arith)
different-has g before (x ∷ gs) (zero, h, e) =
    subst (λ (y : Group). list_any (same_group g) (different_after (if list_any (same_group y) before then before else before ++ y ∷ []) gs) ≡ true) (sym e)
    (different-keeps g (if list_any (same_group g) before then before else before ++ g ∷ []) gs (added-among g before (list_any (same_group g) before) refl))
different-has g before (x ∷ gs) (suc k, h, e) = different-has g (if list_any (same_group x) before then before else before ++ x ∷ []) gs (k, omega arith, e)

-- the same of an order, where the group's layer is low
group_in-here : (layer : ℕ) (g : Group) → g.layer ≡ layer → group_in layer (Some g) ≡ Some g
group_in-here layer g same = let here : eqb g.layer layer ≡ true = ap (λ n. eqb n layer) same ∙ eqb-itself layer in rw here refl

behind : (p : Option Group) (gs : List Group) (g : Group) → Contains gs g → Contains (cons_option p gs) g
behind None gs g c = c
behind (Some h) gs g c = (suc c.0, omega (arith, c.1), c.2)

layer-has : (layer : ℕ) (g : Group) (groups : List (Option Group)) → Contains groups (Some g) → g.layer ≡ layer → Contains (filter_map (group_in layer) groups) g
layer-has layer g [] (k, h, e) same = absurd (omega arith)
layer-has layer g (o ∷ groups) (zero, h, e) same =
    let made : group_in layer o ≡ Some g = ap (group_in layer) e ∙ group_in-here layer g same in
    rw made (0, omega arith, refl)
layer-has layer g (o ∷ groups) (suc k, h, e) same = behind (group_in layer o) (filter_map (group_in layer) groups) g (layer-has layer g groups (k, omega arith, e) same)

pub order-has : (layers : ℕ) (g : Group) (groups : List (Option Group)) → Contains groups (Some g) → g.layer < layers → list_any (same_group g) (order_of layers groups) ≡ true
order-has zero g groups c low = absurd (omega arith)
order-has (suc layers) g groups c low =
    subst (λ (n : ℕ). list_any (same_group g) (order_of n groups) ≡ true) (add-one layers)
    (ap (list_any (same_group g)) (order_of-more layers groups) ∙ by (λ less. order-has layers g groups c less) (below_or_last g.layer layers (omega arith)))
  where
    below_or_last : (a b : ℕ) → a < suc b → (a < b) ⊎ (a ≡ b)
    below_or_last a b h = grind arith

    by : (g.layer < layers → list_any (same_group g) (order_of layers groups) ≡ true) → (g.layer < layers) ⊎ (g.layer ≡ layers) → list_any (same_group g) (different_after (order_of layers groups) (filter_map (group_in layers) groups)) ≡ true
    by before (inl less) = different-keeps g (order_of layers groups) (filter_map (group_in layers) groups) (before less)
    by before (inr last) = different-has g (order_of layers groups) (filter_map (group_in layers) groups) (layer-has layers g groups c last)

-- ---- the groups stand by layers

-- read only within a list, for which it stands in
abbrev pub no_group : Group
no_group = record { ring = false; layer = 0; region = 0 }

abbrev pub AscendByLayer : List Group → Type 0
AscendByLayer gs = (i j : ℕ) → i ≤ j → j < length gs → (get_or gs i no_group).layer ≤ (get_or gs j no_group).layer

All-in : (P : Group → Type 0) (x : Group) (xs : List Group) → P x → All P xs → All P (x ∷ xs)
All-in P x xs p h zero d l = p
All-in P x xs p h (suc k) d l = h k d (omega arith)

ascend-push : (layer : ℕ) (gs : List Group) (g : Group) → AscendByLayer gs → All (λ h. h.layer ≤ layer) gs → g.layer ≡ layer → AscendByLayer (gs ++ g ∷ [])
ascend-push layer gs g up low is i j le within = elim (inside j (length gs) (omega (arith, length_push gs g))) [
  | inl less ↦
      rw (get_or_append_left gs (g ∷ []) no_group i (omega arith), get_or_append_left gs (g ∷ []) no_group j less) (up i j le less)
  | inr last ↦
      let at_end : get_or (gs ++ g ∷ []) j no_group ≡ g = get_or_push gs g no_group j (sym last) in
      elim (inside i (length gs) (omega arith)) [
        | inl less ↦ rw (at_end, get_or_append_left gs (g ∷ []) no_group i less) (omega (arith, low i no_group less, is))
        | inr same ↦ rw (at_end, get_or_push gs g no_group i (sym same)) (omega arith)
      ]
]
  where
    inside : (a b : ℕ) → a < b + 1 → (a < b) ⊎ (a ≡ b)
    inside a b h = grind arith

different-ascend : (layer : ℕ) (before gs : List Group) → AscendByLayer before → All (λ h. h.layer ≤ layer) before → All (λ h. h.layer ≡ layer) gs →
    AscendByLayer (different_after before gs) × All (λ h. h.layer ≤ layer) (different_after before gs)
unfolding different_after
different-ascend layer before [] up low is = (up, low)
different-ascend layer before (g ∷ gs) up low is =
    let one : g.layer ≡ layer = is 0 g (omega arith) in
    let next = step (list_any (same_group g) before) one in
    different-ascend layer (if list_any (same_group g) before then before else before ++ g ∷ []) gs next.0 next.1 (λ k d h. is (suc k) d (omega arith))
  where
    step : (b : Bool) → g.layer ≡ layer → AscendByLayer (if b then before else before ++ g ∷ []) × All (λ h. h.layer ≤ layer) (if b then before else before ++ g ∷ [])
    step true one = (up, low)
    step false one = (ascend-push layer before g up low one, All-push (λ h. h.layer ≤ layer) before g low (omega (arith, one)))

group_in-layer : (layer : ℕ) (o : Option Group) (g : Group) → group_in layer o ≡ Some g → g.layer ≡ layer
group_in-layer layer None g e = absurd (cc)
group_in-layer layer (Some h) g e = by (eqb h.layer layer) refl e
  where
    by : (b : Bool) → eqb h.layer layer ≡ b → (if b then Some h else None) ≡ Some g → g.layer ≡ layer
    by true t e2 = let same : h ≡ g = cc in subst (λ (x : Group). x.layer ≡ layer) same (eqb-true h.layer layer t)
    by false t e2 = absurd (cc)

filter-layer : (layer : ℕ) (groups : List (Option Group)) → All (λ h. h.layer ≡ layer) (filter_map (group_in layer) groups)
filter-layer layer [] = λ k d h. absurd (omega arith)
filter-layer layer (o ∷ groups) = by (group_in layer o) refl (filter-layer layer groups)
  where
    by : (p : Option Group) → group_in layer o ≡ p → All (λ h. h.layer ≡ layer) (filter_map (group_in layer) groups) → All (λ h. h.layer ≡ layer) (cons_option p (filter_map (group_in layer) groups))
    by None e rest = rest
    by (Some g) e rest = All-in (λ h. h.layer ≡ layer) g (filter_map (group_in layer) groups) (group_in-layer layer o g e) rest

pub order-ascends : (layers : ℕ) (groups : List (Option Group)) → AscendByLayer (order_of layers groups) × All (λ h. h.layer < layers) (order_of layers groups)
unfolding different_after
order-ascends zero groups = ((λ i j le h. absurd (omega arith)), (λ k d h. absurd (omega arith)))
order-ascends (suc layers) groups =
    let before = order-ascends layers groups in
    let next = different-ascend layers (order_of layers groups) (filter_map (group_in layers) groups) before.0 (λ k d h. omega (arith, before.1 k d h)) (filter-layer layers groups) in
    let is : different_after (order_of layers groups) (filter_map (group_in layers) groups) ≡ order_of (suc layers) groups = sym (order_of-more layers groups) ∙ ap (λ n. order_of n groups) (add-one layers) in
    (subst AscendByLayer is next.0, subst (All (λ h. h.layer < suc layers)) is (λ k d h. omega (arith, next.1 k d h)))

-- ---- numbers

prefix-short : {A : Type 0} (p : A → Bool) (xs : List A) → list_any p xs ≡ true → position_or_len p xs < length xs
prefix-short p [] e = absurd (cc)
prefix-short p (x ∷ xs) e = by (p x) (λ later. prefix-short p xs later) e
  where
    by : (b : Bool) → (list_any p xs ≡ true → position_or_len p xs < length xs) → (b || list_any p xs) ≡ true → cond (not b) (1 + position_or_len p xs) 0 < suc (length xs)
    by true rest e2 = omega arith
    by false rest e2 = omega (arith, rest e2)

pub position-found : {A : Type 0} (p : A → Bool) (xs : List A) → list_any p xs ≡ true → position p xs ≡ Some (position_or_len p xs)
position-found p xs e =
    let within : nat_lt (position_or_len p xs) (length xs) ≡ true = (Decides-ltb (position_or_len p xs) (length xs)).1 (prefix-short p xs e) in
    rw within refl

-- the group of a node in its module, by layer
pub group_of-layer : (layers : ℕ) (g : Group) → (h : Group) × (group_of layers (Inside g) ≡ Some h) × (h.layer ≡ g.layer)
group_of-layer layers g = by (eqb g.layer (layers - 1))
  where
    by : (b : Bool) → (h : Group) × (Some (if b then record { ring = false; layer = g.layer; region = 0 } else g) ≡ Some h) × (h.layer ≡ g.layer)
    by true = (record { ring = false; layer = g.layer; region = 0 }, refl, refl)
    by false = (g, refl, refl)

-- ---- a node is over nodes of lower layers, but for those of its own module

le-fold_max : (a : ℕ) (xs : List ℕ) → a ≤ fold max a xs
le-fold_max a [] = omega arith
le-fold_max a (x ∷ xs) = omega (arith, le-fold_max (max a x) xs)

pub fold_max-has : (a : ℕ) (xs : List ℕ) (x : ℕ) → Contains xs x → x ≤ fold max a xs
fold_max-has a [] x (k, h, e) = absurd (omega arith)
fold_max-has a (y ∷ xs) x (zero, h, e) = let same : y ≡ x = e in omega (arith, le-fold_max (max a y) xs)
fold_max-has a (y ∷ xs) x (suc k, h, e) = fold_max-has (max a y) xs x (k, omega arith, e)

equal_groups : (a b : Bool) (m n r s : ℕ) → a ≡ b → m ≡ n → r ≡ s → (let g : Group = record { ring = a; layer = m; region = r } in g) ≡ record { ring = b; layer = n; region = s }
equal_groups a b m n r s p q t = ap (λ (x : Bool). let g : Group = record { ring = x; layer = m; region = r } in g) p ∙ ap (λ (x : ℕ). let g : Group = record { ring = b; layer = x; region = r } in g) q ∙ ap (λ (x : ℕ). let g : Group = record { ring = b; layer = n; region = x } in g) t

-- the user's group is another than that of what it uses, and not below what its layer over it is: then its layer is greater
pub layer-greater : (layers : ℕ) (user used : Group) → user.layer < layers → used.layer < layers → min (layers - 1) (layer_over user.ring user.region (Inside used)) ≤ user.layer →
    (group_of layers (Inside user) ≡ group_of layers (Inside used) → ⊥) → used.layer < user.layer
layer-greater layers user used low_user low_used over apart = elim (less_or_same used.layer user.layer) [
  | inl less ↦ less
  | inr more ↦ absurd (apart (same more))
]
  where
    less_or_same : (a b : ℕ) → (a < b) ⊎ (b ≤ a)
    less_or_same a b = grind arith

    by_bits : (b : Bool) → (same_bit used.ring user.ring && eqb used.region user.region) ≡ b → min (layers - 1) (if b then used.layer else used.layer + 1) ≤ user.layer → user.layer ≤ used.layer →
        group_of layers (Inside user) ≡ group_of layers (Inside used)
    by_bits true e le more =
        let parts = and_two (same_bit used.ring user.ring) (eqb used.region user.region) e in
        let rings : user.ring ≡ used.ring = sym (same_bit-equal used.ring user.ring parts.0) in
        let regions : user.region ≡ used.region = sym (eqb-true used.region user.region parts.1) in
        let layers_same : user.layer ≡ used.layer = omega (arith, le) in
        let groups : user ≡ used = equal_groups user.ring used.ring user.layer used.layer user.region used.region rings layers_same regions in
        ap (λ (g : Group). group_of layers (Inside g)) groups
    by_bits false e le more =
        let top_used : used.layer ≡ layers - 1 = omega (arith, le) in
        let top_user : user.layer ≡ layers - 1 = omega (arith, le) in
        let is_user : eqb user.layer (layers - 1) ≡ true = ap (λ n. eqb n (layers - 1)) top_user ∙ eqb-itself (layers - 1) in
        let is_used : eqb used.layer (layers - 1) ≡ true = ap (λ n. eqb n (layers - 1)) top_used ∙ eqb-itself (layers - 1) in
        rw (is_user, is_used) (ap (λ (n : ℕ). let g : Group = record { ring = false; layer = n; region = 0 } in Some g) (top_user ∙ sym top_used))

    same : user.layer ≤ used.layer → group_of layers (Inside user) ≡ group_of layers (Inside used)
    same more = by_bits (same_bit used.ring user.ring && eqb used.region user.region) refl over more
