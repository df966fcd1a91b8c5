-- Tables of places: what a look-up finds, what an entry more keeps, and places that are apart.
use Rattle.std.proofs.Common.{◌≡◌, ◌⊎◌, inl, inr, ℕ, zero, suc, ◌+◌, ◌<◌, Bool, true, false, cond, List, [], ◌∷◌, ◌++◌, length, Option, Some, None, is_some, slice_get, get_or, map, set, take, refl, sym, ap, ◌∙◌, subst, arith, add-one, length-append, rules}
use Rattle.std.proofs.lemmas.List.{length-take-le, length-map, map-append}
use Rattle.std.proofs.Math.Seq.{take-suc}
use Rattle.std.proofs.lemmas.List.Elements.{Contains-push, Contains-push_cases}
use Rattle.std.proofs.lemmas.Option.{slice_get_within}
use Rattle.std.proofs.lemmas.Bool.{cases_lt}
use Rattle.std.specs.Bool.{Decides}
use Rattle.std.specs.List.{Contains}
use Rattle.std.specs.Map.{lookup}
use Rattle.word_graph.proofs.EntryLaws.{Contains-slice_get, slice_get-push}
use Rattle.c_place.specs.declared.targets.Place.{Place}
use Rattle.c_place.specs.declared.targets.Target.{Target}
use Rattle.c_place.specs.contracts.targets.PlacePartialEq.TheImpl as impl
use Rattle.c_place.specs.Aims.{AreApart, place_of, places_of}
use Rattle.c_place.specs.Choices.{IsTableOf}

module _ {X : Type 0} where
  Contains-tail : (y x : X) (xs : List X) → Contains xs x → Contains (y ∷ xs) x
  Contains-tail y x xs (k, h, e) = (suc k, omega arith, e)

  Contains-split : (y x : X) (xs : List X) → Contains (y ∷ xs) x → (y ≡ x) ⊎ Contains xs x
  Contains-split y x xs (zero, h, e) = inl e
  Contains-split y x xs (suc k, h, e) = inr (k, omega arith, e)

  pub slice_get-left : (xs ys : List X) (k : ℕ) → k < length xs → slice_get (xs ++ ys) k ≡ slice_get xs k
  slice_get-left [] ys k h = absurd (omega arith)
  slice_get-left (x ∷ xs) ys zero h = refl
  slice_get-left (x ∷ xs) ys (suc k) h = slice_get-left xs ys k (omega arith)

  -- an element stands somewhere
  pub slice_get-Contains : (xs : List X) (x : X) → Contains xs x → (k : ℕ) × (slice_get xs k ≡ Some x)
  slice_get-Contains [] x (k, h, e) = absurd (omega arith)
  slice_get-Contains (y ∷ xs) x (zero, h, e) = (0, ap (λ (z : X). Some z) e)
  slice_get-Contains (y ∷ xs) x (suc k, h, e) = let r = slice_get-Contains xs x (k, omega arith, e) in (suc r.0, r.1)

  pub Contains-left : (xs ys : List X) (x : X) → Contains xs x → Contains (xs ++ ys) x
  Contains-left xs ys x c =
      let s = slice_get-Contains xs x c in
      Contains-slice_get (xs ++ ys) s.0 x (slice_get-left xs ys s.0 (slice_get_within xs s.0 x s.1) ∙ s.1)

module _ {K V : Type 0} (test : K → Bool) where
  lookup-cases : (e : K × V) (es : List (K × V)) (v : V) (b : Bool) → test e.0 ≡ b → cond b (Some e.1) (lookup test es) ≡ Some v → (lookup test es ≡ Some v → (k : K) × (test k ≡ true) × Contains es (k, v)) → (k : K) × (test k ≡ true) × Contains (e ∷ es) (k, v)
  lookup-cases e es v true t h rest =
      let same : e.1 ≡ v = cc in
      (e.0, t, (0, omega arith, ap (λ (w : V). let p : K × V = (e.0, w) in p) same))
  lookup-cases e es v false t h rest = let r = rest h in (r.0, r.1, Contains-tail e (r.0, v) es r.2)

  -- what is found is an entry that passes the test
  lookup-some : (es : List (K × V)) (v : V) → lookup test es ≡ Some v → (k : K) × (test k ≡ true) × Contains es (k, v)
  lookup-some [] v h = absurd (cc)
  lookup-some (e ∷ es) v h = lookup-cases e es v (test e.0) refl h (lookup-some es v)

  lookup-none-cases : (e : K × V) (es : List (K × V)) (b : Bool) → test e.0 ≡ b → cond b (Some e.1) (lookup test es) ≡ None → (test e.0 ≡ false) × (lookup test es ≡ None)
  lookup-none-cases e es true t h = absurd (cc)
  lookup-none-cases e es false t h = (t, h)

  -- where nothing is found, no entry passes the test
  lookup-none : (es : List (K × V)) → lookup test es ≡ None → (k : K) (v : V) → Contains es (k, v) → test k ≡ false
  lookup-none [] h k v (i, l, c) = absurd (omega arith)
  lookup-none (e ∷ es) h k v c =
      let n = lookup-none-cases e es (test e.0) refl h in
      elim (Contains-split e (k, v) es c) [
        | inl same ↦ ap (λ (p : K × V). test p.0) (sym same) ∙ n.0
        | inr d ↦ lookup-none es n.1 k v d
      ]

decides : (p q : Place) → Decides (impl.eq-value.it p q) (p ≡ q)
decides p q = search rules

-- a number that the table tells is one of the place
pub place-found : (p : Place) (ps : List Place) (entries : List (Place × ℕ)) (k : ℕ) → IsTableOf ps entries → lookup (impl.eq-value.it p) entries ≡ Some k → slice_get ps k ≡ Some p
place-found p ps entries k t e =
    let f = lookup-some (impl.eq-value.it p) entries k e in
    let same : p ≡ f.0 = (decides p f.0).0 f.1 in
    t.found f.0 k f.2 ∙ ap (λ (q : Place). Some q) (sym same)

-- a place that the table lacks stands nowhere
pub place-missed : (p : Place) (ps : List Place) (entries : List (Place × ℕ)) → IsTableOf ps entries → lookup (impl.eq-value.it p) entries ≡ None → ¬ Contains ps p
place-missed p ps entries t e c =
    let m = t.missed p c in
    let no : impl.eq-value.it p p ≡ false = lookup-none (impl.eq-value.it p) entries e p m.0 m.1 in
    let yes : impl.eq-value.it p p ≡ true = (decides p p).1 refl in
    absurd (cc)

-- a place at the end, with its entry
pub IsTableOf-push : (ps : List Place) (entries : List (Place × ℕ)) (p : Place) (k : ℕ) → k ≡ length ps → IsTableOf ps entries → IsTableOf (ps ++ p ∷ []) (entries ++ (p, k) ∷ [])
IsTableOf-push ps entries p k e t = record {
  found = λ q j c. elim (Contains-push_cases entries (p, k) (q, j) c) [
    | inl old ↦ let s = t.found q j old in slice_get-left ps (p ∷ []) j (slice_get_within ps j q s) ∙ s
    | inr same ↦
        let place_same : p ≡ q = ap (λ (r : Place × ℕ). r.0) same in
        let number : j ≡ length ps = sym (ap (λ (r : Place × ℕ). r.1) same) ∙ e in
        ap (λ (i : ℕ). slice_get (ps ++ p ∷ []) i) number ∙ slice_get-push ps p ∙ ap (λ (r : Place). Some r) place_same
  ];
  missed = λ q c. elim (Contains-push_cases ps p q c) [
    | inl old ↦ let m = t.missed q old in (m.0, Contains-left entries ((p, k) ∷ []) (q, m.0) m.1)
    | inr same ↦ (k, subst (λ (r : Place). Contains (entries ++ (p, k) ∷ []) (r, k)) same (Contains-push entries (p, k)))
  ];
}

-- a place at the end that stands before: the table stays
pub IsTableOf-again : (ps : List Place) (entries : List (Place × ℕ)) (p : Place) → Contains ps p → IsTableOf ps entries → IsTableOf (ps ++ p ∷ []) entries
IsTableOf-again ps entries p here t = record {
  found = λ q j c. let s = t.found q j c in slice_get-left ps (p ∷ []) j (slice_get_within ps j q s) ∙ s;
  missed = λ q c. elim (Contains-push_cases ps p q c) [
    | inl old ↦ t.missed q old
    | inr same ↦ t.missed q (subst (λ (r : Place). Contains ps r) same here)
  ];
}

pub none_from_test : (o : Option ℕ) (b : Bool) → b ≡ is_some o → b ≡ false → o ≡ None
none_from_test None b e f = refl
none_from_test (Some k) b e f = absurd (cc)

some_from_test : (o : Option ℕ) (b : Bool) → b ≡ is_some o → b ≡ true → (k : ℕ) × (o ≡ Some k)
some_from_test None b e f = absurd (cc)
some_from_test (Some k) b e f = (k, refl)

-- a place that the table has stands
pub place-again : (p : Place) (ps : List Place) (entries : List (Place × ℕ)) (b : Bool) → IsTableOf ps entries → b ≡ is_some (lookup (impl.eq-value.it p) entries) → b ≡ true → Contains ps p
place-again p ps entries b t e f =
    let s = some_from_test (lookup (impl.eq-value.it p) entries) b e f in
    Contains-slice_get ps s.0 p (place-found p ps entries s.0 t s.1)

-- ---- places that are apart

pub apart-one : (ps : List Place) (i j : ℕ) (p : Place) → AreApart ps → slice_get ps i ≡ Some p → slice_get ps j ≡ Some p → i ≡ j
apart-one ps i j p apart e f = elim (cases_lt i j) [
  | inl below ↦ absurd (apart i j below (slice_get_within ps j p f) (e ∙ sym f))
  | inr above ↦ elim (cases_lt j i) [
    | inl below ↦ absurd (apart j i below (slice_get_within ps i p e) (f ∙ sym e))
    | inr under ↦ omega arith
  ]
]

pub AreApart-none : AreApart []
AreApart-none = λ i j h l. absurd (omega arith)

-- a place more that doesn't stand yet
pub AreApart-push : (ps : List Place) (p : Place) → AreApart ps → ¬ Contains ps p → AreApart (ps ++ p ∷ [])
AreApart-push ps p apart new = λ i j h l e.
    let long : length (ps ++ p ∷ []) ≡ length ps + 1 = length-append ps (p ∷ []) in
    elim (cases_lt j (length ps)) [
      | inl below ↦ apart i j h below (sym (slice_get-left ps (p ∷ []) i (omega arith)) ∙ e ∙ slice_get-left ps (p ∷ []) j below)
      | inr last ↦
          let at : j ≡ length ps = omega arith in
          let here : slice_get (ps ++ p ∷ []) j ≡ Some p = ap (λ (k : ℕ). slice_get (ps ++ p ∷ []) k) at ∙ slice_get-push ps p in
          new (Contains-slice_get ps i p (sym (slice_get-left ps (p ∷ []) i (omega arith)) ∙ e ∙ here))
    ]

-- ---- places of targets

pub slice_get-places : (ts : List Target) (k : ℕ) (d : Target) → k < length ts → slice_get (places_of ts) k ≡ Some (place_of (get_or ts k d))
slice_get-places [] k d h = absurd (omega arith)
slice_get-places (t ∷ ts) zero d h = refl
slice_get-places (t ∷ ts) (suc k) d h = slice_get-places ts k d (omega arith)

pub place-within : (ts : List Target) (k : ℕ) (p : Place) → slice_get (places_of ts) k ≡ Some p → k < length ts
place-within [] k p e = absurd (cc)
place-within (t ∷ ts) zero p e = omega arith
place-within (t ∷ ts) (suc k) p e = omega (arith, place-within ts k p e)

pub places-suc : (ts : List Target) (k : ℕ) (d : Target) → k < length ts → places_of (take (suc k) ts) ≡ places_of (take k ts) ++ place_of (get_or ts k d) ∷ []
places-suc ts k d h = ap (map place_of) (take-suc ts k d h) ∙ map-append place_of (take k ts) (get_or ts k d ∷ [])

pub table-new : (ts : List Target) (entries more : List (Place × ℕ)) (k : ℕ) (d : Target) (p : Place) → k < length ts → p ≡ place_of (get_or ts k d) → IsTableOf (places_of (take k ts)) entries → more ≡ entries ++ (p, k) ∷ [] → IsTableOf (places_of (take (k + 1) ts)) more
table-new ts entries more k d p h e t m =
    rw (add-one, places-suc ts k d h, m, e) (IsTableOf-push (places_of (take k ts)) entries (place_of (get_or ts k d)) k (sym (length-map (take k ts) place_of ∙ length-take-le k ts (omega arith))) t)

pub table-again : (ts : List Target) (entries : List (Place × ℕ)) (k : ℕ) (d : Target) (p : Place) → k < length ts → p ≡ place_of (get_or ts k d) → Contains (places_of (take k ts)) p → IsTableOf (places_of (take k ts)) entries → IsTableOf (places_of (take (k + 1) ts)) entries
table-again ts entries k d p h e c t =
    rw (add-one, places-suc ts k d h) (IsTableOf-again (places_of (take k ts)) entries (place_of (get_or ts k d)) (subst (λ (q : Place). Contains (places_of (take k ts)) q) e c) t)

pub slice_get-set : (bs : List Bool) (k : ℕ) (b : Bool) → k < length bs → slice_get (set bs k b) k ≡ Some b
slice_get-set [] k b h = absurd (omega arith)
slice_get-set (a ∷ bs) zero b h = refl
slice_get-set (a ∷ bs) (suc k) b h = slice_get-set bs k b (omega arith)
