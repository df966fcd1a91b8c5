-- Laws of the passes: what one step adds to each list.
use Rattle.std.proofs.Common.{◌≡◌, ◌⊎◌, inl, inr, ℕ, zero, suc, ◌+◌, ◌-◌, ◌<◌, Bool, true, false, not, ◌&&◌, ◌||◌, cond, List, [], ◌∷◌, ◌++◌, Option, Some, None, get_or, take, length, filter, slice_get, refl, sym, ap, ◌∙◌, arith}
use Rattle.std.specs.Prelude.{if◌then◌else◌, nat_lt, ◌==◌}
use Rattle.std.specs.List.{All, Contains, list_any}
use Rattle.std.proofs.lemmas.Bool.{eqb-true, eq-eqb, ltb-true, lt-ltb}
use Rattle.std.proofs.lemmas.List.FromFn.{length-range_with_len, get_or-range_with_len}
use Rattle.std.proofs.lemmas.List.{append-nil, get_or_push, length_push, length-take-le, get_or-take}
use Rattle.std.proofs.lemmas.List.Elements.{filter-append, All-filter, filter_more}
use Rattle.std.proofs.lemmas.List.Folds.{list_any_more}
use Rattle.std.proofs.lemmas.Option.{slice_get-get_or}
use Rattle.word_graph.specs.declared.entry.Entry.{Entry}
use Rattle.word_graph.specs.Term.{taken_by}
use Rattle.word_graph.specs.Shape.{IsGraph}
use Rattle.word_graph.proofs.EntryLaws.{taken_by-earlier}
use Rattle.module_split.specs.Lists.{at, ends_with, with_last, Puts}
use Rattle.module_split.specs.Cut.{below, entry_takes, is_just, is_of}
use Rattle.module_split.specs.Steps.{AddsCrossing, AddsUser, IsDistinct, and_then, crosses_by, crosses_in, number_at, other_than}
use Rattle.module_split.proofs.ListLaws.{below-more}

-- ---- last numbers

and_parts : (a b : Bool) → (a && b) ≡ true → (a ≡ true) × (b ≡ true)
and_parts true true e = (refl, refl)
and_parts true false e = absurd (cc)
and_parts false b e = absurd (cc)

true_both : (a b : Bool) → a ≡ true → b ≡ true → (a && b) ≡ true
true_both true true e f = refl
true_both true false e f = f
true_both false b e f = e

pub test_cases : (b : Bool) → (b ≡ true) ⊎ (b ≡ false)
test_cases true = inl refl
test_cases false = inr refl

or_true : (b : Bool) → (b || true) ≡ true
or_true true = refl
or_true false = refl

or_false : (b : Bool) → (b || false) ≡ b
or_false true = refl
or_false false = refl

clash : (b : Bool) → b ≡ true → b ≡ false → ⊥
clash true p q = cc
clash false p q = cc

pub apart : (a b : ℕ) → (a == b) ≡ false → a ≡ b → ⊥
apart a b e same = clash (a == b) (eq-eqb a b same) e

-- a list that ends with a number has it
pub ends_with-get : (xs : List ℕ) (n : ℕ) → ends_with xs n ≡ true → (0 < length xs) × (get_or xs (length xs - 1) 0 ≡ n)
ends_with-get xs n e =
    let p = and_parts (nat_lt 0 (length xs)) (get_or xs (length xs - 1) 0 == n) e in
    (ltb-true 0 (length xs) p.0, eqb-true (get_or xs (length xs - 1) 0) n p.1)

-- where all are lower, the list does not end with the number
pub ends_with-lower : (xs : List ℕ) (n : ℕ) → All (λ x. x < n) xs → ends_with xs n ≡ false
ends_with-lower xs n low = elim (test_cases (ends_with xs n)) [
  | inr e ↦ e
  | inl e ↦
      let p = ends_with-get xs n e in
      let here : get_or xs (length xs - 1) 0 < n = low (length xs - 1) 0 (omega (arith, p.0)) in
      absurd (omega (arith, p.1, here))
]

pub ends_with-push : (xs : List ℕ) (n : ℕ) → ends_with (xs ++ n ∷ []) n ≡ true
ends_with-push xs n =
    true_both (nat_lt 0 (length (xs ++ n ∷ []))) (get_or (xs ++ n ∷ []) (length (xs ++ n ∷ []) - 1) 0 == n)
    (lt-ltb 0 (length (xs ++ n ∷ [])) (omega (arith, length_push xs n)))
    (eq-eqb (get_or (xs ++ n ∷ []) (length (xs ++ n ∷ []) - 1) 0) n (get_or_push xs n 0 (length (xs ++ n ∷ []) - 1) (omega (arith, length_push xs n))))

-- a number is put at the end once
pub with_last-once : (xs : List ℕ) (b : Bool) (n : ℕ) → ends_with xs n ≡ false → with_last (and_then xs b n) n ≡ and_then xs true n
with_last-once xs true n e = rw (ends_with-push xs n) refl
with_last-once xs false n e = rw (append-nil, e) refl

-- ---- filters

pub filter_below-more : (p : ℕ → Bool) (n : ℕ) → filter p (below (n + 1)) ≡ and_then (filter p (below n)) (p n) n
filter_below-more p n = ap (filter p) (below-more n) ∙ filter-append p (below n) (n ∷ [])

pub below-low : (n : ℕ) → All (λ k. k < n) (below n)
below-low n k d within =
    let long : length (below n) ≡ n = length-range_with_len 0 n in
    let inside : k < n = omega arith in
    rw (get_or-range_with_len 0 n k d inside) (omega arith)

pub filter_below-low : (p : ℕ → Bool) (n : ℕ) → All (λ k. k < n) (filter p (below n))
filter_below-low p n = All-filter p (λ (k : ℕ). k < n) (below n) (below-low n)

-- ---- users

module _ (init old new : List (List ℕ)) (items : List ℕ) (i d user : ℕ) (within : i < length items) where
  pub add_user-step : ((k : ℕ) → ends_with (at init k) user ≡ false → at old k ≡ and_then (at init k) (list_any (λ a. a == k) (take i items)) user) →
      Puts old new (get_or items i d) (with_last (at old (get_or items i d)) user) →
      (k : ℕ) → ends_with (at init k) user ≡ false → at new k ≡ and_then (at init k) (list_any (λ a. a == k) (take (i + 1) items)) user
  add_user-step inv puts k free =
      let more : list_any (λ a. a == k) (take (i + 1) items) ≡ (list_any (λ a. a == k) (take i items) || get_or items i d == k) = list_any_more (λ (a : ℕ). a == k) items i d within in
      elim (test_cases (get_or items i d == k)) [
        | inl e ↦
            let here : get_or items i d ≡ k = eqb-true (get_or items i d) k e in
            ap (at new) (sym here)
            ∙ puts.here
            ∙ ap (λ (j : ℕ). with_last (at old j) user) here
            ∙ ap (λ (xs : List ℕ). with_last xs user) (inv k free)
            ∙ with_last-once (at init k) (list_any (λ a. a == k) (take i items)) user free
            ∙ ap (λ (b : Bool). and_then (at init k) b user) (sym (more ∙ ap (λ (b : Bool). list_any (λ a. a == k) (take i items) || b) e ∙ or_true (list_any (λ a. a == k) (take i items))))
        | inr e ↦
            puts.others k (λ same. apart (get_or items i d) k e (sym same))
            ∙ inv k free
            ∙ ap (λ (b : Bool). and_then (at init k) b user) (sym (more ∙ ap (λ (b : Bool). list_any (λ a. a == k) (take i items) || b) e ∙ or_false (list_any (λ a. a == k) (take i items))))
      ]

-- ---- crossings

kept_some : (b : Bool) (k : ℕ) → b ≡ false → (if b then None else Some k) ≡ None → ⊥
kept_some true k p q = cc
kept_some false k p q = cc

other_none : (own n : Option ℕ) (m : ℕ) (c : Bool) → other_than own n ≡ None → (not (is_just own m) && (c || is_just n m)) ≡ (not (is_just own m) && c)
other_none own None m c e = ap (λ (b : Bool). not (is_just own m) && b) (or_false c)
other_none own (Some k) m c e = elim (test_cases (k == m)) [
  | inr f ↦ ap (λ (b : Bool). not (is_just own m) && (c || b)) f ∙ ap (λ (b : Bool). not (is_just own m) && b) (or_false c)
  | inl t ↦
      let own_is : is_just own m ≡ true = ap (is_just own) (sym (eqb-true k m t)) ∙ by (is_just own k) refl in
      rw own_is refl
]
  where
    by : (b : Bool) → is_just own k ≡ b → is_just own k ≡ true
    by true p = p
    by false p = absurd (kept_some (is_just own k) k p e)

other_some : (own n : Option ℕ) (k : ℕ) → other_than own n ≡ Some k → (n ≡ Some k) × (is_just own k ≡ false)
other_some own None k e = absurd (cc)
other_some own (Some j) k e = by (is_just own j) refl e
  where
    by : (b : Bool) → is_just own j ≡ b → (if b then None else Some j) ≡ Some k → (Some j ≡ Some k) × (is_just own k ≡ false)
    by true p q = absurd (cc)
    by false p q = let same : j ≡ k = cc in (q, ap (is_just own) (sym same) ∙ p)

module _ (init old new : List (List ℕ)) (numbers : List (Option ℕ)) (users : List ℕ) (i d place : ℕ) (within : i < length users) where
  crosses_more : (m : ℕ) → crosses_by numbers (take (i + 1) users) place m ≡ (not (is_of numbers m place) && (list_any (is_of numbers m) (take i users) || is_of numbers m (get_or users i d)))
  crosses_more m = ap (λ (b : Bool). not (is_of numbers m place) && b) (list_any_more (is_of numbers m) users i d within)

  pub add_crossing-none : ((m : ℕ) → ends_with (at init m) place ≡ false → at old m ≡ and_then (at init m) (crosses_by numbers (take i users) place m) place) →
      other_than (number_at numbers place) (number_at numbers (get_or users i d)) ≡ None →
      (m : ℕ) → ends_with (at init m) place ≡ false → at old m ≡ and_then (at init m) (crosses_by numbers (take (i + 1) users) place m) place
  add_crossing-none inv none m free =
      inv m free ∙ ap (λ (b : Bool). and_then (at init m) b place)
      (sym (crosses_more m ∙ other_none (number_at numbers place) (number_at numbers (get_or users i d)) m (list_any (is_of numbers m) (take i users)) none))

  pub add_crossing-some : (module_ : ℕ) → ((m : ℕ) → ends_with (at init m) place ≡ false → at old m ≡ and_then (at init m) (crosses_by numbers (take i users) place m) place) →
      other_than (number_at numbers place) (number_at numbers (get_or users i d)) ≡ Some module_ → Puts old new module_ (with_last (at old module_) place) →
      (m : ℕ) → ends_with (at init m) place ≡ false → at new m ≡ and_then (at init m) (crosses_by numbers (take (i + 1) users) place m) place
  add_crossing-some module_ inv some puts m free =
      let p = other_some (number_at numbers place) (number_at numbers (get_or users i d)) module_ some in
      elim (test_cases (module_ == m)) [
        | inl e ↦
            let here : module_ ≡ m = eqb-true module_ m e in
            let crosses : crosses_by numbers (take (i + 1) users) place m ≡ true =
            crosses_more m ∙ rw (p.0, e, ← here, p.1, or_true (list_any (is_of numbers module_) (take i users))) refl in
            ap (at new) (sym here)
            ∙ puts.here
            ∙ ap (λ (j : ℕ). with_last (at old j) place) here
            ∙ ap (λ (xs : List ℕ). with_last xs place) (inv m free)
            ∙ with_last-once (at init m) (crosses_by numbers (take i users) place m) place free
            ∙ ap (λ (b : Bool). and_then (at init m) b place) (sym crosses)
        | inr e ↦
            let crosses : crosses_by numbers (take (i + 1) users) place m ≡ crosses_by numbers (take i users) place m =
            crosses_more m ∙ rw (p.0, e, or_false (list_any (is_of numbers m) (take i users))) refl in
            puts.others m (λ same. apart module_ m e (sym same))
            ∙ inv m free
            ∙ ap (λ (b : Bool). and_then (at init m) b place) (sym crosses)
      ]

-- ---- passes over places

-- a list that ends with a number has it
ends_with-contains : (xs : List ℕ) (n : ℕ) → ends_with xs n ≡ true → Contains xs n
ends_with-contains xs n e = let p = ends_with-get xs n e in (length xs - 1, omega (arith, p.0), get_or-same xs (length xs - 1) n (omega (arith, p.0)) p.1)
  where
    get_or-same : (ys : List ℕ) (k m : ℕ) → k < length ys → get_or ys k 0 ≡ m → get_or ys k m ≡ m
    get_or-same [] k m h q = absurd (omega arith)
    get_or-same (y ∷ ys) zero m h q = q
    get_or-same (y ∷ ys) (suc k) m h q = get_or-same ys k m (omega arith) q

pub Contains-filter : (p : ℕ → Bool) (xs : List ℕ) (x : ℕ) → Contains (filter p xs) x → Contains xs x
Contains-filter p [] x (k, h, e) = absurd (omega arith)
Contains-filter p (y ∷ ys) x c = by (p y) (Contains-filter p ys x) c
  where
    by : (b : Bool) → (Contains (filter p ys) x → Contains ys x) → Contains (cond b (y ∷ filter p ys) (filter p ys)) x → Contains (y ∷ ys) x
    by true rest (zero, h, e) = (0, omega arith, e)
    by true rest (suc k, h, e) = let r = rest (k, omega arith, e) in (suc r.0, omega (arith, r.1), r.2)
    by false rest c2 = let r = rest c2 in (suc r.0, omega (arith, r.1), r.2)

-- the places so far, filtered, do not end with the next, where all are distinct
pub ends_with-next : (p : ℕ → Bool) (places : List ℕ) (i d : ℕ) → IsDistinct places → i < length places → ends_with (filter p (take i places)) (get_or places i d) ≡ false
ends_with-next p places i d distinct within = elim (test_cases (ends_with (filter p (take i places)) (get_or places i d))) [
  | inr e ↦ e
  | inl e ↦
      let c = Contains-filter p (take i places) (get_or places i d) (ends_with-contains (filter p (take i places)) (get_or places i d) e) in
      let few : length (take i places) ≡ i = length-take-le i places (omega arith) in
      let earlier : c.0 < i = omega (arith, c.1) in
      let same : get_or places c.0 0 ≡ get_or places i 0 =
      get_or_any places c.0 0 (get_or places i d) (omega arith) ∙ sym (get_or-take i places c.0 (get_or places i d) earlier) ∙ c.2 ∙ get_or_any places i d 0 within in
      absurd (distinct c.0 i earlier within same)
]
  where
    get_or_any : (xs : List ℕ) (k a b : ℕ) → k < length xs → get_or xs k a ≡ get_or xs k b
    get_or_any [] k a b h = absurd (omega arith)
    get_or_any (y ∷ ys) zero a b h = refl
    get_or_any (y ∷ ys) (suc k) a b h = get_or_any ys k a b (omega arith)

pub filter-more : (p : ℕ → Bool) (places : List ℕ) (i d : ℕ) → i < length places → filter p (take (i + 1) places) ≡ and_then (filter p (take i places)) (p (get_or places i d)) (get_or places i d)
filter-more p places i d within = filter_more p places i d within

-- ---- the passes

pub and_then-false : (xs : List ℕ) (k : ℕ) → and_then xs false k ≡ xs
and_then-false xs k = append-nil xs

module _ (es : List Entry) (i : ℕ) (d : Entry) (within : i < length es) where
  entry_here : slice_get es i ≡ Some (get_or es i d)
  entry_here = slice_get-get_or es i d within

  pub users-stand : (users : List (List ℕ)) → IsGraph es → length users ≡ length es → All (λ k. k < length users) (taken_by (get_or es i d))
  users-stand users graph count k e inside = omega (arith, taken_by-earlier es i (get_or es i d) graph entry_here k e inside)

  pub users_of-step : (old new : List (List ℕ)) → ((k : ℕ) → k < length es → at old k ≡ filter (λ user. entry_takes (slice_get es user) k) (below i)) →
      AddsUser old new (get_or es i d) i → (k : ℕ) → k < length es → at new k ≡ filter (λ user. entry_takes (slice_get es user) k) (below (i + 1))
  users_of-step old new inv adds k inside =
      let p : ℕ → Bool = λ (user : ℕ). entry_takes (slice_get es user) k in
      let free : ends_with (at old k) i ≡ false = rw (inv k inside) (ends_with-lower (filter p (below i)) i (filter_below-low p i)) in
      let takes : p i ≡ list_any (λ a. a == k) (taken_by (get_or es i d)) = ap (λ (o : Option Entry). entry_takes o k) entry_here in
      adds.each k free
      ∙ ap (λ (xs : List ℕ). and_then xs (list_any (λ a. a == k) (taken_by (get_or es i d))) i) (inv k inside)
      ∙ ap (λ (b : Bool). and_then (filter p (below i)) b i) (sym takes)
      ∙ sym (filter_below-more p i)

module _ (numbers : List (Option ℕ)) (i count : ℕ) where
  pub nodes_of-none : (old : List (List ℕ)) → get_or numbers i None ≡ None → ((m : ℕ) → m < count → at old m ≡ filter (is_of numbers m) (below i)) →
      (m : ℕ) → m < count → at old m ≡ filter (is_of numbers m) (below (i + 1))
  nodes_of-none old none inv m inside =
      inv m inside ∙ sym (filter_below-more (is_of numbers m) i ∙ ap (λ (o : Option ℕ). and_then (filter (is_of numbers m) (below i)) (is_just o m) i) none ∙ and_then-false (filter (is_of numbers m) (below i)) i)

  pub nodes_of-some : (old new : List (List ℕ)) (module_ : ℕ) → get_or numbers i None ≡ Some module_ → Puts old new module_ (at old module_ ++ i ∷ []) →
      ((m : ℕ) → m < count → at old m ≡ filter (is_of numbers m) (below i)) → (m : ℕ) → m < count → at new m ≡ filter (is_of numbers m) (below (i + 1))
  nodes_of-some old new module_ some puts inv m inside =
      let more : filter (is_of numbers m) (below (i + 1)) ≡ and_then (filter (is_of numbers m) (below i)) (module_ == m) i =
      filter_below-more (is_of numbers m) i ∙ ap (λ (o : Option ℕ). and_then (filter (is_of numbers m) (below i)) (is_just o m) i) some in
      elim (test_cases (module_ == m)) [
        | inl e ↦
            let here : module_ ≡ m = eqb-true module_ m e in
            ap (at new) (sym here) ∙ puts.here ∙ ap (λ (j : ℕ). at old j ++ i ∷ []) here ∙ ap (λ (xs : List ℕ). xs ++ i ∷ []) (inv m inside)
            ∙ sym (more ∙ ap (λ (b : Bool). and_then (filter (is_of numbers m) (below i)) b i) e)
        | inr e ↦
            puts.others m (λ same. apart module_ m e (sym same)) ∙ inv m inside
            ∙ sym (more ∙ ap (λ (b : Bool). and_then (filter (is_of numbers m) (below i)) b i) e ∙ and_then-false (filter (is_of numbers m) (below i)) i)
      ]

module _ (users : List (List ℕ)) (numbers : List (Option ℕ)) (places : List ℕ) (i d count : ℕ) (within : i < length places) (distinct : IsDistinct places) where
  pub crossings-step : (old new : List (List ℕ)) (here : List ℕ) → here ≡ at users (get_or places i d) → AddsCrossing old new numbers here (get_or places i d) →
      ((m : ℕ) → m < count → at old m ≡ filter (crosses_in users numbers m) (take i places)) → (m : ℕ) → m < count → at new m ≡ filter (crosses_in users numbers m) (take (i + 1) places)
  crossings-step old new here is adds inv m inside =
      let p : ℕ → Bool = crosses_in users numbers m in
      let free : ends_with (at old m) (get_or places i d) ≡ false = rw (inv m inside) (ends_with-next p places i d distinct within) in
      adds.each m free
      ∙ ap (λ (xs : List ℕ). and_then xs (crosses_by numbers here (get_or places i d) m) (get_or places i d)) (inv m inside)
      ∙ ap (λ (us : List ℕ). and_then (filter p (take i places)) (crosses_by numbers us (get_or places i d) m) (get_or places i d)) is
      ∙ sym (filter-more p places i d within)

-- a place that passes, and one that does not
pub filter-kept : (p : ℕ → Bool) (places kept more : List ℕ) (i d : ℕ) (b : Bool) → i < length places → kept ≡ filter p (take i places) → b ≡ p (get_or places i d) → b ≡ true → more ≡ kept ++ get_or places i d ∷ [] → more ≡ filter p (take (i + 1) places)
filter-kept p places kept more i d b within inv is t made =
    made ∙ ap (λ (ks : List ℕ). ks ++ get_or places i d ∷ []) inv ∙ ap (λ (c : Bool). and_then (filter p (take i places)) c (get_or places i d)) (sym t ∙ is) ∙ sym (filter-more p places i d within)

pub filter-dropped : (p : ℕ → Bool) (places kept : List ℕ) (i d : ℕ) (b : Bool) → i < length places → kept ≡ filter p (take i places) → b ≡ p (get_or places i d) → b ≡ false → kept ≡ filter p (take (i + 1) places)
filter-dropped p places kept i d b within inv is f =
    inv ∙ sym (and_then-false (filter p (take i places)) (get_or places i d)) ∙ ap (λ (c : Bool). and_then (filter p (take i places)) c (get_or places i d)) (sym f ∙ is) ∙ sym (filter-more p places i d within)
