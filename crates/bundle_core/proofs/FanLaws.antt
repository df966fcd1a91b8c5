-- The fans of a producer: how they come about word by word, in the order of the lists of modules that use the words.
use Rattle.std.proofs.Common.{◌≡◌, inl, inr, ℕ, zero, suc, ◌+◌, ◌-◌, ◌*◌, ◌^◌, ◌<◌, ◌≤◌, Bool, true, false, cond, List, [], ◌∷◌, ◌++◌, filter, Option, get_or, length, map, slice_get, slice_set, take, refl, sym, ap, ◌∙◌, subst, arith}
use Rattle.std.specs.List.{All, Contains, enumerate_from, flat_map, fold, sum_by}
use Rattle.std.specs.List.Sorted.{IsPermutation, IsSortedByKey}
use Rattle.std.specs.Str.{bytes_eq}
use Rattle.std.specs.Ordering.{is_lt, nat_cmp}
use Rattle.std.specs.Cmp.Lexicographic.{slice_cmp, nat_list_cmp_total, bytes_decides}
use Rattle.std.specs.declared.cmp.Ordering.{Ordering}
use Rattle.std.specs.declared.cmp.Ordering.TheVariants.{Less, Equal, Greater}
use Rattle.std.proofs.lemmas.List.{take_all, take_more, flat_map_more, get_or-map, get_or_default, get_or-take, length-take-le}
use Rattle.std.proofs.lemmas.List.Elements.{filter-append}
use Rattle.std.proofs.lemmas.List.FromFn.{get_or-enumerate_from, length-enumerate_from}
use Rattle.std.proofs.lemmas.List.Sums.{sum_by-append, sum_by-cons}
use Rattle.std.proofs.lemmas.List.Sorted.{Contains-permutation, IsPermutation-sym, ranks_by, sorted_far, sum_by-IsPermutation}
use Rattle.word_graph.specs.declared.entry.Entry.{Entry}
use Rattle.word_graph.specs.Term.{width_at}
use Rattle.hy_bits.specs.declared.width.Width.{Width}
use Rattle.hy_bits.specs.declared.width.Width.TheVariants.{W1}
use Rattle.module_split.specs.declared.module.Module.{Module}
use Rattle.choice_core.specs.declared.problems.Fan.{Fan}
use Rattle.choice_core.specs.declared.problems.Table.{Table}
use Rattle.choice_core.specs.declared.sharings.Sharing.{Sharing}
use Rattle.choice_core.specs.declared.sharings.Sharing.TheVariants.{Arithmetic, Boolean, Yao}
use Rattle.bundle_core.specs.Costs.{consumers, fan_to, fans_from, fans_of, lists_of, prices, with_consumers, with_list, with_list_by, word_price, words_price}
use Rattle.bundle_core.specs.Fans.{AreLow, AreLowRows, AreUsers, IsLowRow, fan_by, goes_to, last_of, list_at, lists_by, plus_row, plus_rows, with_more, with_price, with_used, words_by}
use Rattle.bundle_core.proofs.ListOrder.{In, Rising, compared, folded-in, folded-new, folded-rising, not_below, rising-same, same-of, turned}

-- ---- tests of lists

bytes-same : (xs ys : List ℕ) → bytes_eq xs ys ≡ true → xs ≡ ys
bytes-same xs ys e = (bytes_decides xs ys).0 e

bytes-true : (xs ys : List ℕ) → xs ≡ ys → bytes_eq xs ys ≡ true
bytes-true xs ys e = (bytes_decides xs ys).1 e

bytes-false : (xs ys : List ℕ) → (xs ≡ ys → ⊥) → bytes_eq xs ys ≡ false
bytes-false xs ys apart = by (bytes_eq xs ys) refl
  where
    by : (b : Bool) → bytes_eq xs ys ≡ b → b ≡ false
    by true e = absurd (apart (bytes-same xs ys e))
    by false e = refl

-- ---- prices

words_price-more : (t : Table) (es : List Entry) (ks : List ℕ) (k : ℕ) (s u : Sharing) → words_price t es (ks ++ k ∷ []) s u ≡ words_price t es ks s u + words_price t es (k ∷ []) s u
words_price-more t es ks k s u = sum_by-append (λ j. word_price t s u (width_at es j)) ks (k ∷ [])

prices-more : (t : Table) (es : List Entry) (ks : List ℕ) (k : ℕ) → prices t es (ks ++ k ∷ []) ≡ plus_rows (prices t es ks) (prices t es (k ∷ []))
prices-more t es ks k =
    rw (
      words_price-more t es ks k Arithmetic Arithmetic,
      words_price-more t es ks k Arithmetic Boolean,
      words_price-more t es ks k Arithmetic Yao,
      words_price-more t es ks k Boolean Arithmetic,
      words_price-more t es ks k Boolean Yao,
      words_price-more t es ks k Yao Arithmetic,
      words_price-more t es ks k Yao Boolean,
    ) refl

one-price : (t : Table) (es : List Entry) (k : ℕ) (s u : Sharing) → words_price t es (k ∷ []) s u ≡ word_price t s u (width_at es k)
one-price t es k s u = omega (arith, sum_by-cons (λ j. word_price t s u (width_at es j)) k [])

-- ---- words of one list

module _ (key : ℕ → List ℕ) where
  words-same : (seen : List ℕ) (k : ℕ) (to : List ℕ) → key k ≡ to → words_by key (seen ++ k ∷ []) to ≡ words_by key seen to ++ k ∷ []
  words-same seen k to e = filter-append (λ j. bytes_eq (key j) to) seen (k ∷ []) ∙ ap (λ (b : Bool). words_by key seen to ++ cond b (k ∷ []) []) (bytes-true (key k) to e)

  words-other : (seen : List ℕ) (k : ℕ) (to : List ℕ) → (key k ≡ to → ⊥) → words_by key (seen ++ k ∷ []) to ≡ words_by key seen to
  words-other seen k to apart =
      filter-append (λ j. bytes_eq (key j) to) seen (k ∷ []) ∙ ap (λ (b : Bool). words_by key seen to ++ cond b (k ∷ []) []) (bytes-false (key k) to apart) ∙ nothing (words_by key seen to)
    where
      nothing : (xs : List ℕ) → xs ++ [] ≡ xs
      nothing [] = refl
      nothing (x ∷ xs) = ap (λ (ys : List ℕ). x ∷ ys) (nothing xs)

  no-words : (seen : List ℕ) (to : List ℕ) → (In to (map key seen) → ⊥) → words_by key seen to ≡ []
  no-words [] to none = refl
  no-words (j ∷ seen) to none =
      let apart : key j ≡ to → ⊥ = λ e. none (inl (sym e)) in
      ap (λ (b : Bool). cond b (j ∷ words_by key seen to) (words_by key seen to)) (bytes-false (key j) to apart) ∙ no-words seen to (λ i. none (inr i))

-- ---- one word more in the fans of the words before it

module _ (t : Table) (es : List Entry) (key : ℕ → List ℕ) (from : ℕ) where
  fan-other : (seen : List ℕ) (k : ℕ) (to : List ℕ) → (key k ≡ to → ⊥) → fan_by t es key from (seen ++ k ∷ []) to ≡ fan_by t es key from seen to
  fan-other seen k to apart = rw (words-other key seen k to apart) refl

  fan-same : (seen : List ℕ) (k : ℕ) (to : List ℕ) → key k ≡ to → fan_by t es key from (seen ++ k ∷ []) to ≡ with_price (prices t es (k ∷ [])) (fan_by t es key from seen to)
  fan-same seen k to e =
      ap (λ (ks : List ℕ). fan_from ks to) (words-same key seen k to e) ∙ ap (λ (p : List (List ℕ)). fan_at p to) (prices-more t es (words_by key seen to) k)
    where
      fan_at : List (List ℕ) → List ℕ → Fan
      fan_at p to = record { from = from; to = to; price = p }

      fan_from : List ℕ → List ℕ → Fan
      fan_from ks to = record { from = from; to = to; price = prices t es ks }

  fan-new : (seen : List ℕ) (k : ℕ) → (In (key k) (map key seen) → ⊥) → fan_by t es key from (seen ++ k ∷ []) (key k) ≡ record { from = from; to = key k; price = prices t es (k ∷ []) }
  fan-new seen k none = rw (words-same key seen k (key k) refl, no-words key seen (key k) none) refl

  -- the lists of the fans are not above that of the new word, and each list of a word before it has its fan
  step : (seen : List ℕ) (k : ℕ) (ls : List (List ℕ)) → Rising ls → ((m : List ℕ) → In m ls → is_lt (compared (key k) m) ≡ false) → ((In (key k) ls → ⊥) → In (key k) (map key seen) → ⊥) →
      with_more from (key k) (prices t es (k ∷ [])) (map (fan_by t es key from seen) ls) ≡ map (fan_by t es key from (seen ++ k ∷ [])) (with_list (key k) ls)
  step seen k [] r late fresh = rw (fan-new seen k (fresh (λ i. i))) refl
  step seen k (m ∷ []) r late fresh = by (compared (key k) m) refl (late m (inl refl))
    where
      by : (o : Ordering) → compared (key k) m ≡ o → is_lt o ≡ false →
          with_more from (key k) (prices t es (k ∷ [])) (fan_by t es key from seen m ∷ []) ≡ map (fan_by t es key from (seen ++ k ∷ [])) (with_list_by o (key k) m [] (key k ∷ []))
      by Less e h = absurd (cc)
      by Equal e h =
          let same = same-of (key k) m e in
          rw (bytes-true m (key k) (sym same), fan-same seen k m same) refl
      by Greater e h =
          let apart : key k ≡ m → ⊥ = λ p. not_below m (subst (λ (x : List ℕ). compared m x ≡ Less) p (turned (key k) m e)) in
          let alone : In (key k) (m ∷ []) → ⊥ = λ i. elim i [ inl p ↦ apart p | inr j ↦ j ] in
          rw (bytes-false m (key k) (λ p. apart (sym p)), fan-other seen k m apart, fan-new seen k (fresh alone)) refl
  step seen k (m ∷ n ∷ ls) r late fresh =
      by (compared (key k) m) refl (late m (inl refl)) (λ (alone : (In (key k) (n ∷ ls) → ⊥) → In (key k) (map key seen) → ⊥). step seen k (n ∷ ls) r.1 (λ x i. late x (inr i)) alone)
    where
      clash : (o : Ordering) → o ≡ Less → is_lt o ≡ false → ⊥
      clash Less p q = absurd (cc)
      clash Equal p q = absurd (cc)
      clash Greater p q = absurd (cc)

      by : (o : Ordering) → compared (key k) m ≡ o → is_lt o ≡ false →
          (((In (key k) (n ∷ ls) → ⊥) → In (key k) (map key seen) → ⊥) → with_more from (key k) (prices t es (k ∷ [])) (map (fan_by t es key from seen) (n ∷ ls)) ≡ map (fan_by t es key from (seen ++ k ∷ [])) (with_list (key k) (n ∷ ls))) →
          with_more from (key k) (prices t es (k ∷ [])) (fan_by t es key from seen m ∷ fan_by t es key from seen n ∷ map (fan_by t es key from seen) ls)
          ≡ map (fan_by t es key from (seen ++ k ∷ [])) (with_list_by o (key k) m (n ∷ ls) (with_list (key k) (n ∷ ls)))
      by Less e h rec = absurd (cc)
      by Equal e h rec =
          let next : compared (key k) n ≡ Less = subst (λ (x : List ℕ). compared x n ≡ Less) (sym (same-of (key k) m e)) r.0 in
          absurd (clash (compared (key k) n) next (late n (inr (inl refl))))
      by Greater e h rec =
          let apart : key k ≡ m → ⊥ = λ p. not_below m (subst (λ (x : List ℕ). compared m x ≡ Less) p (turned (key k) m e)) in
          let rest = rec (λ none i. fresh (λ j. elim j [ inl p ↦ apart p | inr q ↦ none q ]) i) in
          rw (fan-other seen k m apart, rest) refl

  -- all lists are of words that some module uses, and the new word is used by none
  none-step : (seen : List ℕ) (k : ℕ) (ls : List (List ℕ)) → key k ≡ [] → ((m : List ℕ) → In m ls → 0 < length m) → map (fan_by t es key from seen) ls ≡ map (fan_by t es key from (seen ++ k ∷ [])) ls
  none-step seen k [] e some = refl
  none-step seen k (m ∷ ls) e some =
      let apart : key k ≡ m → ⊥ = λ p. clash m (sym e ∙ p) (some m (inl refl)) in
      rw (fan-other seen k m apart, none-step seen k ls e (λ x i. some x (inr i))) refl
    where
      clash : (x : List ℕ) → [] ≡ x → 0 < length x → ⊥
      clash x p h = absurd (omega (arith, ap length p))

-- ---- lists of the words so far

map-push : (key : ℕ → List ℕ) (seen : List ℕ) (k : ℕ) → map key (seen ++ k ∷ []) ≡ map key seen ++ key k ∷ []
map-push key [] k = refl
map-push key (j ∷ seen) k = ap (λ (ls : List (List ℕ)). key j ∷ ls) (map-push key seen k)

fold-push : (acc ls : List (List ℕ)) (l : List ℕ) → fold with_consumers acc (ls ++ l ∷ []) ≡ with_consumers (fold with_consumers acc ls) l
fold-push acc [] l = refl
fold-push acc (m ∷ ls) l = fold-push (with_consumers acc m) ls l

pub lists-push : (key : ℕ → List ℕ) (seen : List ℕ) (k : ℕ) → lists_by key (seen ++ k ∷ []) ≡ with_consumers (lists_by key seen) (key k)
lists-push key seen k = ap (fold with_consumers []) (map-push key seen k) ∙ fold-push [] (map key seen) (key k)

in-map : (key : ℕ → List ℕ) (ks : List ℕ) (m : List ℕ) → In m (map key ks) → (k : ℕ) × Contains ks k × (key k ≡ m)
in-map key [] m i = absurd i
in-map key (k ∷ ks) m i = elim i [
  | inl e ↦ (k, (0, omega arith, refl), sym e)
  | inr j ↦ let found = in-map key ks m j in (found.0, (suc found.1.0, omega (arith, found.1.1), found.1.2), found.2)
]

map-in : (key : ℕ → List ℕ) (ks : List ℕ) (k : ℕ) → Contains ks k → In (key k) (map key ks)
map-in key [] k (i, h, e) = absurd (omega arith)
map-in key (j ∷ ks) k (zero, h, e) = inl (ap key (sym e))
map-in key (j ∷ ks) k (suc i, h, e) = inr (map-in key ks k (i, omega arith, e))

-- the fans of the words so far and of one more
module _ (t : Table) (es : List Entry) (key : ℕ → List ℕ) (from : ℕ) where
  used-step : (seen : List ℕ) (k : ℕ) (fans : List Fan) → ((j : ℕ) → Contains seen j → is_lt (compared (key k) (key j)) ≡ false) →
      fans ≡ map (fan_by t es key from seen) (lists_by key seen) →
      with_used from (key k) (prices t es (k ∷ [])) fans ≡ map (fan_by t es key from (seen ++ k ∷ [])) (lists_by key (seen ++ k ∷ []))
  used-step seen k fans late before = before' (key k) refl
    where
      risen : Rising (lists_by key seen)
      risen = folded-rising [] (map key seen) tt

      of-seen : (m : List ℕ) → In m (lists_by key seen) → (In m (map key seen)) × (0 < length m)
      of-seen m i = elim (folded-in [] (map key seen) m i) [ inl j ↦ absurd j | inr p ↦ p ]

      late-list : (m : List ℕ) → In m (lists_by key seen) → is_lt (compared (key k) m) ≡ false
      late-list m i =
          let found = in-map key seen m (of-seen m i).0 in
          subst (λ (x : List ℕ). is_lt (compared (key k) x) ≡ false) found.2 (late found.0 found.1)

      before' : (l : List ℕ) → key k ≡ l → with_used from (key k) (prices t es (k ∷ [])) fans ≡ map (fan_by t es key from (seen ++ k ∷ [])) (lists_by key (seen ++ k ∷ []))
      before' [] e =
          ap (λ (x : List ℕ). with_used from x (prices t es (k ∷ [])) fans) e ∙ before
          ∙ none-step t es key from seen k (lists_by key seen) e (λ m i. (of-seen m i).1)
          ∙ ap (map (fan_by t es key from (seen ++ k ∷ []))) (sym (lists-push key seen k ∙ ap (with_consumers (lists_by key seen)) e))
      before' (x ∷ xs) e =
          let some : 0 < length (key k) = subst (λ (l : List ℕ). 0 < length l) (sym e) (omega arith) in
          let stepped = step t es key from seen k (lists_by key seen) risen late-list (λ none i. none (folded-new [] (map key seen) (key k) some i)) in
          ap (λ (l : List ℕ). with_used from l (prices t es (k ∷ [])) fans) e
          ∙ ap (with_more from (x ∷ xs) (prices t es (k ∷ []))) before
          ∙ ap (λ (l : List ℕ). with_more from l (prices t es (k ∷ [])) (map (fan_by t es key from seen) (lists_by key seen))) (sym e)
          ∙ stepped
          ∙ ap (map (fan_by t es key from (seen ++ k ∷ []))) (ap (λ (l : List ℕ). with_list l (lists_by key seen)) e ∙ sym (lists-push key seen k ∙ ap (with_consumers (lists_by key seen)) e))

  -- the same by the place of the word in a sorted list
  pub used-more : (sorted : List ℕ) (i d : ℕ) (to : List ℕ) (more : List (List ℕ)) (fans fans' : List Fan) → i < length sorted → IsSortedByKey key (slice_cmp nat_cmp) sorted →
      to ≡ key (get_or sorted i d) → more ≡ prices t es (get_or sorted i d ∷ []) →
      fans ≡ map (fan_by t es key from (take i sorted)) (lists_by key (take i sorted)) → fans' ≡ with_used from to more fans →
      fans' ≡ map (fan_by t es key from (take (i + 1) sorted)) (lists_by key (take (i + 1) sorted))
  used-more sorted i d to more fans fans' h up is price before after =
      after ∙ ap (λ (l : List ℕ). with_used from l more fans) is ∙ ap (λ (p : List (List ℕ)). with_used from (key (get_or sorted i d)) p fans) price
      ∙ used-step (take i sorted) (get_or sorted i d) fans late before
      ∙ ap (λ (ks : List ℕ). map (fan_by t es key from ks) (lists_by key ks)) (sym (take_more sorted i d h))
    where
      late : (j : ℕ) → Contains (take i sorted) j → is_lt (compared (key (get_or sorted i d)) (key j)) ≡ false
      late j (a, l, e) =
          let within : a < i = omega (arith, l, length-take-le i sorted (omega arith)) in
          let found : get_or sorted a d ≡ j = get_or_default sorted a d j (omega arith) ∙ sym (get_or-take i sorted a j within) ∙ e in
          subst (λ (n : ℕ). is_lt (compared (key (get_or sorted i d)) (key n)) ≡ false) found (sorted_far (λ x y. is_lt (compared (key x) (key y))) (ranks_by nat_list_cmp_total key) sorted up a i d (omega arith) h)

-- ---- fans of words in another order

sum-filter : (f : ℕ → ℕ) (p : ℕ → Bool) (ks : List ℕ) → sum_by f (filter p ks) ≡ sum_by (λ k. cond (p k) (f k) 0) ks
sum-filter f p [] = refl
sum-filter f p (k ∷ ks) = by (p k) (sum-filter f p ks) ∙ sym (sum_by-cons (λ j. cond (p j) (f j) 0) k ks)
  where
    by : (b : Bool) → sum_by f (filter p ks) ≡ sum_by (λ j. cond (p j) (f j) 0) ks → sum_by f (cond b (k ∷ filter p ks) (filter p ks)) ≡ cond b (f k) 0 + sum_by (λ j. cond (p j) (f j) 0) ks
    by true e = omega (arith, sum_by-cons f k (filter p ks), e)
    by false e = omega (arith, e)

words_price-order : (t : Table) (es : List Entry) (key : ℕ → List ℕ) (xs ys : List ℕ) (to : List ℕ) (s u : Sharing) → IsPermutation xs ys → words_price t es (words_by key ys to) s u ≡ words_price t es (words_by key xs to) s u
words_price-order t es key xs ys to s u perm =
    let f : ℕ → ℕ = λ k. word_price t s u (width_at es k) in
    let p : ℕ → Bool = λ k. bytes_eq (key k) to in
    sum-filter f p ys ∙ sum_by-IsPermutation (λ k. cond (p k) (f k) 0) xs ys perm ∙ sym (sum-filter f p xs)

prices-order : (t : Table) (es : List Entry) (key : ℕ → List ℕ) (xs ys : List ℕ) (to : List ℕ) → IsPermutation xs ys → prices t es (words_by key ys to) ≡ prices t es (words_by key xs to)
prices-order t es key xs ys to perm =
    rw (
      words_price-order t es key xs ys to Arithmetic Arithmetic perm,
      words_price-order t es key xs ys to Arithmetic Boolean perm,
      words_price-order t es key xs ys to Arithmetic Yao perm,
      words_price-order t es key xs ys to Boolean Arithmetic perm,
      words_price-order t es key xs ys to Boolean Yao perm,
      words_price-order t es key xs ys to Yao Arithmetic perm,
      words_price-order t es key xs ys to Yao Boolean perm,
    ) refl

fans-order : (t : Table) (es : List Entry) (key : ℕ → List ℕ) (from : ℕ) (xs ys : List ℕ) → IsPermutation xs ys → (ls : List (List ℕ)) → map (fan_by t es key from ys) ls ≡ map (fan_by t es key from xs) ls
fans-order t es key from xs ys perm [] = refl
fans-order t es key from xs ys perm (to ∷ ls) = rw (prices-order t es key xs ys to perm, fans-order t es key from xs ys perm ls) refl

lists-give : (key : ℕ → List ℕ) (xs ys : List ℕ) → IsPermutation xs ys → (m : List ℕ) → In m (lists_by key xs) → In m (lists_by key ys)
lists-give key xs ys perm m i = elim (folded-in [] (map key xs) m i) [
  | inl j ↦ absurd j
  | inr p ↦
      let found = in-map key xs m p.0 in
      folded-new [] (map key ys) m p.1 (subst (λ (l : List ℕ). In l (map key ys)) found.2 (map-in key ys found.0 (Contains-permutation xs ys found.0 perm found.1)))
]

lists-order : (key : ℕ → List ℕ) (xs ys : List ℕ) → IsPermutation xs ys → lists_by key ys ≡ lists_by key xs
lists-order key xs ys perm =
    rising-same (lists_by key ys) (lists_by key xs) (folded-rising [] (map key ys) tt) (folded-rising [] (map key xs) tt) (lists-give key ys xs (IsPermutation-sym xs ys perm)) (lists-give key xs ys perm)

pub fans-sorted : (t : Table) (es : List Entry) (key : ℕ → List ℕ) (from : ℕ) (xs ys : List ℕ) → IsPermutation xs ys → map (fan_by t es key from ys) (lists_by key ys) ≡ map (fan_by t es key from xs) (lists_by key xs)
fans-sorted t es key from xs ys perm = ap (map (fan_by t es key from ys)) (lists-order key xs ys perm) ∙ fans-order t es key from xs ys perm (lists_by key xs)

-- ---- the same by the modules that use the words

words-agree : (key other : ℕ → List ℕ) (ks : List ℕ) (to : List ℕ) → All (λ k. key k ≡ other k) ks → words_by key ks to ≡ words_by other ks to
words-agree key other [] to same = refl
words-agree key other (k ∷ ks) to same =
    let first : key k ≡ other k = same 0 k (omega arith) in
    let rest = words-agree key other ks to (λ i d h. same (suc i) d (omega (arith, h))) in
    rw (first, rest) refl

map-agree : (key other : ℕ → List ℕ) (ks : List ℕ) → All (λ k. key k ≡ other k) ks → map key ks ≡ map other ks
map-agree key other [] same = refl
map-agree key other (k ∷ ks) same =
    let first : key k ≡ other k = same 0 k (omega arith) in
    let rest = map-agree key other ks (λ i d h. same (suc i) d (omega (arith, h))) in
    rw (first, rest) refl

fans-agree : (t : Table) (es : List Entry) (key other : ℕ → List ℕ) (from : ℕ) (ks : List ℕ) → All (λ k. key k ≡ other k) ks → (ls : List (List ℕ)) → map (fan_by t es key from ks) ls ≡ map (fan_by t es other from ks) ls
fans-agree t es key other from ks same [] = refl
fans-agree t es key other from ks same (to ∷ ls) = rw (words-agree key other ks to same, fans-agree t es key other from ks same ls) refl

pub fans-keyed : (t : Table) (es : List Entry) (list : List Module) (key : ℕ → List ℕ) (from : ℕ) (outs : List ℕ) → All (λ k. key k ≡ consumers list k) outs →
    map (fan_by t es key from outs) (lists_by key outs) ≡ map (fan_to t es list from outs) (lists_of list outs)
fans-keyed t es list key from outs same =
    ap (λ (ls : List (List ℕ)). map (fan_by t es key from outs) (fold with_consumers [] ls)) (map-agree key (consumers list) outs same)
    ∙ fans-agree t es key (consumers list) from outs same (lists_of list outs)

-- ---- the last fan

last-cons : (f g : Fan) (fans : List Fan) → last_of (f ∷ g ∷ fans) ≡ last_of (g ∷ fans)
last-cons f g fans =
    let e : length (f ∷ g ∷ fans) - 1 ≡ suc (length (g ∷ fans) - 1) = omega arith in
    ap (slice_get (f ∷ g ∷ fans)) e

set-cons : (f g : Fan) (fans : List Fan) (x : Fan) → slice_set (f ∷ g ∷ fans) (length (f ∷ g ∷ fans) - 1) x ≡ f ∷ slice_set (g ∷ fans) (length (g ∷ fans) - 1) x
set-cons f g fans x =
    let e : length (f ∷ g ∷ fans) - 1 ≡ suc (length (g ∷ fans) - 1) = omega arith in
    ap (λ (n : ℕ). slice_set (f ∷ g ∷ fans) n x) e

pub more-new : (from : ℕ) (to : List ℕ) (more : List (List ℕ)) (fans : List Fan) → goes_to (last_of fans) to ≡ false → fans ++ record { from = from; to = to; price = more } ∷ [] ≡ with_more from to more fans
more-new from to more [] e = refl
more-new from to more (f ∷ []) e = rw e refl
more-new from to more (f ∷ g ∷ fans) e = ap (λ (fs : List Fan). f ∷ fs) (more-new from to more (g ∷ fans) (ap (λ (o : Option Fan). goes_to o to) (sym (last-cons f g fans)) ∙ e))

more-last-of : (from : ℕ) (to : List ℕ) (more : List (List ℕ)) (fans : List Fan) (d last : Fan) → goes_to (last_of fans) to ≡ true → last ≡ get_or fans (length fans - 1) d → slice_set fans (length fans - 1) (with_price more last) ≡ with_more from to more fans
more-last-of from to more [] d last e is = absurd (cc)
more-last-of from to more (f ∷ []) d last e is =
    let same : with_price more last ∷ [] ≡ with_price more f ∷ [] = ap (λ (g : Fan). with_price more g ∷ []) is in
    same ∙ rw e refl
more-last-of from to more (f ∷ g ∷ fans) d last e is =
    let n : length (f ∷ g ∷ fans) - 1 ≡ suc (length (g ∷ fans) - 1) = omega arith in
    set-cons f g fans (with_price more last)
    ∙ ap (λ (fs : List Fan). f ∷ fs) (more-last-of from to more (g ∷ fans) d last (ap (λ (o : Option Fan). goes_to o to) (sym (last-cons f g fans)) ∙ e) (is ∙ ap (λ (k : ℕ). get_or (f ∷ g ∷ fans) k d) n))

pub more-last : (from : ℕ) (to : List ℕ) (more price : List (List ℕ)) (fans : List Fan) (n : ℕ) (d last : Fan) → n ≡ length fans → goes_to (last_of fans) to ≡ true → last ≡ get_or fans (n - 1) d → price ≡ plus_rows last.price more →
    slice_set fans (n - 1) (record last { price = price }) ≡ with_more from to more fans
more-last from to more price fans n d last count e is sum =
    ap (λ (p : List (List ℕ)). slice_set fans (n - 1) (record last { price = p })) sum
    ∙ ap (λ (k : ℕ). slice_set fans (k - 1) (with_price more last)) count
    ∙ more-last-of from to more fans d last e (is ∙ ap (λ (k : ℕ). get_or fans (k - 1) d) count)

-- ---- how large prices are

plus_row-low : (n m : ℕ) (xs ys : List ℕ) → IsLowRow n xs → IsLowRow m ys → IsLowRow (n + m) (plus_row xs ys)
plus_row-low n m [] ys a b = tt
plus_row-low n m (x ∷ xs) [] a b = tt
plus_row-low n m (x ∷ xs) (y ∷ ys) a b = (omega (arith, a.0, b.0), plus_row-low n m xs ys a.1 b.1)

plus_rows-low : (n m : ℕ) (xs ys : List (List ℕ)) → AreLowRows n xs → AreLowRows m ys → AreLowRows (n + m) (plus_rows xs ys)
plus_rows-low n m [] ys a b = tt
plus_rows-low n m (x ∷ xs) [] a b = tt
plus_rows-low n m (x ∷ xs) (y ∷ ys) a b = (plus_row-low n m x y a.0 b.0, plus_rows-low n m xs ys a.1 b.1)

row-lower : (n m : ℕ) (xs : List ℕ) → n ≤ m → IsLowRow n xs → IsLowRow m xs
row-lower n m [] h a = tt
row-lower n m (x ∷ xs) h a = (omega (arith, a.0), row-lower n m xs h a.1)

rows-lower : (n m : ℕ) (xs : List (List ℕ)) → n ≤ m → AreLowRows n xs → AreLowRows m xs
rows-lower n m [] h a = tt
rows-lower n m (x ∷ xs) h a = (row-lower n m x h a.0, rows-lower n m xs h a.1)

fans-lower : (n m : ℕ) (fans : List Fan) → n ≤ m → AreLow n fans → AreLow m fans
fans-lower n m [] h a = tt
fans-lower n m (f ∷ fans) h a = (rows-lower n m f.price h a.0, fans-lower n m fans h a.1)

with_more-low : (n m from : ℕ) (to : List ℕ) (more : List (List ℕ)) (fans : List Fan) → AreLow n fans → AreLowRows m more → AreLow (n + m) (with_more from to more fans)
with_more-low n m from to more [] a b = (rows-lower m (n + m) more (omega arith) b, tt)
with_more-low n m from to more (f ∷ []) a b = by (bytes_eq f.to to)
  where
    by : (t : Bool) → AreLow (n + m) (cond t (with_price more f ∷ []) (f ∷ record { from = from; to = to; price = more } ∷ []))
    by true = (plus_rows-low n m f.price more a.0 b, tt)
    by false = (rows-lower n (n + m) f.price (omega arith) a.0, (rows-lower m (n + m) more (omega arith) b, tt))
with_more-low n m from to more (f ∷ g ∷ fans) a b = (rows-lower n (n + m) f.price (omega arith) a.0, with_more-low n m from to more (g ∷ fans) a.1 b)

pub with_used-low : (n m from : ℕ) (to : List ℕ) (more : List (List ℕ)) (fans : List Fan) → AreLow n fans → AreLowRows m more → AreLow (n + m) (with_used from to more fans)
with_used-low n m from [] more fans a b = fans-lower n (n + m) fans (omega arith) a
with_used-low n m from (x ∷ xs) more fans a b = with_more-low n m from (x ∷ xs) more fans a b

row-all : (n m : ℕ) (xs : List ℕ) → n < m → IsLowRow n xs → All (λ x. x < m) xs
row-all n m [] h a i d l = absurd (omega arith)
row-all n m (x ∷ xs) h a zero d l = omega (arith, a.0)
row-all n m (x ∷ xs) h a (suc i) d l = row-all n m xs h a.1 i d (omega arith)

pub rows-all : (n m : ℕ) (xs : List (List ℕ)) → n < m → AreLowRows n xs → All (λ row. All (λ x. x < m) row) xs
rows-all n m [] h a i d l = absurd (omega arith)
rows-all n m (x ∷ xs) h a zero d l = row-all n m x h a.0
rows-all n m (x ∷ xs) h a (suc i) d l = rows-all n m xs h a.1 i d (omega arith)

pub fans-all : (n m : ℕ) (fans : List Fan) → n < m → AreLow n fans → All (λ (fan : Fan). All (λ row. All (λ x. x < m) row) fan.price) fans
fans-all n m [] h a i d l = absurd (omega arith)
fans-all n m (f ∷ fans) h a zero d l = rows-all n m f.price h a.0
fans-all n m (f ∷ fans) h a (suc i) d l = fans-all n m fans h a.1 i d (omega arith)

pub one-prices : (t : Table) (es : List Entry) (k : ℕ) (e : Entry) (w : Width) → k < length es → w ≡ (get_or es k e).width →
    (0 ∷ word_price t Arithmetic Boolean w ∷ word_price t Arithmetic Yao w ∷ []) ∷ (word_price t Boolean Arithmetic w ∷ 0 ∷ word_price t Boolean Yao w ∷ []) ∷ (word_price t Yao Arithmetic w ∷ word_price t Yao Boolean w ∷ 0 ∷ []) ∷ [] ≡ prices t es (k ∷ [])
one-prices t es k e w h is =
    let same : width_at es k ≡ w = get_or-map (λ (x : Entry). x.width) es k e W1 h ∙ sym is in
    rw (one-price t es k Arithmetic Arithmetic, one-price t es k Arithmetic Boolean, one-price t es k Arithmetic Yao, one-price t es k Boolean Arithmetic, one-price t es k Boolean Yao, one-price t es k Yao Arithmetic, one-price t es k Yao Boolean, same) refl

pub low-more : (i from : ℕ) (to : List ℕ) (more : List (List ℕ)) (fans fans' : List Fan) → AreLow (i * 2 ^ 32) fans → AreLowRows (2 ^ 32) more → fans' ≡ with_used from to more fans → AreLow ((i + 1) * 2 ^ 32) fans'
low-more i from to more fans fans' a b is =
    let n : i * 2 ^ 32 + 2 ^ 32 ≡ (i + 1) * 2 ^ 32 = omega arith in
    subst (λ (fs : List Fan). AreLow ((i + 1) * 2 ^ 32) fs) (sym is) (subst (λ (k : ℕ). AreLow k (with_used from to more fans)) n (with_used-low (i * 2 ^ 32) (2 ^ 32) from to more fans a b))

-- ---- fans of one module more

pub fans-more : (t : Table) (es : List Entry) (list : List Module) (i : ℕ) (part : Module) (fans own fans' : List Fan) → i < length list → part ≡ get_or list i part →
    fans ≡ flat_map (fans_from t es list) (take i (enumerate_from 0 list)) → own ≡ fans_from t es list (i, part) → fans' ≡ fans ++ own → fans' ≡ flat_map (fans_from t es list) (take (i + 1) (enumerate_from 0 list))
fans-more t es list i part fans own fans' h is before made after =
    let long : i < length (enumerate_from 0 list) = omega (arith, length-enumerate_from 0 list) in
    let zero-plus : 0 + i ≡ i = omega arith in
    let entry : get_or (enumerate_from 0 list) i (i, part) ≡ (i, part) = get_or-enumerate_from 0 list i (i, part) h ∙ ap (λ (k : ℕ). (k, get_or list i part)) zero-plus ∙ ap (λ (m : Module). (i, m)) (sym is) in
    after ∙ ap (λ (fs : List Fan). fs ++ own) before ∙ ap (λ (fs : List Fan). flat_map (fans_from t es list) (take i (enumerate_from 0 list)) ++ fs) made
    ∙ flat_map_more (fans_from t es list) [] (take i (enumerate_from 0 list)) (i, part)
    ∙ ap (λ (p : ℕ × Module). flat_map (fans_from t es list) (take i (enumerate_from 0 list) ++ p ∷ [])) (sym entry)
    ∙ ap (flat_map (fans_from t es list)) (sym (take_more (enumerate_from 0 list) i (i, part) long))

pub fans-end : (t : Table) (es : List Entry) (list : List Module) (i : ℕ) → length list ≤ i → flat_map (fans_from t es list) (take i (enumerate_from 0 list)) ≡ fans_of t es list
fans-end t es list i h = ap (flat_map (fans_from t es list)) (take_all i (enumerate_from 0 list) (omega (arith, length-enumerate_from 0 list)))

pub users-agree : (list : List Module) (count : ℕ) (users : List (List ℕ)) (outs : List ℕ) → AreUsers list count users → All (λ k. k < count) outs → All (λ k. list_at users k ≡ consumers list k) outs
users-agree list count users outs are low i d h = are.each (get_or outs i d) (low i d h)
