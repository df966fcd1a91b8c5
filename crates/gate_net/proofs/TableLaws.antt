-- Laws of the table of gates: what a look-up finds, and what an entry more keeps.
use Rattle.std.proofs.Common.{◌≡◌, ◌⊎◌, inl, inr, ℕ, zero, suc, ◌<◌, Bool, true, false, cond, List, [], ◌∷◌, ◌++◌, length, Some, None, slice_get, refl, sym, ap, ◌∙◌, subst, arith, length-append}
use Rattle.std.proofs.lemmas.List.{get_or_append_left}
use Rattle.std.proofs.lemmas.List.Elements.{Contains-push}
use Rattle.std.specs.Bool.{Decides}
use Rattle.std.specs.List.{Contains}
use Rattle.std.specs.Map.{lookup}
use Rattle.gate_net.specs.declared.literal.Gate.{Gate}
use Rattle.gate_net.specs.Shape.{IsTableOf}

module _ {X : Type 0} where
  Contains-head : (x : X) (xs : List X) → Contains (x ∷ xs) x
  Contains-head x xs = (0, omega arith, refl)

  Contains-tail : (y x : X) (xs : List X) → Contains xs x → Contains (y ∷ xs) x
  Contains-tail y x xs (k, h, e) = (suc k, omega arith, e)

  Contains-split : (y x : X) (xs : List X) → Contains (y ∷ xs) x → (y ≡ x) ⊎ Contains xs x
  Contains-split y x xs (zero, h, e) = inl e
  Contains-split y x xs (suc k, h, e) = inr (k, omega arith, e)

  -- an element of a longer list
  pub Contains-left : (xs ys : List X) (x : X) → Contains xs x → Contains (xs ++ ys) x
  Contains-left xs ys x (k, h, e) = (k, omega (arith, length-append xs ys), get_or_append_left xs ys x k h ∙ e)

  -- an element of a list with one more is of the list, or the last
  pub Contains-push_cases : (xs : List X) (y x : X) → Contains (xs ++ y ∷ []) x → Contains xs x ⊎ (y ≡ x)
  Contains-push_cases [] y x h = elim (Contains-split y x [] h) [ inl e ↦ inr e | inr c ↦ inl c ]
  Contains-push_cases (z ∷ xs) y x h = elim (Contains-split z x (xs ++ y ∷ []) h) [
    | inl e ↦ inl (subst (λ (w : X). Contains (z ∷ xs) w) e (Contains-head z xs))
    | inr c ↦ elim (Contains-push_cases xs y x c) [ inl d ↦ inl (Contains-tail z x xs d) | inr e ↦ inr e ]
  ]

  -- what stands at a place is an element
  pub Contains-slice_get : (xs : List X) (k : ℕ) (x : X) → slice_get xs k ≡ Some x → Contains xs x
  Contains-slice_get [] k x e = absurd (cc)
  Contains-slice_get (y ∷ xs) zero x e = let same : y ≡ x = cc in (0, omega arith, same)
  Contains-slice_get (y ∷ xs) (suc k) x e = Contains-tail y x xs (Contains-slice_get xs k x e)

  -- a place that is there stays
  pub slice_get-append_left : (xs ys : List X) (k : ℕ) (x : X) → slice_get xs k ≡ Some x → slice_get (xs ++ ys) k ≡ Some x
  slice_get-append_left [] ys k x e = absurd (cc)
  slice_get-append_left (y ∷ xs) ys zero x e = e
  slice_get-append_left (y ∷ xs) ys (suc k) x e = slice_get-append_left xs ys k x e

  -- the last place
  pub slice_get-push : (xs : List X) (x : X) → slice_get (xs ++ x ∷ []) (length xs) ≡ Some x
  slice_get-push [] x = refl
  slice_get-push (y ∷ xs) x = slice_get-push xs x

  pub slice_get-within : (xs : List X) (k : ℕ) (x : X) → slice_get xs k ≡ Some x → k < length xs
  slice_get-within [] k x e = absurd (cc)
  slice_get-within (y ∷ xs) zero x e = omega arith
  slice_get-within (y ∷ xs) (suc k) x e = omega (arith, slice_get-within xs k x e)

module _ {K V : Type 0} (test : K → Bool) where
  lookup-cases : (e : K × V) (es : List (K × V)) (v : V) (b : Bool) → test e.0 ≡ b → cond b (Some e.1) (lookup test es) ≡ Some v → (lookup test es ≡ Some v → (k : K) × (test k ≡ true) × Contains es (k, v)) → (k : K) × (test k ≡ true) × Contains (e ∷ es) (k, v)
  lookup-cases e es v true t h rest =
      let same : e.1 ≡ v = cc in
      (e.0, t, (0, omega arith, ap (λ (w : V). let p : K × V = (e.0, w) in p) same))
  lookup-cases e es v false t h rest = let r = rest h in (r.0, r.1, Contains-tail e (r.0, v) es r.2)

  -- what is found is an entry that passes the test
  pub lookup-some : (es : List (K × V)) (v : V) → lookup test es ≡ Some v → (k : K) × (test k ≡ true) × Contains es (k, v)
  lookup-some [] v h = absurd (cc)
  lookup-some (e ∷ es) v h = lookup-cases e es v (test e.0) refl h (lookup-some es v)

  lookup-none-cases : (e : K × V) (es : List (K × V)) (b : Bool) → test e.0 ≡ b → cond b (Some e.1) (lookup test es) ≡ None → (test e.0 ≡ false) × (lookup test es ≡ None)
  lookup-none-cases e es true t h = absurd (cc)
  lookup-none-cases e es false t h = (t, h)

  -- where nothing is found, no entry passes the test
  pub lookup-none : (es : List (K × V)) → lookup test es ≡ None → (k : K) (v : V) → Contains es (k, v) → test k ≡ false
  lookup-none [] h k v (i, l, c) = absurd (omega arith)
  lookup-none (e ∷ es) h k v c =
      let n = lookup-none-cases e es (test e.0) refl h in
      elim (Contains-split e (k, v) es c) [
        | inl same ↦ ap (λ (p : K × V). test p.0) (sym same) ∙ n.0
        | inr d ↦ lookup-none es n.1 k v d
      ]

module _ (test : Gate → Bool) (gate : Gate) (decides : (g : Gate) → Decides (test g) (gate ≡ g)) where
  -- a place that the table names holds the gate
  pub IsTableOf-found : (gates : List Gate) (entries : List (Gate × ℕ)) (k : ℕ) → IsTableOf gates entries → lookup test entries ≡ Some k → slice_get gates k ≡ Some gate
  IsTableOf-found gates entries k t e =
      let f = lookup-some test entries k e in
      let same : gate ≡ f.0 = (decides f.0).0 f.1 in
      t.found f.0 k f.2 ∙ ap (λ (g : Gate). Some g) (sym same)

  -- a gate that the table lacks stands nowhere
  pub IsTableOf-missed : (gates : List Gate) (entries : List (Gate × ℕ)) → IsTableOf gates entries → lookup test entries ≡ None → ¬ Contains gates gate
  IsTableOf-missed gates entries t e c =
      let m = t.missed gate c in
      let no : test gate ≡ false = lookup-none test entries e gate m.0 m.1 in
      let yes : test gate ≡ true = (decides gate).1 refl in
      absurd (cc)

-- a gate at the end, with its entry
pub IsTableOf-push : (gates : List Gate) (entries : List (Gate × ℕ)) (gate : Gate) (k : ℕ) → k ≡ length gates → IsTableOf gates entries → IsTableOf (gates ++ gate ∷ []) (entries ++ (gate, k) ∷ [])
IsTableOf-push gates entries gate k e t = record {
  found = λ g j c. elim (Contains-push_cases entries (gate, k) (g, j) c) [
    | inl old ↦ slice_get-append_left gates (gate ∷ []) j g (t.found g j old)
    | inr same ↦
        let gate_same : gate ≡ g = ap (λ (p : Gate × ℕ). p.0) same in
        let place : j ≡ length gates = sym (ap (λ (p : Gate × ℕ). p.1) same) ∙ e in
        ap (λ (i : ℕ). slice_get (gates ++ gate ∷ []) i) place ∙ slice_get-push gates gate ∙ ap (λ (h : Gate). Some h) gate_same
  ];
  missed = λ g c. elim (Contains-push_cases gates gate g c) [
    | inl old ↦ let m = t.missed g old in (m.0, Contains-left entries ((gate, k) ∷ []) (g, m.0) m.1)
    | inr same ↦ (k, subst (λ (h : Gate). Contains (entries ++ (gate, k) ∷ []) (h, k)) same (Contains-push entries (gate, k)))
  ];
}

-- a gate at the end that stands before: the table stays
pub IsTableOf-again : (gates : List Gate) (entries : List (Gate × ℕ)) (gate : Gate) → Contains gates gate → IsTableOf gates entries → IsTableOf (gates ++ gate ∷ []) entries
IsTableOf-again gates entries gate here t = record {
  found = λ g j c. slice_get-append_left gates (gate ∷ []) j g (t.found g j c);
  missed = λ g c. elim (Contains-push_cases gates gate g c) [
    | inl old ↦ t.missed g old
    | inr same ↦ t.missed g (subst (λ (h : Gate). Contains gates h) same here)
  ];
}
