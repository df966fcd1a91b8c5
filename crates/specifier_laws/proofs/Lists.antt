-- Lists with one element more at the end, and with one element put in another's place; names that each stand once.
use Rattle.std.proofs.Common.{◌≡◌, ◌≢◌, ◌⊎◌, inl, inr, ℕ, ◌<◌, zero, suc, Bool, true, false, if◌then◌else◌, Option, None, Some, List, [], ◌∷◌, ◌++◌, map, length, slice_get, slice_set, slice_index_or, Contains, bytes_eq, ap, sym, subst, refl, arith}
use Rattle.std.proofs.lemmas.List.Elements.{Contains-push_cases, Contains-append_right}
use Rattle.std.proofs.lemmas.Slice.Eq.{bytes_eq-Decides}
use Rattle.c_tree.specs.Names.{is_name}
use Rattle.c_scopes.specs.Scopes.{Bound, found, or_else}
use Rattle.c_meaning.specs.StatementRules.{AreNames}

-- ---- elements

pub pushed : {A : Type 0} (xs : List A) (y : A) (k : ℕ) (x : A) → slice_get (xs ++ y ∷ []) k ≡ Some x → (slice_get xs k ≡ Some x) ⊎ (y ≡ x)
pushed [] y zero x h = inr (cc)
pushed [] y (suc k) x h = absurd (cc)
pushed (z ∷ xs) y zero x h = inl h
pushed (z ∷ xs) y (suc k) x h = pushed xs y k x h

pub put : {A : Type 0} (xs : List A) (n : ℕ) (y : A) (k : ℕ) (x : A) → slice_get (slice_set xs n y) k ≡ Some x → (slice_get xs k ≡ Some x) ⊎ (y ≡ x)
put [] n y k x h = inl h
put (z ∷ xs) zero y zero x h = inr (cc)
put (z ∷ xs) zero y (suc k) x h = inl h
put (z ∷ xs) (suc n) y zero x h = inl h
put (z ∷ xs) (suc n) y (suc k) x h = put xs n y k x h

pub some-pushed : {A : Type 0} (xs : List A) (y : A) → (xs ++ y ∷ []) ≢ []
some-pushed [] y = λ e. absurd (cc)
some-pushed (x ∷ xs) y = λ e. absurd (cc)

pub map-pushed : {A B : Type 0} (f : A → B) (xs : List A) (y : A) → map f (xs ++ y ∷ []) ≡ map f xs ++ f y ∷ []
map-pushed f [] y = refl
map-pushed f (x ∷ xs) y = ap (λ zs. f x ∷ zs) (map-pushed f xs y)

-- ---- names

contains-first : (x : List ℕ) (xs : List (List ℕ)) → Contains (x ∷ xs) x
contains-first x xs = (0, omega arith, refl)

contains-cases : (x : List ℕ) (xs : List (List ℕ)) (y : List ℕ) (k : ℕ) → k < length (x ∷ xs) → slice_index_or (x ∷ xs) k y ≡ y → (x ≡ y) ⊎ Contains xs y
contains-cases x xs y zero lt e = inl e
contains-cases x xs y (suc k) lt e = inr (k, omega (arith, lt), e)

apart : (first : List ℕ) (names : List (List ℕ)) (name : List ℕ) → (Contains names first → ⊥) → (Contains (first ∷ names) name → ⊥) → Contains names first ⊎ (name ≡ first) → ⊥
apart first names name once new (inl before) = once before
apart first names name once new (inr same) = new (subst (λ (x : List ℕ). Contains (first ∷ names) x) (sym same) (contains-first first names))

-- C11 6.7p3: one name more, which isn't there yet
pub names-pushed : (names : List (List ℕ)) (name : List ℕ) → AreNames names → is_name name ≡ true → (Contains names name → ⊥) → AreNames (names ++ name ∷ [])
names-pushed [] name h is new = (is, (λ c. absurd (omega (arith, c.1))), tt)
names-pushed (first ∷ names) name h is new = (
  h.0,
  (λ c. apart first names name h.1 new (Contains-push_cases names name first c)),
  names-pushed names name h.2 is (λ c. new (Contains-append_right (first ∷ []) names name c)),
)

or-else-none : (a b : Option ℕ) → or_else a b ≡ None → (a ≡ None) × (b ≡ None)
or-else-none None b h = (refl, h)
or-else-none (Some n) b h = absurd (cc)

-- a name that isn't found isn't bound
other-name : (name first : List ℕ) (n : ℕ) (b : Bool) → bytes_eq name first ≡ b → ◌≡◌ {A = Option ℕ} (if b then Some n else None) None → (name ≡ first → ⊥)
other-name name first n true e h = absurd (cc)
other-name name first n false e h = λ same. absurd (cc ((bytes_eq-Decides name first).1 same, e))

abbrev names_bound : List Bound → List (List ℕ)
names_bound bound = map (λ b. b.name) bound

module _ (name : List ℕ) where
  bound-before : (first : Bound) (bound : List Bound) → (name ≡ first.name → ⊥) → (Contains (names_bound bound) name → ⊥) → (first.name ≡ name) ⊎ Contains (names_bound bound) name → ⊥
  bound-before first bound other rest (inl same) = other (sym same)
  bound-before first bound other rest (inr c) = rest c

  pub unfound : (bound : List Bound) → found bound name ≡ None → Contains (names_bound bound) name → ⊥
  unfound [] h = λ c. absurd (omega (arith, c.1))
  unfound (first ∷ bound) h =
      let none = or-else-none (found bound name) (if bytes_eq name first.name then Some first.number else None) h in
      λ c. bound-before first bound (other-name name first.name first.number (bytes_eq name first.name) refl none.1) (unfound bound none.0)
      (contains-cases first.name (names_bound bound) name c.0 c.1 c.2)
