-- What the calls leave of each list, for the crates above: which links stand where.
use Rattle.std.proofs.Common.{◌≡◌, ◌≢◌, ℕ, zero, suc, ◌+◌, ◌-◌, true, false, List, [], ◌∷◌, ◌++◌, length, map, get_or, Option, Some, None, sym, ◌∙◌, subst, refl, inl, inr, ◌⊎◌, arith}
use Rattle.std.specs.List.{Contains, slice_get}
use Rattle.std.specs.Option.{MatchOption, ForSome}
use Rattle.std.proofs.lemmas.Bool.{cases_lt}
use Rattle.std.proofs.lemmas.List.{get_or-map, get_or_past, get_or_append_left, get_or-append_right, length-map}
use Rattle.hy_links.specs.declared.Link.{Link}
use Rattle.hy_links.specs.Arena.{Arena, chain, Stands, IsLinkedOnce, same_link, without, link_after}
use Rattle.hy_links.proofs.Places.{cases_link, same_link_true, same_link_false}

contains_cons : (y : Link) (ys : List Link) (x : Link) → Contains ys x → Contains (y ∷ ys) x
contains_cons y ys x (k, within, is) = (suc k, omega arith, is)

contains_nil : (x : Link) → ¬ Contains [] x
contains_nil x (k, within, is) = omega arith

contains_cases : (y : Link) (ys : List Link) (x : Link) → Contains (y ∷ ys) x → (y ≡ x) ⊎ Contains ys x
contains_cases y ys x (zero, within, is) = inl is
contains_cases y ys x (suc k, within, is) = inr (k, omega arith, is)

-- a link that is taken out is in the list no more
pub not_Contains-without : (x : Link) (xs : List Link) → ¬ Contains (without x xs) x
not_Contains-without x [] there = contains_nil x there
not_Contains-without x (y ∷ ys) there = elim (cases_link y x) [
  | inl same ↦ (let passes : same_link y x ≡ true = same_link_true y x same in not_Contains-without x ys (rw passes at there))
  | inr apart ↦ (let fails : same_link y x ≡ false = same_link_false y x apart in
      elim (contains_cases y (without x ys) x (rw fails at there)) [ inl same ↦ apart same | inr more ↦ not_Contains-without x ys more ])
]

-- every other link stays
pub Contains-without : (x : Link) (xs : List Link) (z : Link) → z ≢ x → Contains xs z → Contains (without x xs) z
Contains-without x [] z other there = absurd (contains_nil z there)
Contains-without x (y ∷ ys) z other there = elim (cases_link y x) [
  | inl same ↦ (let passes : same_link y x ≡ true = same_link_true y x same in
      rw passes (elim (contains_cases y ys z there) [ inl first ↦ absurd (other (sym first ∙ same)) | inr more ↦ Contains-without x ys z other more ]))
  | inr apart ↦ (let fails : same_link y x ≡ false = same_link_false y x apart in
      rw fails (elim (contains_cases y ys z there) [ inl first ↦ (0, omega arith, first) | inr more ↦ contains_cons y (without x ys) z (Contains-without x ys z other more) ]))
]

-- and nothing comes
pub Contains-from_without : (x : Link) (xs : List Link) (z : Link) → Contains (without x xs) z → Contains xs z
Contains-from_without x [] z there = there
Contains-from_without x (y ∷ ys) z there = elim (cases_link y x) [
  | inl same ↦ (let passes : same_link y x ≡ true = same_link_true y x same in contains_cons y ys z (Contains-from_without x ys z (rw passes at there)))
  | inr apart ↦ (let fails : same_link y x ≡ false = same_link_false y x apart in
      elim (contains_cases y (without x ys) z (rw fails at there)) [ inl first ↦ (0, omega arith, first) | inr more ↦ contains_cons y ys z (Contains-from_without x ys z more) ])
]

-- the list of a number after `unlink`
pub chain-without : (chains : List (List Link)) (x : Link) (list : ℕ) → get_or (map (without x) chains) list [] ≡ without x (get_or chains list [])
chain-without chains x list = elim (cases_lt list (length chains)) [
  | inl within ↦ get_or-map (without x) chains list [] [] within
  | inr past ↦ rw (get_or_past chains list [] past) (get_or_past (map (without x) chains) list [] (omega (arith, length-map chains (without x))))
]

-- after `unlink` the link stands nowhere
pub not_Stands-without : (a : Arena) (x : Link) → ¬ Stands (record { lists = a.lists; nodes = a.nodes; chains = map (without x) a.chains }) x
not_Stands-without a x (list, there) = not_Contains-without x (chain a list) (subst (λ (xs : List Link). Contains xs x) (chain-without a.chains x list) there)

-- the list of a number after `make`
pub chain-make : (chains : List (List Link)) (list : ℕ) → get_or (chains ++ [] ∷ []) list [] ≡ get_or chains list []
chain-make chains list = elim (cases_lt list (length chains)) [
  | inl within ↦ get_or_append_left chains ([] ∷ []) [] list within
  | inr past ↦ get_or-append_right chains ([] ∷ []) (length chains) list [] refl past ∙ of_one (list - length chains) ∙ sym (get_or_past chains list [] past)
]
  where
    of_one : (k : ℕ) → get_or {A = List Link} ([] ∷ []) k [] ≡ []
    of_one zero = refl
    of_one (suc k) = refl

-- after `make` the new node's links stand nowhere
pub not_Stands-make : (a : Arena) (side : ℕ) → IsLinkedOnce a → ¬ Stands (record { lists = a.lists; nodes = a.nodes + 1; chains = a.chains ++ [] ∷ [] }) (record { node = a.nodes; side = side })
not_Stands-make a side once (list, there) =
    let made = (once.made list (record { node = a.nodes; side = side }) (subst (λ (xs : List Link). Contains xs (record { node = a.nodes; side = side })) (chain-make a.chains list) there)).0 in
    omega arith

first_stands : (xs : List Link) (x : Link) → slice_get xs 0 ≡ Some x → Contains xs x
first_stands [] x is = absurd (cc)
first_stands (y ∷ ys) x is = (0, omega arith, cc)

link_after_stands : (xs : List Link) (from x : Link) → link_after from xs ≡ Some x → Contains xs x
link_after_stands [] from x is = absurd (cc)
link_after_stands (y ∷ ys) from x is = elim (cases_link y from) [
  | inl same ↦ (let passes : same_link y from ≡ true = same_link_true y from same in contains_cons y ys x (first_stands ys x (rw passes at is)))
  | inr apart ↦ (let fails : same_link y from ≡ false = same_link_false y from apart in contains_cons y ys x (link_after_stands ys from x (rw fails at is)))
]

-- what a walk meets stands in the list
pub walk_stands : (after result : Option Link) (xs : List Link) → MatchOption after (result ≡ slice_get xs 0) (λ from. result ≡ link_after from xs) → ForSome result (λ x. Contains xs x)
walk_stands None result xs walked x is = first_stands xs x (sym walked ∙ is)
walk_stands (Some from) result xs walked x is = link_after_stands xs from x (sym walked ∙ is)
