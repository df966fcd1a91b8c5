-- One of two lists of targets by a truth: the targets of one place become one, and the others of each list stay where their list is chosen.
use Rattle.std.specs.Prelude.{◌≡◌, ℕ, ◌+◌, ◌≤◌, Bool, true, false, if◌then◌else◌, List, [], ◌∷◌, Option, None, Some, set, slice_get}
use Rattle.std.specs.List.{All, Contains}
use Rattle.c_place.specs.declared.targets.Place.{Place}
use Rattle.c_place.specs.declared.targets.Target.{Target}
use Rattle.c_place.specs.Aims.{Aim, place_of, places_of}

-- a table of places: an entry tells a number at which its place stands, and each place has an entry
pub record IsTableOf (places : List Place) (entries : List (Place × ℕ)) : Type 0 where
  pub found : (p : Place) (k : ℕ) → Contains entries (p, k) → slice_get places k ≡ Some p
  pub missed : (p : Place) → Contains places p → (k : ℕ) × Contains entries (p, k)

-- a target of the place among others, which was free and is now taken
pub record IsTaken (others : List Target) (place : Place) (old new : List Bool) (t : Target) : Type 0 where
  pub number : ℕ
  pub is : slice_get others number ≡ Some t
  pub same : place_of t ≡ place
  pub free : slice_get old number ≡ Some false
  pub taken : new ≡ set old number true

-- all targets of the place are taken
abbrev pub AllTaken : (others : List Target) → List Bool → Place → Type 0
AllTaken others taken place = (j : ℕ) → slice_get (places_of others) j ≡ Some place → slice_get taken j ≡ Some true

-- the same of a place from a number on
abbrev pub TakenFrom : ℕ → (others : List Target) → List Bool → Place → Type 0
TakenFrom k others taken place = (j : ℕ) → k ≤ j → slice_get (places_of others) j ≡ Some place → slice_get taken j ≡ Some true

-- the target isn't there
abbrev pub absent : Aim → Aim
absent a = record a { guard = 0 }

-- what becomes of a target where its list isn't chosen: its partner, or nothing
abbrev pub partner_aim : (Target → Aim) → Target → Option Target → Aim
partner_aim f t None = absent (f t)
partner_aim f t (Some other) = f other

-- how many guards of those that are taken are 1, and of the others
abbrev pub sum_taken : List Bool → List Aim → ℕ
sum_taken [] xs = 0
sum_taken (b ∷ bs) [] = 0
sum_taken (b ∷ bs) (x ∷ xs) = (if b then x.guard else 0) + sum_taken bs xs

abbrev pub sum_left : List Bool → List Aim → ℕ
sum_left [] xs = 0
sum_left (b ∷ bs) [] = 0
sum_left (b ∷ bs) (x ∷ xs) = (if b then 0 else x.guard) + sum_left bs xs

-- each that is there is one of these
abbrev pub AreAmong : List Aim → List Aim → Type 0
AreAmong ys xs = All (λ x. x.guard ≡ 1 → Contains ys x) xs
