-- Names by their numbers, and declarations that are bound to them.
use Rattle.std.specs.Prelude.{ℕ, ◌≡◌, ◌≤◌, ◌<◌, ◌+◌, Option, List, [], ◌∷◌, ◌++◌, None, Some, map, get_or, slice_get, length, if◌then◌else◌}
use Rattle.std.specs.List.{list_any}
use Rattle.std.specs.Str.{bytes_eq}
use Rattle.c_scopes.specs.Scopes.{Bound, or_else}
use Rattle.c_scopes.specs.Hiding.{Told, Declarations}

-- these names and this one, each once
abbrev pub noted : List (List ℕ) → List ℕ → List (List ℕ)
noted names name = if list_any (bytes_eq name) names then names else names ++ name ∷ []

abbrev pub bound_as : List (List ℕ) → Told → Bound
bound_as names t = record { name = get_or names t.id []; number = t.number }

abbrev pub bound_by : List (List ℕ) → List Told → List Bound
bound_by names told = map (bound_as names) told

-- the place of the last declaration of a name, counted from a place on
abbrev pub place_of : ℕ → List Bound → List ℕ → Option ℕ
place_of at [] name = None
place_of at (first ∷ rest) name = or_else (place_of (at + 1) rest name) (if bytes_eq name first.name then Some at else None)

-- each declaration is of a name, and each name stands once
pub record AreBound (names : List (List ℕ)) (declarations : Declarations) : Type 0 where
  pub count : length names ≤ declarations.names
  pub within : (j : ℕ) (t : Told) → slice_get declarations.told j ≡ Some t → t.id < length names
  pub once : (i j : ℕ) → i < length names → j < length names → get_or names i [] ≡ get_or names j [] → i ≡ j

-- scopes open one after another: no fewer declarations stand before one than before the scope around it, and no more than there are
abbrev pub AreOpened : ℕ → List ℕ → ℕ → Type 0
AreOpened least [] most = least ≤ most
AreOpened least (n ∷ rest) most = (least ≤ n) × AreOpened n rest most
