-- Declarations of names that are numbers: which is the latest of a name.
use Rattle.std.specs.Prelude.{ℕ, ◌≡◌, ◌<◌, ◌+◌, ◌==◌, Option, None, Some, List, [], ◌∷◌, map, take, get_or, slice_get, length, if◌then◌else◌}
use Rattle.c_scopes.specs.Scopes.{or_else}
use Rattle.c_scopes.specs.declared.hiding.Declaration.{Declaration}

-- the place of the last of these that is the number, counted from a place on
abbrev pub latest : ℕ → List ℕ → ℕ → Option ℕ
latest at [] id = None
latest at (first ∷ rest) id = or_else (latest (at + 1) rest id) (if first == id then Some at else None)

abbrev pub ids_of : List Declaration → List ℕ
ids_of declarations = map (λ d. d.id) declarations

-- each name's latest declaration, and for each declaration the one that it hides
pub record IsHiding (tops : List (Option ℕ)) (declarations : List Declaration) : Type 0 where
  pub latest_of : (id : ℕ) → id < length tops → get_or tops id None ≡ latest 0 (ids_of declarations) id
  pub outer : (j : ℕ) (d : Declaration) → slice_get declarations j ≡ Some d → d.outer ≡ latest 0 (take j (ids_of declarations)) d.id
  pub within : (j : ℕ) (d : Declaration) → slice_get declarations j ≡ Some d → d.id < length tops

-- a declaration as it is seen
pub record Told : Type 0 where
  pub id : ℕ
  pub number : ℕ

abbrev pub told : Declaration → Told
told d = record { id = d.id; number = d.number }

-- how many names there are, and the declarations
pub record Declarations : Type 0 where
  pub names : ℕ
  pub told : List Told
