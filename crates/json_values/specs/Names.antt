-- Sets of names.
use Rattle.std.specs.Prelude.{◌≡◌, ℕ, List, Bool}
use Rattle.std.specs.Ordering.{nat_cmp}
use Rattle.std.specs.Cmp.Lexicographic.{slice_cmp}
use Rattle.std.specs.Borrow.{Bor}
use Rattle.std.specs.BTreeSet.{BTreeSet, contains_by}
use Rattle.json_values.specs.Walk.{is_among}

-- whether the set has this name
abbrev pub holds : List ℕ → BTreeSet (Bor (List ℕ)) → Bool
holds name set = contains_by (λ k. slice_cmp nat_cmp name k.now) set

-- the set has exactly these names
abbrev pub IsSetOf : List (List ℕ) → BTreeSet (Bor (List ℕ)) → Type 0
IsSetOf names set = (name : List ℕ) → holds name set ≡ is_among name names
