-- How far a search has come.
use Rattle.std.specs.Prelude.{◌≡◌, ℕ, ◌+◌, ◌*◌, ◌<◌, ◌≤◌, List, length, All, Contains}
use Rattle.choice_core.specs.declared.sharings.Choice.{Choice}
use Rattle.choice_core.specs.declared.problems.Costs.{Costs}
use Rattle.choice_core.specs.Least.{IsLeast}
use Rattle.choice_search.specs.declared.arenas.Node.{Node}
use Rattle.choice_search.specs.Answers.{IsOpen, AllDiffer}
use Rattle.choice_search.specs.Arenas.{node_at, prefix_at, IsSearch, IsFirst}

-- the prefix was split
abbrev pub HasBranch : List (List Choice) → List Node → List Choice → Type 0
HasBranch prefixes nodes q = (k : ℕ) × (k < length nodes) × (0 < (node_at nodes k).count) × (prefix_at prefixes k ≡ q)

-- a search and the prefixes that it split, which don't close for the least list
pub record IsSearched (p : Costs) (prefixes popped : List (List Choice)) (nodes : List Node) (leasts : List ℕ) : Type 0 where
  pub search : IsSearch p prefixes nodes leasts
  pub differ : AllDiffer popped
  pub opens : All (λ q. (cs : List Choice) → IsLeast p cs → IsOpen p cs q) popped
  pub from : All (HasBranch prefixes nodes) popped
  pub into : (k : ℕ) → k < length nodes → 0 < (node_at nodes k).count → Contains popped (prefix_at prefixes k)
  pub size : length nodes ≤ 4 * length popped + 1

-- the prefix is the first of those that wait
pub record IsAt (p : Costs) (prefixes popped : List (List Choice)) (nodes : List Node) (leasts : List ℕ) (prefix : List Choice) (i : ℕ) : Type 0 where
  pub searched : IsSearched p prefixes popped nodes leasts
  pub first : IsFirst p prefixes nodes i
  pub is : prefix ≡ prefix_at prefixes i
