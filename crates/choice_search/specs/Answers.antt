-- Which prefixes a search has to split, and which trees it gives.
use Rattle.std.specs.Prelude.{◌≢◌, ◌^◌, ◌<◌, ◌≤◌, List, [], ◌∷◌, ◌++◌, length, All, AllPairs}
use Rattle.choice_core.specs.declared.sharings.Choice.{Choice}
use Rattle.choice_core.specs.declared.problems.Costs.{Costs}
use Rattle.choice_core.specs.declared.trees.TreeNode.{TreeNode}
use Rattle.choice_core.specs.declared.trees.TreeNode.TheVariants.{Branch, Leaf}
use Rattle.choice_core.specs.Problems.{Fits}
use Rattle.choice_core.specs.Least.{ClosesAt, children}

-- a prefix that isn't complete and doesn't close for the list
pub record IsOpen (p : Costs) (cs prefix : List Choice) : Type 0 where
  pub fits : Fits p.own prefix
  pub short : length prefix < length p.own
  pub unclosed : ClosesAt p cs prefix → ⊥

-- no two lists are the same
abbrev pub AllDiffer : List (List Choice) → Type 0
AllDiffer = AllPairs (λ one two. one ≢ two)

-- at most 2^18 prefixes are open
abbrev pub HasFewOpen : Costs → List Choice → Type 0
HasFewOpen p cs = (prefixes : List (List Choice)) → AllDiffer prefixes → All (IsOpen p cs) prefixes → length prefixes ≤ 2 ^ 18

-- more than 2^18 prefixes are open
abbrev pub HasManyOpen : Costs → List Choice → Type 0
HasManyOpen p cs = (prefixes : List (List Choice)) × AllDiffer prefixes × All (IsOpen p cs) prefixes × (2 ^ 18 < length prefixes)

-- of the nodes, which stand for these prefixes in preorder, no branch has a prefix that closes
unfoldable pub BranchesOpen : Costs → List Choice → List (List Choice) → List TreeNode → Type 0
BranchesOpen p cs [] nodes = Unit {0}
BranchesOpen p cs (prefix ∷ rest) [] = Unit {0}
BranchesOpen p cs (prefix ∷ rest) (Branch ∷ nodes) = (ClosesAt p cs prefix → ⊥) × BranchesOpen p cs (children p prefix ++ rest) nodes
BranchesOpen p cs (prefix ∷ rest) (Leaf bound ∷ nodes) = BranchesOpen p cs rest nodes
