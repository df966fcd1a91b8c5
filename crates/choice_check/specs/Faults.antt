-- Which fault of a tree is named.
use Rattle.std.specs.Prelude.{◌≡◌, ℕ, ◌+◌, ◌<◌, ◌≤◌, ◌⊎◌, List, [], ◌∷◌, ◌++◌, length, map, All, Any}
use Rattle.choice_core.specs.declared.sharings.Choice.{Choice}
use Rattle.choice_core.specs.declared.problems.Costs.{Costs}
use Rattle.choice_core.specs.declared.trees.TreeNode.{TreeNode}
use Rattle.choice_core.specs.declared.trees.TreeNode.TheVariants.{Branch, Leaf}
use Rattle.choice_core.specs.Bound.{bound_of}
use Rattle.choice_core.specs.Least.{ClosesAt, children}
use Rattle.choice_check.specs.declared.faults.TreeFault.{TreeFault}
use Rattle.choice_check.specs.declared.faults.TreeFault.TheVariants.{Shape, Leaf as LeafFault}

-- a prefix whose node is still to come, as a child of the branch of this number
pub record Due : Type 0 where
  pub branch : ℕ
  pub prefix : List Choice

-- the children of the branch of this number
abbrev pub children_of : Costs → ℕ → List Choice → List Due
children_of p number prefix = map (λ child. record { branch = number; prefix = child }) (children p prefix)

-- the least number among the branches that lack these children
abbrev pub IsLowest : ℕ → List Due → Type 0
IsLowest n dues = Any (λ (due : Due). due.branch ≡ n) dues × All (λ (due : Due). n ≤ due.branch) dues

-- a leaf with the bound of its prefix, which closes
abbrev pub IsSound : Costs → List Choice → List Choice → ℕ → Type 0
IsSound p cs prefix bound = (bound ≡ bound_of p prefix) × ClosesAt p cs prefix

-- the fault that is named where the nodes from this number on stand for what is due: the first of
-- a leaf that isn't sound, a branch at a complete prefix and a surplus node; and where there is
-- none, the lowest numbered branch that lacks a child
unfoldable pub IsFaultFrom : Costs → List Choice → ℕ → List Due → List TreeNode → TreeFault → Type 0
IsFaultFrom p cs number [] [] fault = ⊥
IsFaultFrom p cs number [] (node ∷ nodes) fault = fault ≡ Shape number
IsFaultFrom p cs number (due ∷ dues) [] fault = (n : ℕ) × (fault ≡ Shape n) × IsLowest n (due ∷ dues)
IsFaultFrom p cs number (due ∷ dues) (Branch ∷ nodes) fault =
    ((length p.own ≤ length due.prefix) × (fault ≡ Shape number))
    ⊎ ((length due.prefix < length p.own) × IsFaultFrom p cs (number + 1) (children_of p number due.prefix ++ dues) nodes fault)
IsFaultFrom p cs number (due ∷ dues) (Leaf bound ∷ nodes) fault =
    ((IsSound p cs due.prefix bound → ⊥) × (fault ≡ LeafFault number (bound_of p due.prefix)))
    ⊎ (IsSound p cs due.prefix bound × IsFaultFrom p cs (number + 1) dues nodes fault)

-- the fault of a whole tree; one without nodes lacks the node 0
abbrev pub IsFault : Costs → List Choice → List TreeNode → TreeFault → Type 0
IsFault p cs nodes fault = IsFaultFrom p cs 0 (record { branch = 0; prefix = [] } ∷ []) nodes fault
