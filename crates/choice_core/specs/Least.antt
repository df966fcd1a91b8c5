-- The least list of choices, and the trees that show it.
use Rattle.std.specs.Prelude.{◌≡◌, ◌<◌, ◌⊎◌, List, [], ◌∷◌, ◌++◌, length, slice_index_or, is_some, filter, map}
use Rattle.choice_core.specs.declared.sharings.Choice.{Choice}
use Rattle.choice_core.specs.declared.sharings.Choice.TheVariants.{A, Y, C, S}
use Rattle.choice_core.specs.declared.problems.Costs.{Costs}
use Rattle.choice_core.specs.declared.trees.TreeNode.{TreeNode}
use Rattle.choice_core.specs.declared.trees.TreeNode.TheVariants.{Branch, Leaf}
use Rattle.choice_core.specs.Choices.{place}
use Rattle.choice_core.specs.Problems.{own_of, cost_of, IsAssignment}
use Rattle.choice_core.specs.Bound.{bound_of}

-- at the first module where the two lists differ, the first one has the later choice
unfoldable pub IsLater : List Choice → List Choice → Type 0
IsLater [] ds = ⊥
IsLater (c ∷ cs) [] = ⊥
IsLater (c ∷ cs) (d ∷ ds) = (place d < place c) ⊎ ((c ≡ d) × IsLater cs ds)

-- no other list costs less, and those that cost as much come later
pub record IsLeast (p : Costs) (cs : List Choice) : Type 0 where
  pub assigned : IsAssignment p cs
  pub before_all : (ds : List Choice) → IsAssignment p ds → (cost_of p cs < cost_of p ds) ⊎ ((cost_of p cs ≡ cost_of p ds) × (IsLater ds cs ⊎ (ds ≡ cs)))

-- no list that extends the prefix comes before the given one
abbrev pub ClosesAt : Costs → List Choice → List Choice → Type 0
ClosesAt p cs prefix = (cost_of p cs < bound_of p prefix) ⊎ (((bound_of p prefix ≡ cost_of p cs) × IsLater prefix cs) ⊎ (prefix ≡ cs))

-- the prefixes longer by one allowed choice of the next module, in order
abbrev pub children : Costs → List Choice → List (List Choice)
children p prefix =
    map (λ c. prefix ++ c ∷ []) (filter (λ c. is_some (own_of (slice_index_or p.own (length prefix) []) c)) (A ∷ Y ∷ C ∷ S ∷ []))

-- the nodes are whole trees at these prefixes, one after another in preorder, with none left over;
-- each leaf has the bound of its prefix, which closes
unfoldable pub ClosesAll : Costs → List Choice → List (List Choice) → List TreeNode → Type 0
ClosesAll p cs [] [] = Unit {0}
ClosesAll p cs [] (node ∷ nodes) = ⊥
ClosesAll p cs (prefix ∷ rest) [] = ⊥
ClosesAll p cs (prefix ∷ rest) (Branch ∷ nodes) = (length prefix < length p.own) × ClosesAll p cs (children p prefix ++ rest) nodes
ClosesAll p cs (prefix ∷ rest) (Leaf bound ∷ nodes) = (bound ≡ bound_of p prefix) × ClosesAt p cs prefix × ClosesAll p cs rest nodes

-- the nodes are one whole tree at the empty prefix
abbrev pub Closes : Costs → List Choice → List TreeNode → Type 0
Closes p cs nodes = ClosesAll p cs ([] ∷ []) nodes
