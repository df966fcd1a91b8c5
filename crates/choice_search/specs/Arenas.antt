-- The arena of a search: prefixes by number, each with the least bound of those that wait below it.
use Rattle.std.specs.Prelude.{◌≡◌, ℕ, ◌+◌, ◌<◌, ◌≤◌, ◌⊎◌, List, [], ◌∷◌, ◌++◌, Option, Some, None, length, take, drop, map, filter, is_some, slice_index, slice_index_or, slice_set}
use Rattle.choice_core.specs.declared.sharings.Choice.{Choice}
use Rattle.choice_core.specs.declared.sharings.Choice.TheVariants.{A, Y, C, S}
use Rattle.choice_core.specs.declared.problems.Costs.{Costs}
use Rattle.choice_core.specs.Problems.{Row, own_of, Fits}
use Rattle.choice_core.specs.Bound.{bound_of}
use Rattle.choice_core.specs.Least.{IsLater, ClosesAt, children}
use Rattle.choice_search.specs.declared.arenas.Node.{Node}

abbrev pub node_at : List Node → ℕ → Node
node_at nodes i = slice_index_or nodes i (record { parent = 0; choice = A; first = 0; count = 0 })

abbrev pub prefix_at : List (List Choice) → ℕ → List Choice
prefix_at prefixes i = slice_index_or prefixes i []

-- k is the number of a child of the node
abbrev pub IsChildOf : Node → ℕ → Type 0
IsChildOf node k = (node.first ≤ k) × (k < node.first + node.count)

-- a node that was split has its children behind it
pub record IsSplit (nodes : List Node) (i : ℕ) : Type 0 where
  pub after : i < (node_at nodes i).first
  pub within : (node_at nodes i).first + (node_at nodes i).count ≤ length nodes
  pub parents : (k : ℕ) → IsChildOf (node_at nodes i) k → (node_at nodes k).parent ≡ i

-- a node is a child of its parent
pub record IsMade (nodes : List Node) (k : ℕ) : Type 0 where
  pub before : (node_at nodes k).parent < k
  pub child : IsChildOf (node_at nodes (node_at nodes k).parent) k

-- the nodes are a tree whose root has the number 0
pub record IsArena (nodes : List Node) : Type 0 where
  pub some : 0 < length nodes
  pub made : (k : ℕ) → 0 < k → k < length nodes → IsMade nodes k
  pub split : (i : ℕ) → i < length nodes → 0 < (node_at nodes i).count → IsSplit nodes i

-- the children of a node stand for the prefixes longer by one choice
pub record HasChildren (p : Costs) (prefixes : List (List Choice)) (nodes : List Node) (i : ℕ) : Type 0 where
  pub short : length (prefix_at prefixes i) < length p.own
  pub children : take (node_at nodes i).count (drop (node_at nodes i).first prefixes) ≡ children p (prefix_at prefixes i)

-- the nodes stand for these prefixes
pub record StandFor (p : Costs) (prefixes : List (List Choice)) (nodes : List Node) : Type 0 where
  pub size : length prefixes ≡ length nodes
  pub root : prefix_at prefixes 0 ≡ []
  pub fits : (i : ℕ) → i < length nodes → Fits p.own (prefix_at prefixes i)
  pub longer : (k : ℕ) → 0 < k → k < length nodes → prefix_at prefixes k ≡ prefix_at prefixes (node_at nodes k).parent ++ (node_at nodes k).choice ∷ []
  pub split : (i : ℕ) → i < length nodes → 0 < (node_at nodes i).count → HasChildren p prefixes nodes i

-- the number is the least of those of the node's children
pub record IsLeastBelow (node : Node) (leasts : List ℕ) (least : ℕ) : Type 0 where
  pub below : (k : ℕ) → IsChildOf node k → least ≤ slice_index leasts k
  pub found : (k : ℕ) × IsChildOf node k × (slice_index leasts k ≡ least)

-- a node that waits has the bound of its prefix
abbrev pub HasBounds : Costs → List (List Choice) → List Node → List ℕ → Type 0
HasBounds p prefixes nodes leasts = (i : ℕ) → i < length nodes → (node_at nodes i).count ≡ 0 → slice_index leasts i ≡ bound_of p (prefix_at prefixes i)

-- a node that was split has the least number of its children
abbrev pub HasLeasts : List Node → List ℕ → Type 0
HasLeasts nodes leasts = (i : ℕ) → i < length nodes → 0 < (node_at nodes i).count → IsLeastBelow (node_at nodes i) leasts (slice_index leasts i)

-- the arena of a search
pub record IsSearch (p : Costs) (prefixes : List (List Choice)) (nodes : List Node) (leasts : List ℕ) : Type 0 where
  pub arena : IsArena nodes
  pub stand : StandFor p prefixes nodes
  pub size : length leasts ≡ length nodes
  pub bounds : HasBounds p prefixes nodes leasts
  pub least : HasLeasts nodes leasts

-- those of the choices that a module allows, by its own costs
abbrev pub allowed_of : Row → List Choice → List Choice
allowed_of row cs = filter (λ c. is_some (own_of row c)) cs

-- what there is of one
abbrev pub listed : Option ℕ → List ℕ
listed None = []
listed (Some bound) = bound ∷ []

-- the choices that the module behind a prefix allows, in order
unfoldable pub choices_at : Costs → List Choice → List Choice
choices_at p prefix = allowed_of (slice_index_or p.own (length prefix) []) (A ∷ Y ∷ C ∷ S ∷ [])

-- the nodes with those of these choices behind the node i
abbrev pub with_children : List Node → ℕ → List Choice → List Node
with_children nodes i cs = nodes ++ map (λ c. record { parent = i; choice = c; first = 0; count = 0 }) cs

-- the same where the node i names them as its children
abbrev pub split_at : List Node → ℕ → List Choice → List Node
split_at nodes i cs = slice_set (with_children nodes i cs) i (record (node_at nodes i) { first = length nodes; count = length cs })

-- the bounds, and those of the prefixes longer by one of these choices
abbrev pub with_bounds : Costs → List ℕ → List Choice → List Choice → List ℕ
with_bounds p leasts prefix cs = leasts ++ map (λ c. bound_of p (prefix ++ c ∷ [])) cs

-- the second prefix has a greater bound, or at least the same and a later choice
abbrev pub Follows : Costs → List Choice → List Choice → Type 0
Follows p first second = (bound_of p first < bound_of p second) ⊎ ((bound_of p first ≤ bound_of p second) × IsLater second first)

-- the node waits, and each other one that does follows it
pub record IsFirst (p : Costs) (prefixes : List (List Choice)) (nodes : List Node) (i : ℕ) : Type 0 where
  pub within : i < length nodes
  pub waits : (node_at nodes i).count ≡ 0
  pub others : (k : ℕ) → k < length nodes → (node_at nodes k).count ≡ 0 → (k ≡ i) ⊎ Follows p (prefix_at prefixes i) (prefix_at prefixes k)

-- exactly those that wait close for the list
pub record IsShown (p : Costs) (cs : List Choice) (prefixes : List (List Choice)) (nodes : List Node) : Type 0 where
  pub closed : (i : ℕ) → i < length nodes → (node_at nodes i).count ≡ 0 → ClosesAt p cs (prefix_at prefixes i)
  pub unclosed : (i : ℕ) → i < length nodes → 0 < (node_at nodes i).count → ClosesAt p cs (prefix_at prefixes i) → ⊥
