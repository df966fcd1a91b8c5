-- Where a walk through the nodes stands: a path of choices says all prefixes that are due.
use Rattle.std.specs.Prelude.{◌≡◌, ℕ, zero, suc, ◌+◌, ◌<◌, ◌≤◌, Bool, false, cond, ◌==◌, nat_lt, All, List, [], ◌∷◌, ◌++◌, length, take, drop, map, filter, is_some, slice_index_or}
use Rattle.choice_core.specs.declared.sharings.Choice.{Choice}
use Rattle.choice_core.specs.declared.sharings.Choice.TheVariants.{A, Y, C, S}
use Rattle.choice_core.specs.declared.problems.Costs.{Costs}
use Rattle.choice_core.specs.declared.trees.TreeNode.{TreeNode}
use Rattle.choice_core.specs.Choices.{place}
use Rattle.choice_core.specs.Problems.{Row, own_of, Fits}
use Rattle.choice_core.specs.Least.{ClosesAll}
use Rattle.choice_check.specs.declared.faults.TreeFault.{TreeFault}
use Rattle.choice_check.specs.declared.walks.Walk.{Walk}
use Rattle.choice_check.specs.Faults.{Due, IsFaultFrom}

-- the allowed choices of a module whose place is at least low, in order
abbrev pub choices_from : Row → ℕ → List Choice
choices_from row low = filter (λ c. is_some (own_of row c)) (drop low (A ∷ Y ∷ C ∷ S ∷ []))

abbrev pub row_of : Costs → ℕ → Row
row_of p m = slice_index_or p.own m []

-- the path's first k choices and one more
abbrev pub with_choices : List Choice → ℕ → List Choice → List (List Choice)
with_choices path k cs = map (λ c. take k path ++ c ∷ []) cs

-- the later siblings of the path's first k choices, and of each shorter part of them
unfoldable pub siblings : Costs → List Choice → ℕ → List (List Choice)
siblings p path zero = []
siblings p path (suc k) = with_choices path k (choices_from (row_of p k) (place (slice_index_or path k A) + 1)) ++ siblings p path k

-- whether, at the first module where the lists differ, the first one has the later choice
unfoldable pub later : List Choice → List Choice → Bool
later [] ds = false
later (c ∷ cs) [] = false
later (c ∷ cs) (d ∷ ds) = cond (place c == place d) (later cs ds) (nat_lt (place d) (place c))

-- the path's first choices are allowed ones
pub record IsPath (p : Costs) (path : List Choice) (depth : ℕ) : Type 0 where
  pub size : length path ≡ length p.own
  pub within : depth ≤ length path
  pub fits : Fits p.own (take depth path)

-- the last of what is due is a child of the branch of this number
unfoldable pub EndsAt : ℕ → List Due → Type 0
EndsAt n [] = ⊥
EndsAt n (due ∷ []) = due.branch ≡ n
EndsAt n (due ∷ next ∷ dues) = EndsAt n (next ∷ dues)

abbrev pub prefixes : List Due → List (List Choice)
prefixes dues = map (λ (due : Due). due.prefix) dues

-- what is due at a walk
pub record IsWalk (p : Costs) (path : List Choice) (walk : Walk) (dues : List Due) : Type 0 where
  pub size : walk.count ≡ length dues
  pub due : 0 < walk.count → prefixes dues ≡ take walk.depth path ∷ siblings p path walk.depth
  pub above : All (λ (due : Due). walk.lowest ≤ due.branch) dues
  pub ends : 0 < walk.count → EndsAt walk.lowest dues

-- the node is sound, and the walk goes on behind it
abbrev pub GoesOn : Costs → List Choice → ℕ → TreeNode → List Choice → Walk → List Choice → Walk → Type 0
GoesOn p cs number node path walk path' walk' =
    (dues : List Due) → IsWalk p path walk dues →
    (rest : List Due) × IsWalk p path' walk' rest
    × ((nodes : List TreeNode) (fault : TreeFault) → IsFaultFrom p cs (number + 1) rest nodes fault → IsFaultFrom p cs number dues (node ∷ nodes) fault)
    × ((nodes : List TreeNode) → ClosesAll p cs (prefixes rest) nodes → ClosesAll p cs (prefixes dues) (node ∷ nodes))

-- the node has the fault
abbrev pub Stops : Costs → List Choice → ℕ → TreeNode → List Choice → Walk → TreeFault → Type 0
Stops p cs number node path walk fault =
    (dues : List Due) → IsWalk p path walk dues → (nodes : List TreeNode) → IsFaultFrom p cs number dues (node ∷ nodes) fault
