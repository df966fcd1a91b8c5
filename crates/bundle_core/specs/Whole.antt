-- Which bundles are valid: a draft with choices that its modules allow, their cost, and any tree.
use Rattle.std.specs.Prelude.{◌≡◌, ℕ, List}
use Rattle.choice_core.specs.declared.sharings.Choice.{Choice}
use Rattle.choice_core.specs.declared.trees.Tree.{Tree}
use Rattle.choice_core.specs.Problems.{IsAssignment, cost_of}
use Rattle.bundle_core.specs.declared.parts.Parts.{Parts}
use Rattle.bundle_core.specs.Parts.{IsDraft}
use Rattle.bundle_core.specs.Costs.{problem_of}

-- what contracts see of a bundle: its parts, a choice for each module, what these cost, and the tree that shows that they are the least
pub record Whole : Type 0 where
  pub parts : Parts
  pub choices : List Choice
  pub cost : ℕ
  pub tree : Tree

-- a bundle is valid; nothing is said of its tree, nor of what its circuits compute
pub record IsBundle (b : Whole) : Type 0 where
  pub draft : IsDraft b.parts
  -- one choice for each module, which it allows
  pub choices : IsAssignment (problem_of b.parts) b.choices
  -- the cost is that of the choices
  pub cost : b.cost ≡ cost_of (problem_of b.parts) b.choices
