-- The least choices of a draft, and when they are beyond the search.
use Rattle.std.specs.Prelude.{◌≡◌, ◌<◌, List, [], ◌∷◌, length}
use Rattle.choice_core.specs.declared.sharings.Choice.{Choice}
use Rattle.choice_core.specs.Least.{Closes, IsLeast}
use Rattle.choice_search.specs.Answers.{BranchesOpen, HasManyOpen}
use Rattle.bundle_core.specs.declared.parts.Parts.{Parts}
use Rattle.bundle_core.specs.Costs.{problem_of}
use Rattle.bundle_core.specs.Whole.{Whole}
use Rattle.assembly.specs.declared.choosing.Search.{Search}
use Rattle.assembly.specs.declared.choosing.Search.TheVariants.{Found, GivenUp}
use Rattle.assembly.specs.Layers.{few_modules}

-- the choices are the least ones, and the tree closes for them, with no branch at a prefix that closes
pub record HasLeastChoices (b : Whole) : Type 0 where
  pub least : IsLeast (problem_of b.parts) b.choices
  pub closes : Closes (problem_of b.parts) b.choices b.tree.nodes
  pub branches : BranchesOpen (problem_of b.parts) b.choices ([] ∷ []) b.tree.nodes

-- more than 2^18 prefixes don't close for the least choices, and there are more than nine modules
pub record IsGivenUp (d : Parts) : Type 0 where
  pub choices : List Choice
  pub least : IsLeast (problem_of d) choices
  pub beyond : HasManyOpen (problem_of d) choices
  pub many : few_modules < length (problem_of d).own

-- the search of a draft found its bundle, or gave it up
abbrev pub IsChosen : Parts → Search → Type 0
IsChosen d (Found b) = (b.parts ≡ d) × HasLeastChoices b
IsChosen d (GivenUp e) = (e ≡ d) × IsGivenUp d
