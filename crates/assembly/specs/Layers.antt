-- How many layers an assembled bundle has: as many as were asked for, but where so many can't be searched.
use Rattle.std.specs.Prelude.{◌≡◌, ℕ, ◌<◌, ◌≤◌, List, length}
use Rattle.std.specs.List.{AllZip}
use Rattle.module_split.specs.Cut.{cut_of}
use Rattle.choice_core.specs.declared.sharings.Choice.{Choice}
use Rattle.choice_core.specs.Least.{IsLeast}
use Rattle.choice_search.specs.Answers.{HasManyOpen}
use Rattle.bundle_core.specs.declared.parts.Parts.{Parts}
use Rattle.bundle_core.specs.Costs.{problem_of}
use Rattle.bundle_core.specs.Means.{Made}
use Rattle.bundle_core.specs.Parts.{IsDraft}
use Rattle.bundle_laws.specs.Circuits.{HasWords}

-- the most modules of a bundle that has fewer layers than were asked for
abbrev pub few_modules : ℕ
few_modules = 9

-- other valid parts with the same graph, results and table, with so many layers, made with care, whose circuits compute their modules' words
pub record IsRival (b : Parts) (asked : ℕ) (other : Parts) : Type 0 where
  pub draft : IsDraft other
  pub graph : other.graph ≡ b.graph
  pub results : other.results ≡ b.results
  pub table : other.table ≡ b.table
  pub layers : other.layers ≡ asked
  pub made : Made other
  pub words : AllZip (HasWords other.graph) other.modules.list other.variants

-- a rival with the layers that were asked for has a least list of choices for which more than 2^18 incomplete prefixes don't close
pub record IsBeyondSearch (asked : ℕ) (b : Parts) : Type 0 where
  pub rival : Parts
  pub is_rival : IsRival b asked rival
  pub choices : List Choice
  pub least : IsLeast (problem_of rival) choices
  pub beyond : HasManyOpen (problem_of rival) choices

-- the layers are those that were asked for; or they are fewer, where a rival is beyond the search, and are then the greatest number of layers
-- below whose cut has at most nine modules
pub data HasLayers (asked : ℕ) (b : Parts) : Type 0 where
  as_asked : b.layers ≡ asked → HasLayers asked b
  fewer : IsBeyondSearch asked b → b.layers < asked → length (cut_of b.graph b.results b.layers).list ≤ few_modules
      → ((k : ℕ) → b.layers < k → k < asked → few_modules < length (cut_of b.graph b.results k).list) → HasLayers asked b
