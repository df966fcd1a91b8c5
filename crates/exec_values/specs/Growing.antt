-- Graphs that grow by steps, each of nodes of a region.
use Rattle.std.specs.Prelude.{◌≡◌, ℕ, ◌<◌, List, [], ◌∷◌}
use Rattle.word_graph.specs.declared.entry.Entry.{Entry}
use Rattle.word_nodes.specs.Nodes.{Extends}

-- a step: the region of its nodes, and the graph after it
pub record Step : Type 0 where
  pub region : ℕ
  pub entries : List Entry

-- each step extends the graph by nodes of a region below a number
abbrev pub GrownBy : (regions : ℕ) → List Step → (old new : List Entry) → Type 0
GrownBy regions [] old new = new ≡ old
GrownBy regions (step ∷ steps) old new = (step.region < regions) × Extends step.region old step.entries × GrownBy regions steps step.entries new

pub record Grows (regions : ℕ) (old new : List Entry) : Type 0 where
  pub steps : List Step
  pub grown : GrownBy regions steps old new
