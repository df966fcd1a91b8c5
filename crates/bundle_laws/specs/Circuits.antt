-- What holds of the circuits that a module is given: they compute its words for all inputs, and they are made with care.
use Rattle.std.specs.Prelude.{◌≡◌, ℕ, ◌≤◌, List, Some, length, map}
use Rattle.std.specs.List.{sum_by}
use Rattle.word_graph.specs.declared.entry.Entry.{Entry}
use Rattle.word_graph.specs.Meaning.{InputsFit, value}
use Rattle.word_graph.specs.Size.{size_at}
use Rattle.module_split.specs.declared.module.Module.{Module}
use Rattle.ring_net.specs.Ring.{Ring}
use Rattle.bundle_core.specs.declared.parts.Variant.{Variant}
use Rattle.bundle_core.specs.Meaning.{net_words, ring_words}
use Rattle.bundle_core.specs.Means.{IsMadeFor}
use Rattle.bundle_core.specs.Parts.{IsVariant, ring_size, widths_at}

-- for all inputs that fit the graph, the function gives of the words that the module takes those that it hands on
abbrev pub Gives : List Entry → Module → (List ℕ → List ℕ) → Type 0
Gives es part f = (inputs : List ℕ) → InputsFit es inputs → f (map (value es inputs) part.ins) ≡ map (value es inputs) part.outs

-- so does each of the module's circuits
pub record HasWords (es : List Entry) (part : Module) (variant : Variant) : Type 0 where
  pub ring : (r : Ring) → variant.ring ≡ Some r → Gives es part (ring_words (Some r))
  pub compact : Gives es part (net_words variant.compact (widths_at es part.ins) (widths_at es part.outs))
  pub shallow : Gives es part (net_words variant.shallow (widths_at es part.ins) (widths_at es part.outs))

-- the circuits of gates have no more gates than the sizes of the module's nodes add up to, and the ring circuit, if there is one, no more
-- than there are nodes
pub record HasSizes (es : List Entry) (part : Module) (variant : Variant) : Type 0 where
  pub ring : ring_size variant.ring ≤ length part.nodes
  pub compact : length variant.compact.gates ≤ sum_by (size_at es) part.nodes
  pub shallow : length variant.shallow.gates ≤ sum_by (size_at es) part.nodes

-- all that holds of the circuits of a module
pub record IsCircuitsOf (es : List Entry) (part : Module) (variant : Variant) : Type 0 where
  pub valid : IsVariant es part variant
  pub words : HasWords es part variant
  pub made : IsMadeFor es part variant
  pub sizes : HasSizes es part variant
