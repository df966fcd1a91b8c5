-- What is promised of a compiled bundle: it means its program for every list of choices, and its circuits are made with care.
use Rattle.std.specs.Prelude.{◌≡◌, ◌≢◌, ℕ, List, Some, map, slice_get}
use Rattle.std.specs.List.{AllZip, Contains}
use Rattle.hy_bits.specs.declared.op.Op.TheVariants.{In}
use Rattle.hy_bits.specs.declared.shape.Port.{Port}
use Rattle.hy_bits.specs.declared.shape.Shape.{Shape}
use Rattle.hy_bits.specs.Shape.{FitPorts}
use Rattle.word_graph.specs.declared.entry.Entry.{Entry}
use Rattle.word_graph.specs.declared.entry.Node.{Node}
use Rattle.word_graph.specs.Meaning as graph
use Rattle.word_graph.specs.Term.{taken_by}
use Rattle.module_split.specs.declared.module.Module.{Module}
use Rattle.gate_net.specs.Paths.{IsReduced}
use Rattle.choice_core.specs.declared.sharings.Choice.{Choice}
use Rattle.choice_core.specs.Problems.{IsAssignment}
use Rattle.bundle_core.specs.declared.parts.Parts.{Parts}
use Rattle.bundle_core.specs.declared.parts.Variant.{Variant}
use Rattle.bundle_core.specs.Costs.{problem_of}
use Rattle.bundle_core.specs.Meaning.{value}
use Rattle.bundle_core.specs.Stated.{HasStatedAnds, HasStatedDepth}

-- the parts mean the program that has these inputs and this result, and whose bound word and output words are this function of its inputs
pub record Means (b : Parts) (inputs_of : List Port) (result_of : Shape) (outcome : List ℕ → List ℕ) : Type 0 where
  pub ports : b.ports ≡ inputs_of
  pub result : b.result ≡ result_of
  -- for every list of allowed choices and all inputs that fit
  pub circuits : (choices : List Choice) → IsAssignment (problem_of b) choices → (inputs : List ℕ) → FitPorts b.ports inputs → value b choices inputs ≡ outcome inputs
  -- and so do the words of the graph itself
  pub graph : (inputs : List ℕ) → FitPorts b.ports inputs → map (λ (node : Node). graph.value b.graph inputs node.index) b.results ≡ outcome inputs

-- the node at place k is a result, or is taken by a node that reaches one
pub data ReachesResult (es : List Entry) (results : List Node) : ℕ → Type 0 where
  here : (k : ℕ) (node : Node) → Contains results node → node.index ≡ k → ReachesResult es results k
  onward : (k user : ℕ) (e : Entry) → slice_get es user ≡ Some e → Contains (taken_by e) k → ReachesResult es results user → ReachesResult es results k

-- the circuits of a module are reduced, and keep the stated numbers
pub record IsMadeFor (es : List Entry) (part : Module) (variant : Variant) : Type 0 where
  pub compact_reduced : IsReduced variant.compact
  pub shallow_reduced : IsReduced variant.shallow
  pub few_ands : HasStatedAnds es part.nodes variant.compact
  pub few_levels : HasStatedDepth es part.nodes variant.shallow

-- each node other than an input reaches a result, and the circuits of each module are made so
pub record Made (b : Parts) : Type 0 where
  pub reached : (k : ℕ) (e : Entry) → slice_get b.graph k ≡ Some e → e.op ≢ In → ReachesResult b.graph b.results k
  pub circuits : AllZip (IsMadeFor b.graph) b.modules.list b.variants
