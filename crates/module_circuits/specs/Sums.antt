-- Sizes of modules, and when the gates are too many.
use Rattle.std.specs.Prelude.{◌≡◌, ℕ, ◌<◌, ◌≤◌, List, Option, Some, get_or, length}
use Rattle.std.specs.List.{sum_by}
use Rattle.word_graph.specs.declared.entry.Entry.{Entry}
use Rattle.word_graph.specs.Size.{size_at}
use Rattle.module_split.specs.declared.module.Module.{Module}
use Rattle.ring_net.specs.Ring.{Ring}
use Rattle.module_circuits.specs.declared.faults.AssemblyFault.{AssemblyFault}
use Rattle.module_circuits.specs.declared.faults.AssemblyFault.TheVariants.{GateLimit, Memory}
use Rattle.gate_net.specs.Shape.{gate_limit}
use Rattle.bundle_core.specs.declared.parts.Variant.{Variant}
use Rattle.bundle_core.specs.Meaning.{ring_words}
use Rattle.bundle_core.specs.Parts.{FitsClass, ring_size, widths_at}
use Rattle.bundle_laws.specs.Circuits.{Gives, IsCircuitsOf}

-- the sizes of a module's nodes together
abbrev pub module_size : List Entry → Module → ℕ
module_size es part = sum_by (size_at es) part.nodes

-- the limit of gates is answered, with its number, only where the sizes add up to more
abbrev pub IsOverLimit : ℕ → AssemblyFault → Type 0
IsOverLimit size (GateLimit limit) = (limit ≡ gate_limit) × (gate_limit ≤ size)
IsOverLimit size Memory = Unit {0}

-- a ring circuit stands exactly where the module is of the arithmetic class, computes its words, and has no more gates than there are nodes
pub record RingComputes (es : List Entry) (part : Module) (ring : Option Ring) : Type 0 where
  pub valid : FitsClass part.class (widths_at es part.ins) (widths_at es part.outs) ring
  pub words : (r : Ring) → ring ≡ Some r → Gives es part (ring_words (Some r))
  pub size : ring_size ring ≤ length part.nodes

-- the first modules have such circuits, one for each of the list
pub record AreCircuits (es : List Entry) (list : List Module) (variants : List Variant) : Type 0 where
  pub count : length variants ≤ length list
  pub each : (i : ℕ) (part : Module) (variant : Variant) → i < length variants → IsCircuitsOf es (get_or list i part) (get_or variants i variant)
