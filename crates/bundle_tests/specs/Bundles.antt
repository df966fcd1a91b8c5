-- The parts of bundles that tests write down.
use Rattle.std.specs.Prelude.{◌≡◌, ℕ, ◌≤◌, List, [], ◌∷◌, length}
use Rattle.hy_bits.specs.declared.shape.Port.{Port}
use Rattle.hy_bits.specs.declared.shape.Shape.{Shape}
use Rattle.word_graph.specs.declared.entry.Entry.{Entry}
use Rattle.word_graph.specs.declared.entry.Node.{Node}
use Rattle.module_split.specs.Cut.{cut_of}
use Rattle.gate_net.specs.Circuit.{Circuit}
use Rattle.gate_net.specs.Shape.{IsCircuit, gate_limit}
use Rattle.choice_core.specs.declared.problems.Table.{Table}
use Rattle.bundle_core.specs.declared.parts.Parts.{Parts}
use Rattle.bundle_core.specs.declared.parts.Variant.{Variant}

-- mpc_main
abbrev pub main_region : List ℕ
main_region = 109 ∷ 112 ∷ 99 ∷ 95 ∷ 109 ∷ 97 ∷ 105 ∷ 110 ∷ []

-- all parts, where the modules are those of the cut
abbrev pub parts_of : List Entry → List Node → List Port → Shape → List (List ℕ) → List Variant → Table → Parts
parts_of entries results ports shape regions variants table = record {
  layers = 16;
  ports = ports;
  result = shape;
  regions = regions;
  graph = entries;
  results = results;
  modules = cut_of entries results 16;
  variants = variants;
  table = table;
}

-- a circuit of these many inputs and outputs, with few gates
pub record IsNetOf (ins outs : ℕ) (n : Circuit) : Type 0 where
  pub circuit : IsCircuit n
  pub ins_are : n.ins ≡ ins
  pub outs_are : length n.outs ≡ outs
  pub budget_is : n.budget ≡ gate_limit
  pub few : length n.gates ≤ 100
