-- Drafts of outlines.
use Rattle.std.proofs.Common.{◌≡◌, ℕ, ◌<◌, ◌≤◌, List, get_or, length, refl, sym, subst, arith}
use Rattle.std.specs.Prelude.{Result, IfErr}
use Rattle.std.specs.List.{All, AllZip, Contains, sum_by}
use Rattle.std.proofs.lemmas.List.{get_or_default}
use Rattle.word_graph.specs.declared.entry.Entry.{Entry}
use Rattle.word_graph.specs.declared.entry.Node.{Node}
use Rattle.word_graph.specs.Shape.{IsGraph}
use Rattle.word_graph.specs.Size.{graph_size}
use Rattle.module_split.specs.declared.module.Module.{Module}
use Rattle.module_split.specs.Cut.{cut_of}
use Rattle.module_split.specs.Modules.{IsModuleOf, layer_limit}
use Rattle.module_split.specs.Pieces.{Pieces}
use Rattle.gate_net.specs.Shape.{gate_limit}
use Rattle.bundle_core.specs.declared.parts.Parts.{Parts}
use Rattle.bundle_core.specs.declared.parts.Variant.{Variant}
use Rattle.bundle_core.specs.Parts.{IsDraft}
use Rattle.bundle_laws.specs.Circuits.{IsCircuitsOf}
use Rattle.bundle_laws.proofs.Sizes.{nodes-of, sizes-of}
use Rattle.module_circuits.specs.declared.faults.AssemblyFault.{AssemblyFault}
use Rattle.assembly.specs.declared.outlines.Outline.{Outline}
use Rattle.assembly.specs.Outlines.{IsDraftOf, IsOutline}
use Rattle.module_circuits.specs.Sums.{AreCircuits, IsOverLimit, module_size}
use Rattle.module_circuits.proofs.CircuitLaws.{all-valid, over-limit, ring-sum, zipped}

pub modules-of : (es : List Entry) (results : List Node) (layers : ℕ) (list : List Module) → All (λ (node : Node). node.index < length es) results → 0 < layers → layers ≤ layer_limit → list ≡ (cut_of es results layers).list → All (IsModuleOf es) list
modules-of es results layers list stand some few is i d h = record {
  results = results;
  layers = layers;
  some = some;
  few = few;
  stand = stand;
  cut = subst (λ (l : List Module). Contains l (get_or list i d)) is (i, h, get_or_default list i (get_or list i d) d h);
}

-- the parts of the outline with this cut and these circuits
abbrev pub parts_of : Outline → ℕ → Pieces → List Variant → Parts
parts_of o layers pieces variants = record {
  layers = layers;
  ports = o.ports;
  result = o.result;
  regions = o.regions;
  graph = o.graph;
  results = o.results;
  modules = pieces;
  variants = variants;
  table = o.table;
}

module _ (o : Outline) (layers : ℕ) (pieces : Pieces) (variants : List Variant) (outline : IsOutline o) (graph : IsGraph o.graph) (some : 0 < layers) (few : layers ≤ layer_limit) (cut : pieces ≡ cut_of o.graph o.results layers)
    (are : AreCircuits o.graph pieces.list variants) (long : length variants ≡ length pieces.list) where
  all : AllZip (IsCircuitsOf o.graph) pieces.list variants
  all = zipped o.graph pieces.list variants are long

  pub is-draft : sum_by (λ (v : Variant). length v.compact.gates) variants ≤ gate_limit → sum_by (λ (v : Variant). length v.shallow.gates) variants ≤ gate_limit → IsDraft (parts_of o layers pieces variants)
  is-draft compact shallow = record {
    layers_some = some;
    layers_few = few;
    port_names = outline.port_names;
    port_shapes = outline.port_shapes;
    port_leaves = outline.port_leaves;
    result_shape = outline.result_shape;
    result_leaves = outline.result_leaves;
    region_names = outline.region_names;
    inputs = outline.inputs;
    regions = outline.regions;
    results_stand = outline.results_stand;
    results_widths = outline.results_widths;
    modules = cut;
    variants = all-valid o.graph pieces.list variants all;
    ring_gates =
        let nodes : sum_by (λ (part : Module). length part.nodes) pieces.list ≤ length o.graph = subst (λ (p : Pieces). sum_by (λ (part : Module). length part.nodes) p.list ≤ length o.graph) (sym cut) (nodes-of o.graph o.results layers graph some) in
        omega (arith, ring-sum o.graph pieces.list variants all, nodes, graph.limit);
    compact_gates = compact;
    shallow_gates = shallow;
  }

  pub is-draft-of : sum_by (λ (v : Variant). length v.compact.gates) variants ≤ gate_limit → sum_by (λ (v : Variant). length v.shallow.gates) variants ≤ gate_limit → IsDraftOf o layers (parts_of o layers pieces variants)
  is-draft-of compact shallow = record { valid = is-draft compact shallow; graph = graph; outline = refl; layers = refl; circuits = all }

pub over-graph : (o : Outline) (layers : ℕ) (pieces : Pieces) (e : AssemblyFault) → IsGraph o.graph → 0 < layers → pieces ≡ cut_of o.graph o.results layers → IsOverLimit (sum_by (module_size o.graph) pieces.list) e → IsOverLimit (graph_size o.graph) e
over-graph o layers pieces e graph some cut over =
    over-limit e (sum_by (module_size o.graph) pieces.list) (graph_size o.graph)
    (subst (λ (p : Pieces). sum_by (module_size o.graph) p.list ≤ graph_size o.graph) (sym cut) (sizes-of o.graph o.results layers graph some)) over

pub limit-moved : {A : Type 0} (r : Result A AssemblyFault) (o p : Outline) → o ≡ p → IfErr r (IsOverLimit (graph_size o.graph)) → IfErr r (IsOverLimit (graph_size p.graph))
limit-moved r o p same over = subst (λ (q : Outline). IfErr r (IsOverLimit (graph_size q.graph))) same over
