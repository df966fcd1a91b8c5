-- What a bundle is assembled from: a program as a graph of words, with what its inputs, its result and its regions are called.
use Rattle.std.specs.Prelude.{◌≡◌, ◌≢◌, ℕ, ◌<◌, ◌≤◌, true, List, Some, length, map, slice_get}
use Rattle.std.specs.List.{All, AllZip, list_all}
use Rattle.hy_bits.specs.declared.op.Op.TheVariants.{In}
use Rattle.hy_bits.specs.declared.shape.Port.{Port}
use Rattle.hy_bits.specs.Shape.{leaves, leaves_of_ports}
use Rattle.word_graph.specs.declared.entry.Entry.{Entry}
use Rattle.word_graph.specs.declared.entry.Node.{Node}
use Rattle.word_graph.specs.Meaning.{value}
use Rattle.word_graph.specs.Shape.{IsGraph}
use Rattle.word_graph.specs.Term.{width_at}
use Rattle.bundle_core.specs.declared.parts.Parts.{Parts}
use Rattle.bundle_core.specs.Means.{ReachesResult}
use Rattle.bundle_core.specs.Names.{are_names, is_good_shape}
use Rattle.bundle_core.specs.Parts.{HasRegion, IsDraft, IsLeaf, leaf_limit, result_widths}
use Rattle.assembly.specs.declared.outlines.Outline.{Outline}
use Rattle.bundle_laws.specs.Circuits.{IsCircuitsOf}

-- ports, result, regions, nodes and results are as a bundle has them, and each node but inputs reaches a result
pub record IsOutline (o : Outline) : Type 0 where
  pub port_names : are_names (map (λ port. port.name) o.ports) ≡ true
  pub port_shapes : list_all (λ (port : Port). is_good_shape port.shape) o.ports ≡ true
  pub port_leaves : length (leaves_of_ports o.ports) ≤ leaf_limit
  pub result_shape : is_good_shape o.result ≡ true
  pub result_leaves : length (leaves o.result) ≤ leaf_limit
  pub region_names : are_names o.regions ≡ true
  pub inputs : All (λ (e : Entry). IsLeaf (leaves_of_ports o.ports) e.op e.width e.number) o.graph
  pub regions : All (λ (e : Entry). HasRegion (length o.regions) e.op e.region) o.graph
  pub results_stand : All (λ (node : Node). node.index < length o.graph) o.results
  pub results_widths : map (λ (node : Node). width_at o.graph node.index) o.results ≡ result_widths o.result
  pub reached : (k : ℕ) (e : Entry) → slice_get o.graph k ≡ Some e → e.op ≢ In → ReachesResult o.graph o.results k

-- what the graph gives where the inputs are these words: the values of the results
abbrev pub graph_outcome : Outline → List ℕ → List ℕ
graph_outcome o inputs = map (λ (node : Node). value o.graph inputs node.index) o.results

-- the outline of a bundle's parts
abbrev pub outline_of : Parts → Outline
outline_of b = record { ports = b.ports; result = b.result; regions = b.regions; graph = b.graph; results = b.results; table = b.table }

-- the parts are valid, have this outline and so many layers, and for each module circuits that compute its words and are made with care
pub record IsDraftOf (o : Outline) (asked : ℕ) (b : Parts) : Type 0 where
  pub valid : IsDraft b
  pub graph : IsGraph b.graph
  pub outline : outline_of b ≡ o
  pub layers : b.layers ≡ asked
  pub circuits : AllZip (IsCircuitsOf b.graph) b.modules.list b.variants
