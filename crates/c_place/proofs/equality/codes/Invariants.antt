use Rattle.std.proofs.Common.{◌≡◌, ℕ, List, ◌+◌, ◌*◌, ◌≤◌, length, take}
use Rattle.hy_bits.specs.declared.width.Width.TheVariants.{W32, W64}
use Rattle.word_graph.specs.Meaning.{InputsFit}
use Rattle.word_graph.specs.Size.{graph_size}
use Rattle.word_nodes.specs.Nodes.{Stands, Extends, worth}
use Rattle.c_place.specs.Aims.{aims, coded_object, coded_cell, product_sizes}
use Rattle.c_place.proofs.equality.codes.Given as goal

abbrev pub invariant-loop-target : goal.invariant-loop-target
invariant-loop-target l = record {
  extends : Extends l.fn.region l.fn.graph l.graph;
  nodes : length l.graph ≤ length l.fn.graph + 7 * l.target-index;
  gates : graph_size l.graph ≤ graph_size l.fn.graph + (3968 * l.target-index + product_sizes (take l.target-index l.fn.p.list.items));
  object_stands : Stands l.graph W32 l.object;
  cell_stands : Stands l.graph W64 l.cell;
  object_value : (ins : List ℕ) → InputsFit l.fn.graph ins → worth l.graph ins l.object ≡ coded_object (worth l.fn.graph ins l.fn.zero) (aims l.fn.graph ins (take l.target-index l.fn.p.list.items));
  cell_value : (ins : List ℕ) → InputsFit l.fn.graph ins → worth l.graph ins l.cell ≡ coded_cell (worth l.fn.graph ins l.fn.origin) (aims l.fn.graph ins (take l.target-index l.fn.p.list.items));
}
