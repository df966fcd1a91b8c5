use Rattle.std.proofs.Common.{◌≡◌, ℕ, List, ◌+◌, ◌*◌, ◌≤◌, ◌==◌, ◌&&◌, nat_lt, length, take, drop, if◌then◌else◌}
use Rattle.word_graph.specs.Meaning.{InputsFit}
use Rattle.word_graph.specs.Size.{graph_size}
use Rattle.word_nodes.specs.Nodes.{AllStand, Extends, worth, worths}
use Rattle.c_place.specs.Accesses.{cell_at}
use Rattle.c_place.proofs.loading.load_target.Given as goal

abbrev pub invariant-loop-k : goal.invariant-loop-k
invariant-loop-k l = record {
  extends : Extends l.fn.region l.fn.graph l.graph;
  nodes : length l.graph ≤ length l.fn.graph + l.k * (3 + length l.widths);
  gates : graph_size l.graph ≤ graph_size l.fn.graph + l.k * (260 + 256 * length l.widths);
  stands : AllStand l.graph l.widths l.got.items;
  value : (ins : List ℕ) → InputsFit l.fn.graph ins → worths l.graph ins l.got.items ≡ (if (worth l.fn.graph ins l.target.guard == 1) && nat_lt (worth l.fn.graph ins l.target.index) l.k then worths l.fn.graph ins (take (length l.widths) (drop (cell_at l.target l.offset (worth l.fn.graph ins l.target.index)) l.nodes)) else worths l.fn.graph ins l.initial.got.items);
}
