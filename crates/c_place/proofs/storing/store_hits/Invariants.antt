use Rattle.std.proofs.Common.{◌≡◌, ℕ, List, ◌+◌, ◌*◌, ◌≤◌, ◌<◌, ◌==◌, ◌&&◌, nat_lt, length, take, drop, if◌then◌else◌}
use Rattle.hy_bits.specs.declared.width.Width.{Width}
use Rattle.word_graph.specs.Meaning.{InputsFit}
use Rattle.word_graph.specs.Size.{graph_size}
use Rattle.word_nodes.specs.Nodes.{AllStand, Extends, worth, worths}
use Rattle.c_place.specs.Accesses.{cell_at, placed}
use Rattle.c_place.proofs.storing.store_hits.Given as goal

abbrev pub invariant-loop-k : goal.invariant-loop-k
invariant-loop-k l = record {
  extends : Extends l.fn.region l.fn.graph l.graph;
  nodes : length l.graph ≤ length l.fn.graph + l.k * (3 + length l.widths);
  gates : graph_size l.graph ≤ graph_size l.fn.graph + l.k * (260 + 256 * length l.widths);
  stands : (ws : List Width) → AllStand l.fn.graph ws l.fn.cells.items → ((k : ℕ) → k < l.target.length → take (length l.widths) (drop (cell_at l.target l.offset k) ws) ≡ l.widths) → AllStand l.graph ws l.cells.items;
  value : (ins : List ℕ) → InputsFit l.fn.graph ins → worths l.graph ins l.cells.items ≡ (if (worth l.fn.graph ins l.there == 1) && nat_lt (worth l.fn.graph ins l.target.index) l.k then placed (worths l.fn.graph ins l.fn.cells.items) (cell_at l.target l.offset (worth l.fn.graph ins l.target.index)) (worths l.fn.graph ins l.values) else worths l.fn.graph ins l.fn.cells.items);
  room : length l.cells.items ≡ length l.fn.cells.items;
}
