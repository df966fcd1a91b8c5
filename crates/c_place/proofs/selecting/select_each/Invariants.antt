use Rattle.std.proofs.Common.{◌≡◌, ℕ, List, ◌+◌, ◌*◌, ◌≤◌, ◌==◌, length, take, if◌then◌else◌}
use Rattle.word_graph.specs.Meaning.{InputsFit}
use Rattle.word_graph.specs.Size.{graph_size}
use Rattle.word_nodes.specs.Nodes.{AllStand, Extends, worth, worths}
use Rattle.c_place.proofs.selecting.select_each.Given as goal

abbrev pub invariant-loop-place : goal.invariant-loop-place
invariant-loop-place l = record {
  extends : Extends l.fn.region l.fn.graph l.graph;
  nodes : length l.graph ≤ length l.fn.graph + l.place;
  gates : graph_size l.graph ≤ graph_size l.fn.graph + 256 * l.place;
  stands : AllStand l.graph (take l.place l.widths) l.chosen.items;
  value : (ins : List ℕ) → InputsFit l.fn.graph ins → worths l.graph ins l.chosen.items ≡ take l.place (if worth l.fn.graph ins l.c == 1 then worths l.fn.graph ins l.words else worths l.fn.graph ins l.others);
}
