use Rattle.std.proofs.Common.{◌≡◌, ℕ, List, ◌≤◌, ◌+◌, length, take}
use Rattle.word_graph.specs.Meaning.{InputsFit}
use Rattle.word_graph.specs.Size.{graph_size}
use Rattle.word_nodes.specs.Nodes.{AllStand, Extends, worths}
use Rattle.node_lists.proofs.constants.Given as goal

abbrev pub invariant-loop-place : goal.invariant-loop-place
invariant-loop-place l = record {
  extends : (region : ℕ) → Extends region l.fn.graph l.graph;
  nodes : length l.graph ≤ length l.fn.graph + l.place;
  gates : graph_size l.graph ≤ graph_size l.fn.graph;
  stands : AllStand l.graph (take l.place l.widths) l.nodes.items;
  value : (ins : List ℕ) → InputsFit l.fn.graph ins → worths l.graph ins l.nodes.items ≡ take l.place l.words;
}
