use Rattle.std.proofs.Common.{ℕ, List, ◌+◌, ◌*◌, ◌≤◌, ◌==◌, length}
use Rattle.std.specs.List.{All}
use Rattle.word_graph.specs.Meaning.{InputsFit}
use Rattle.word_graph.specs.Size.{graph_size}
use Rattle.word_nodes.specs.Nodes.{Extends, worth}
use Rattle.c_place.specs.Aims.{IsTarget, aims}
use Rattle.c_place.proofs.ChoiceLaws.{OnesSum, OnesPlaced}
use Rattle.c_place.proofs.choosing.choose_ones.Given as goal

abbrev pub invariant-loop-one : goal.invariant-loop-one
invariant-loop-one l = record {
  extends : Extends l.fn.region l.fn.graph l.graph;
  nodes : length l.graph ≤ length l.fn.graph + 2 * l.one-index;
  gates : graph_size l.graph ≤ graph_size l.fn.graph + 260 * l.one-index;
  targets : All (IsTarget l.graph) l.list.items;
  sums : (ins : List ℕ) → InputsFit l.fn.graph ins → OnesSum (worth l.fn.graph ins l.c == 1) (aims l.fn.graph ins l.ones) (aims l.fn.graph ins l.others) l.one-index l.taken.items (aims l.graph ins l.list.items);
  placed : OnesPlaced l.ones l.others l.one-index l.taken.items l.list.items;
}
