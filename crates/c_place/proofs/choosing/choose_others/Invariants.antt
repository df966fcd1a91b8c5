use Rattle.std.proofs.Common.{ℕ, List, ◌+◌, ◌*◌, ◌≤◌, length}
use Rattle.std.specs.List.{All}
use Rattle.word_graph.specs.Meaning.{InputsFit}
use Rattle.word_graph.specs.Size.{graph_size}
use Rattle.word_nodes.specs.Nodes.{Extends, worth}
use Rattle.c_place.specs.Aims.{IsTarget, aims}
use Rattle.c_place.proofs.ChoiceLaws.{OthersSum, OthersPlaced}
use Rattle.c_place.proofs.choosing.choose_others.Given as goal

abbrev pub invariant-loop-number : goal.invariant-loop-number
invariant-loop-number l = record {
  extends : Extends l.fn.region l.fn.graph l.graph;
  nodes : length l.graph ≤ length l.fn.graph + l.number;
  gates : graph_size l.graph ≤ graph_size l.fn.graph + 4 * l.number;
  targets : All (IsTarget l.graph) l.list.items;
  sums : (ins : List ℕ) → InputsFit l.fn.graph ins → OthersSum (worth l.fn.graph ins l.c) (aims l.fn.graph ins l.fn.list.items) (aims l.fn.graph ins l.others) l.taken l.number (aims l.graph ins l.list.items);
  placed : OthersPlaced l.fn.list.items l.others l.taken l.number l.list.items;
}
