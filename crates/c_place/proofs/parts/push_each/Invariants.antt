use Rattle.std.proofs.Common.{ℕ, List, ◌+◌, ◌*◌, ◌≤◌, length}
use Rattle.std.specs.List.{All}
use Rattle.word_graph.specs.Meaning.{InputsFit}
use Rattle.word_graph.specs.Size.{graph_size}
use Rattle.word_nodes.specs.Nodes.{Extends}
use Rattle.c_place.specs.Aims.{IsTarget, aim, aims}
use Rattle.c_place.specs.Boards.{Layout, LiesIn}
use Rattle.c_place.proofs.PartLaws.{PartSum}
use Rattle.c_place.proofs.parts.push_each.Given as goal

abbrev pub invariant-loop-k : goal.invariant-loop-k
invariant-loop-k l = record {
  extends : Extends l.fn.region l.fn.graph l.graph;
  nodes : length l.graph ≤ length l.fn.graph + 3 * l.k;
  gates : graph_size l.graph ≤ graph_size l.fn.graph + 260 * l.k;
  targets : All (IsTarget l.graph) l.list.items;
  sums : (ins : List ℕ) → InputsFit l.fn.graph ins → PartSum (aim l.fn.graph ins l.target) l.part.offset l.part.size l.part.count l.k (aims l.fn.graph ins l.fn.list.items) (aims l.graph ins l.list.items);
  lies : (layout : Layout) → LiesIn layout l.target → All (LiesIn layout) l.fn.list.items → All (LiesIn layout) l.list.items;
  few : length l.list.items ≤ length l.fn.list.items + l.k;
}
