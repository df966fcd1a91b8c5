use Rattle.std.proofs.Common.{◌≡◌, ℕ, List, ◌+◌, ◌*◌, ◌^◌, ◌≤◌, length, map, take, drop, replicate}
use Rattle.word_graph.specs.Meaning.{InputsFit}
use Rattle.word_graph.specs.Size.{graph_size}
use Rattle.word_nodes.specs.Nodes.{AllStand, Extends, worths}
use Rattle.std.specs.List.{All}
use Rattle.c_place.specs.declared.targets.Target.{Target}
use Rattle.c_place.specs.Aims.{aim}
use Rattle.c_place.specs.Boards.{nodes_of}
use Rattle.c_place.specs.Accesses.{IsEasy, reach}
use Rattle.c_place.proofs.ReadLaws.{gathered}
use Rattle.c_place.proofs.cells.Cells.load.Given as goal

abbrev pub invariant-loop-target : goal.invariant-loop-target
invariant-loop-target l = record {
  extends : Extends l.fn.region l.fn.graph l.graph;
  nodes : length l.graph ≤ length l.fn.graph + 8 * reach (length l.widths) (take l.target-index l.fn.from.list.items);
  gates : graph_size l.graph ≤ graph_size l.fn.graph + 512 * reach (length l.widths) (take l.target-index l.fn.from.list.items);
  same : IsEasy l.fn.graph l.fn.from → l.graph ≡ l.fn.graph;
  few : All (λ (t : Target). t.length ≤ 2 ^ 63) (take l.target-index l.fn.from.list.items);
  stands : AllStand l.graph l.widths l.got.items;
  words : (ins : List ℕ) → InputsFit l.fn.graph ins → worths l.graph ins l.got.items ≡ gathered (λ a. worths l.fn.graph ins (take (length l.widths) (drop (a.first + a.index * a.size + l.offset) (nodes_of l.self a.object)))) (replicate (length l.widths) 0) (map (aim l.fn.graph ins) (take l.target-index l.fn.from.list.items));
}
