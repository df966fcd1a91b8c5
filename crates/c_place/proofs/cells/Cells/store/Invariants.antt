use Rattle.std.proofs.Common.{◌≡◌, ℕ, List, ◌+◌, ◌*◌, ◌^◌, ◌≤◌, length, map, take}
use Rattle.std.specs.List.{All}
use Rattle.word_graph.specs.Meaning.{InputsFit}
use Rattle.word_graph.specs.Size.{graph_size}
use Rattle.word_nodes.specs.Nodes.{Extends, worth, worths}
use Rattle.c_place.specs.declared.targets.Target.{Target}
use Rattle.c_place.specs.Aims.{aim}
use Rattle.c_place.specs.Boards.{IsBoard, layout, objects_held, pointer_at}
use Rattle.c_place.specs.Accesses.{IsEasy, reach}
use Rattle.c_place.proofs.BoardLaws.{scattered}
use Rattle.c_place.proofs.cells.Cells.store.Given as goal

abbrev pub invariant-loop-target : goal.invariant-loop-target
invariant-loop-target l = record {
  extends : Extends l.fn.region l.fn.graph l.graph;
  nodes : length l.graph ≤ length l.fn.graph + 8 * reach (length l.values) (take l.target-index l.fn.to.list.items);
  gates : graph_size l.graph ≤ graph_size l.fn.graph + 512 * reach (length l.values) (take l.target-index l.fn.to.list.items);
  easy : IsEasy l.fn.graph l.fn.to → (length l.graph ≤ length l.fn.graph + l.target-index * (1 + length l.values)) × (graph_size l.graph ≤ graph_size l.fn.graph + l.target-index * (256 * (length l.values + 1)));
  few : All (λ (t : Target). t.length ≤ 2 ^ 63) (take l.target-index l.fn.to.list.items);
  board : IsBoard l.graph l.self;
  layout : layout l.graph l.self ≡ layout l.fn.graph l.fn.self;
  pointers : (k : ℕ) → pointer_at l.self k ≡ pointer_at l.fn.self k;
  objects : (ins : List ℕ) → InputsFit l.fn.graph ins → objects_held l.graph ins l.self ≡ scattered (worth l.fn.graph ins l.guard) (objects_held l.fn.graph ins l.fn.self) l.offset (worths l.fn.graph ins l.values) (map (aim l.fn.graph ins) (take l.target-index l.fn.to.list.items));
}
