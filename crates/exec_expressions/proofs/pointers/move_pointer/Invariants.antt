use Rattle.std.proofs.Common.{◌≡◌, ℕ, List, ◌+◌, ◌*◌, ◌≤◌, length, map, take}
use Rattle.std.specs.List.{All}
use Rattle.word_graph.specs.Meaning.{InputsFit}
use Rattle.word_graph.specs.Size.{graph_size}
use Rattle.word_nodes.specs.Nodes.{Extends, worth}
use Rattle.c_place.specs.Aims.{IsTarget, aims, places_of}
use Rattle.exec_expressions.specs.Pointers.{moved_aim}
use Rattle.exec_expressions.proofs.pointers.move_pointer.Given as goal

abbrev pub invariant-loop-target : goal.invariant-loop-target
invariant-loop-target l = record {
  extends : Extends l.fn.region l.fn.graph l.graph;
  nodes : length l.graph ≤ length l.fn.graph + l.target-index;
  gates : graph_size l.graph ≤ graph_size l.fn.graph + 3584 * l.target-index;
  targets : All (IsTarget l.graph) l.list.items;
  value : (ins : List ℕ) → InputsFit l.fn.graph ins → aims l.graph ins l.list.items ≡ map (moved_aim l.direction (worth l.fn.graph ins l.by)) (aims l.fn.graph ins (take l.target-index l.fn.from.list.items));
  places : places_of l.list.items ≡ places_of (take l.target-index l.fn.from.list.items);
}
