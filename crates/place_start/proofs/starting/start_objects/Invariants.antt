use Rattle.std.proofs.Common.{◌≡◌, ℕ, List, ◌+◌, ◌≤◌, length, map, take, drop}
use Rattle.std.specs.List.{All}
use Rattle.word_graph.specs.Meaning.{InputsFit}
use Rattle.word_graph.specs.Size.{graph_size}
use Rattle.word_nodes.specs.Nodes.{Extends}
use Rattle.c_meaning.specs.StatementRules.{cells_in}
use Rattle.c_place.specs.Boards.{HeldFits, Layout, cells_held, held_layout}
use Rattle.place_start.specs.Begins.{IsOne}
use Rattle.place_start.specs.Starts.{object_layout, start_held}
use Rattle.place_start.proofs.starting.start_objects.Given as goal

abbrev pub invariant-loop-object : goal.invariant-loop-object
invariant-loop-object l = record {
  extends : Extends 0 l.fn.graph l.graph;
  nodes : length l.graph + cells_in (drop l.object-index l.objects) ≤ length l.fn.graph + 1 + cells_in l.objects;
  gates : graph_size l.graph ≤ graph_size l.fn.graph;
  null : IsOne l.graph l.null;
  fits : (lay : Layout) → All (HeldFits l.graph lay) l.held.items;
  layout : map (held_layout l.graph) l.held.items ≡ map (object_layout l.structs) (take l.object-index l.objects);
  value : (ins : List ℕ) → InputsFit l.fn.graph ins → map (cells_held l.graph ins) l.held.items ≡ map start_held (take l.object-index l.objects);
}
