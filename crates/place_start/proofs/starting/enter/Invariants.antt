use Rattle.std.proofs.Common.{◌≡◌, ℕ, List, map, drop}
use Rattle.std.specs.List.{All}
use Rattle.word_graph.specs.Meaning.{InputsFit}
use Rattle.word_nodes.specs.Nodes.{worths}
use Rattle.c_place.specs.Boards.{HeldFits, cells_held, held_layout}
use Rattle.place_start.specs.Begins.{Enters}
use Rattle.place_start.specs.Starts.{with_arguments}
use Rattle.place_start.proofs.starting.enter.Given as goal

-- the arguments that are left, from the objects so far, are all of them
abbrev pub invariant-loop-argument : goal.invariant-loop-argument
invariant-loop-argument l = record {
  layout : map (held_layout l.graph) l.held.items ≡ map (held_layout l.fn.graph) l.fn.held.items;
  fits : All (HeldFits l.graph (map (held_layout l.fn.graph) l.fn.held.items)) l.held.items;
  enters : Enters l.graph (map (held_layout l.fn.graph) l.fn.held.items) (drop l.argument-index l.arguments) l.rest;
  value : (ins : List ℕ) → InputsFit l.graph ins → with_arguments (drop l.argument-index l.arguments) (worths l.graph ins l.rest) (map (cells_held l.graph ins) l.held.items) ≡ with_arguments l.arguments (worths l.graph ins l.words) (map (cells_held l.graph ins) l.fn.held.items);
}
