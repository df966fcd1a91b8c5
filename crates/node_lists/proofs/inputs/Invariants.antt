use Rattle.std.proofs.Common.{◌≡◌, ℕ, List, ◌≤◌, length, take}
use Rattle.word_graph.specs.Growth.{Grows}
use Rattle.word_graph.specs.Meaning.{InputsFit}
use Rattle.word_nodes.specs.Nodes.{AllStand, worths}
use Rattle.node_lists.specs.Lists.{HasWords}
use Rattle.node_lists.proofs.inputs.Given as goal

abbrev pub invariant-loop-number : goal.invariant-loop-number
invariant-loop-number l = record {
  grows : Grows l.fn.graph l.graph l.number 0;
  stands : AllStand l.graph (take l.number l.widths) l.nodes.items;
  value : (ins : List ℕ) → InputsFit l.graph ins → worths l.graph ins l.nodes.items ≡ take l.number ins;
  there : (ins : List ℕ) → InputsFit l.graph ins → l.number ≤ length ins;
  fit : (ins : List ℕ) → InputsFit l.fn.graph ins → HasWords l.widths ins → InputsFit l.graph ins;
}
