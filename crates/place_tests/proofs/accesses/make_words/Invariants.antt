use Rattle.std.proofs.Common.{take}
use Rattle.word_nodes.specs.Nodes.{AllStand, Extends}
use Rattle.place_tests.specs.Boards.{five_words}
use Rattle.place_tests.proofs.accesses.make_words.Given as goal

abbrev pub invariant-loop-word : goal.invariant-loop-word
invariant-loop-word l = record {
  extends : Extends 0 l.fn.graph l.graph;
  stands : AllStand l.graph (take l.word-index five_words) l.nodes.items;
}
