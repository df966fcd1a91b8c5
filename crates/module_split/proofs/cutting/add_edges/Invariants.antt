use Rattle.std.proofs.Common.{◌≡◌, ◌++◌, [], drop}
use Rattle.module_split.specs.Steps.{groups_words}
use Rattle.module_split.proofs.cutting.add_edges.Given as goal

abbrev pub invariant-loop-node : goal.invariant-loop-node
invariant-loop-node l = l.edges.items ++ groups_words l.numbers l.to l.from l.words.items (drop l.node-index l.crossing) ≡ l.fn.edges.items ++ groups_words l.numbers l.to 0 [] l.crossing
