use Rattle.std.proofs.Common.{◌≡◌, get_or, map, take}
use Rattle.word_graph.specs.declared.entry.Node.{Node}
use Rattle.bundle_core.proofs.meaning.words_of.Given as goal

abbrev pub invariant-loop-node : goal.invariant-loop-node
invariant-loop-node l = l.out.items ≡ map (λ (node : Node). get_or l.words node.index 0) (take l.node-index l.results)
