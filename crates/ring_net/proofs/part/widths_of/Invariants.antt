use Rattle.std.proofs.Common.{◌≡◌, map, take}
use Rattle.word_graph.specs.Term.{width_at}
use Rattle.ring_net.proofs.part.widths_of.Given as goal

abbrev pub invariant-loop-node : goal.invariant-loop-node
invariant-loop-node l = l.widths.items ≡ map (width_at l.graph) (take l.node-index l.nodes)
