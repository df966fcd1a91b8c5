use Rattle.std.proofs.Common.{◌≡◌, map, take}
use Rattle.ring_net.specs.Part.{gate_at}
use Rattle.ring_net.proofs.part.gates_of.Given as goal

abbrev pub invariant-loop-node : goal.invariant-loop-node
invariant-loop-node l = l.gates.items ≡ map (gate_at l.graph l.places.keys) (take l.node-index l.nodes)
