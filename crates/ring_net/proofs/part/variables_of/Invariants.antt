use Rattle.std.proofs.Common.{◌≡◌, map, take}
use Rattle.ring_net.specs.Part.{variable_of}
use Rattle.ring_net.proofs.part.variables_of.Given as goal

abbrev pub invariant-loop-node : goal.invariant-loop-node
invariant-loop-node l = l.variables.items ≡ map (variable_of l.places.keys) (take l.node-index l.nodes)
