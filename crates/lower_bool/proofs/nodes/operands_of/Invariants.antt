use Rattle.std.proofs.Common.{◌≡◌, map, take}
use Rattle.lower_bool.specs.Walk.{operand_row}
use Rattle.lower_bool.proofs.nodes.operands_of.Given as goal

abbrev pub invariant-loop-node : goal.invariant-loop-node
invariant-loop-node l = l.operands ≡ map (operand_row l.graph l.places.keys l.rows) (take l.node-index l.node-items)
