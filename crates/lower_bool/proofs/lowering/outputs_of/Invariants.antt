use Rattle.std.proofs.Common.{◌≡◌, take}
use Rattle.std.specs.List.{flat_map}
use Rattle.lower_bool.specs.Walk.{row_of_node}
use Rattle.lower_bool.proofs.lowering.outputs_of.Given as goal

abbrev pub invariant-loop-node : goal.invariant-loop-node
invariant-loop-node l = l.literals.items ≡ flat_map (row_of_node l.places.keys l.rows) (take l.node-index l.outs)
