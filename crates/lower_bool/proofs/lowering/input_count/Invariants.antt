use Rattle.std.proofs.Common.{◌≡◌, take}
use Rattle.std.specs.List.{sum_by}
use Rattle.lower_bool.specs.Parts.{bits_at}
use Rattle.lower_bool.proofs.lowering.input_count.Given as goal

abbrev pub invariant-loop-node : goal.invariant-loop-node
invariant-loop-node l = l.count ≡ sum_by (bits_at l.fn.graph) (take l.node-index l.ins)
