use Rattle.std.proofs.Common.{◌≡◌, take}
use Rattle.std.specs.List.{sum_by}
use Rattle.lower_bool.specs.Parts.{bits_at}
use Rattle.lower_bool.specs.Walk.{AreInputs}
use Rattle.lower_bool.proofs.lowering.add_inputs.Given as goal

abbrev pub invariant-loop-node : goal.invariant-loop-node
invariant-loop-node l = (l.places.keys ≡ take l.node-index l.ins) × AreInputs l.fn.graph l.ins l.node-index l.rows × (l.first ≡ sum_by (bits_at l.fn.graph) (take l.node-index l.ins))
