use Rattle.std.proofs.Common.{◌≡◌, take}
use Rattle.gate_net.specs.Spelled.{constants_of}
use Rattle.lower_bool.proofs.nodes.constants.Given as goal

abbrev pub invariant-loop-bit : goal.invariant-loop-bit
invariant-loop-bit l = l.literals.items ≡ constants_of (take l.bit-index l.bit-items)
