use Rattle.std.proofs.Common.{◌≡◌}
use Rattle.gate_net.specs.Spelled.{variables_from}
use Rattle.lower_bool.proofs.lowering.inputs_from.Given as goal

abbrev pub invariant-loop-place : goal.invariant-loop-place
invariant-loop-place l = l.literals.items ≡ variables_from l.first l.place
