use Rattle.std.proofs.Common.{◌≡◌}
use Rattle.gate_net.specs.Circuit.{Stands}
use Rattle.circuit_tests.proofs.arenas.chain.Given as goal

abbrev pub invariant-loop-place : goal.invariant-loop-place
invariant-loop-place l = (l.net.ins ≡ 2) × Stands l.net l.last
