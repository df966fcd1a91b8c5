use Rattle.std.proofs.Common.{◌≤◌}
use Rattle.circuit_tests.proofs.arenas.shortened.Given as goal

abbrev pub invariant-loop-place : goal.invariant-loop-place
invariant-loop-place l = l.count ≤ l.place
