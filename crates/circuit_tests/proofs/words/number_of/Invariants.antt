use Rattle.std.proofs.Common.{◌≡◌, length}
use Rattle.circuit_tests.proofs.words.number_of.Given as goal

abbrev pub invariant-loop-l : goal.invariant-loop-l
invariant-loop-l l = length l.spelled.items ≡ l.l-index
