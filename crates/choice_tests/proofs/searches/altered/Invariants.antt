use Rattle.std.proofs.Common.{◌≡◌, length}
use Rattle.choice_tests.proofs.searches.altered.Given as goal

-- as many nodes as were read
abbrev pub invariant-loop-number : goal.invariant-loop-number
invariant-loop-number l = length l.list.items ≡ l.number
