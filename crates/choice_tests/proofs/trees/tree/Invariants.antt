use Rattle.std.proofs.Common.{◌≡◌, length}
use Rattle.choice_tests.proofs.trees.tree.Given as goal

-- as many nodes as were read
abbrev pub invariant-loop-node : goal.invariant-loop-node
invariant-loop-node l = length l.list.items ≡ l.node-index
