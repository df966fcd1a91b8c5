use Rattle.std.proofs.Common.{◌≡◌, ◌+◌, ◌-◌, ◌≤◌, ◌++◌, reverse}
use Rattle.std.specs.List.{range_with_len}
use Rattle.choice_search.proofs.trees.push_children.Given as goal

-- the children from this number on are on the stack
abbrev pub invariant-loop-number : goal.invariant-loop-number
invariant-loop-number l = (l.stack.items ≡ l.fn.stack.items ++ reverse (range_with_len l.number (l.node.first + l.node.count - l.number))) × (l.number ≤ l.node.first + l.node.count) × (l.node.first ≤ l.number)
