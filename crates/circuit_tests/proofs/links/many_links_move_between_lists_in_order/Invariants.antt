use Rattle.std.proofs.Common.{◌≡◌}
use Rattle.circuit_tests.proofs.links.many_links_move_between_lists_in_order.Given as goal

abbrev pub invariant-loop-node : goal.invariant-loop-node
invariant-loop-node g l = l.links.lists ≡ 2

abbrev pub invariant-loop-node-2 : goal.invariant-loop-node-2
invariant-loop-node-2 g l = l.links.lists ≡ 2
