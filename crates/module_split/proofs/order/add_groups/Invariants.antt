use Rattle.std.proofs.Common.{◌≡◌, take}
use Rattle.std.specs.List.{filter_map}
use Rattle.module_split.specs.Cut.{different_after}
use Rattle.module_split.specs.Steps.{group_at}
use Rattle.module_split.proofs.order.add_groups.Given as goal

abbrev pub invariant-loop-node : goal.invariant-loop-node
invariant-loop-node l = l.order.keys ≡ different_after l.fn.order.keys (filter_map (group_at l.groups) (take l.node-index l.nodes))
