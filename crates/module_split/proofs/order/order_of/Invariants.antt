use Rattle.std.proofs.Common.{◌≡◌}
use Rattle.module_split.specs.Cut.{order_of}
use Rattle.module_split.proofs.order.order_of.Given as goal

abbrev pub invariant-loop-layer : goal.invariant-loop-layer
invariant-loop-layer l = l.order.keys ≡ order_of l.layer l.groups
