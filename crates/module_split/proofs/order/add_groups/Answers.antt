use Rattle.std.proofs.Common.{refl, sym}
use Rattle.module_split.specs.Cut.{different_after}
use Rattle.module_split.proofs.OrderLaws.{order-more, order-same}
use Rattle.module_split.proofs.order.add_groups.Goals as goal
use Rattle.module_split.proofs.order.add_groups.Goals.{in-Some+in_ok-insert, in_default}

pub loop-node-init : goal.loop-node-init
unfolding different_after
loop-node-init c = refl

pub loop-node-preserved : goal.loop-node-preserved
loop-node-preserved c = elim c.match-group_at.branch [
  | in-Some+in_ok-insert w ↦
      rw w.order-is (order-more c.args.groups.now c.args.nodes.now c.loop-node.node-index 0 c.loop-node-test.true c.args.order.now.keys c.loop-node.order.keys w.insert.new.self.keys w.in-Some.group c.loop-node.invariant (sym w.in-Some.ensures) w.in_ok-insert.ensures.keys)
  | in_default w ↦
      rw w.order-is (order-same c.args.groups.now c.args.nodes.now c.loop-node.node-index 0 c.loop-node-test.true c.args.order.now.keys c.loop-node.order.keys c.loop-node.invariant (sym w.in_default.ensures))
]
