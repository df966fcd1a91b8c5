use Rattle.std.proofs.Common.{◌∙◌, refl}
use Rattle.module_split.specs.Cut.{different_after}
use Rattle.module_split.proofs.OrderLaws.{layers-low, order-next}
use Rattle.module_split.proofs.order.order_of.Goals as goal

pub nodes_of-requires-clause-below : goal.nodes_of-requires-clause-below
nodes_of-requires-clause-below c = rw (c.deref.ensures.value, c.in_ok-numbers.ensures) (layers-low c.args.layers c.args.groups.now c.requires.low)

pub loop-layer-init : goal.loop-layer-init
unfolding different_after
loop-layer-init c = c.new-order.ensures.empty

pub loop-layer-preserved : goal.loop-layer-preserved
loop-layer-preserved c = order-next c.loop-layer.layer c.args.groups.now c.loop-layer.order.keys c.add_groups.new.order.keys c.get.result.now c.loop-layer.invariant (c.get.ensures ∙ c.in_ok-nodes.ensures.nodes c.loop-layer.layer c.loop-layer-test.true ∙ rw (c.deref.ensures.value, c.in_ok-numbers.ensures) refl) c.in_ok-add_groups.ensures
