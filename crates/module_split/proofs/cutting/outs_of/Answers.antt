use Rattle.module_split.specs.Steps.{is_out}
use Rattle.module_split.proofs.UseLaws.{filter-kept, filter-dropped}
use Rattle.module_split.proofs.cutting.outs_of.Goals as goal
use Rattle.module_split.proofs.cutting.outs_of.Goals.{then-is_out+in_ok-push, else-is_out}

pub loop-node-preserved : goal.loop-node-preserved
loop-node-preserved c = elim c.if-is_out.branch [
  | then-is_out+in_ok-push w ↦ rw w.outs-is (filter-kept (is_out c.args.wanted.now c.args.users.now c.args.numbers.now c.args.number) c.args.nodes.now c.loop-node.outs.items w.push.new.self.items c.loop-node.node-index 0 c.is_out.result c.loop-node-test.true c.loop-node.invariant c.is_out.ensures w.if-is_out.true w.in_ok-push.ensures.items)
  | else-is_out w ↦ rw w.outs-is (filter-dropped (is_out c.args.wanted.now c.args.users.now c.args.numbers.now c.args.number) c.args.nodes.now c.loop-node.outs.items c.loop-node.node-index 0 c.is_out.result c.loop-node-test.true c.loop-node.invariant c.is_out.ensures w.if-is_out.false)
]
