use Rattle.std.proofs.Common.{take, arith}
use Rattle.std.proofs.lemmas.List.{length-take-le}
use Rattle.lower_bool.proofs.OperationLaws.{bits_few}
use Rattle.lower_bool.proofs.WalkLaws.{sums-few}
use Rattle.lower_bool.proofs.lowering.input_count.Goals as goal

pub overflow_add-count : goal.overflow_add-count
overflow_add-count c =
    omega (
      arith,
      c.loop-node.invariant,
      c.requires,
      c.bits-count.ensures,
      bits_few c.width_at.result,
      sums-few c.args.graph.now (take c.loop-node.node-index c.args.ins.now),
      length-take-le c.loop-node.node-index c.args.ins.now (omega (arith, c.loop-node-test.true)),
    )
