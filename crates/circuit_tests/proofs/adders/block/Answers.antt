use Rattle.std.proofs.Common.{length}
use Rattle.adder_blocks.proofs.TreeLaws.{within_power}
use Rattle.circuit_tests.proofs.adders.block.Goals as goal

pub returns-in-Add-clause-ins : goal.returns-in-Add-clause-ins
returns-in-Add-clause-ins c = (c.sum.ensures.gates (length c.args.a.now) (within_power (length c.args.a.now))).same_ins

pub returns-in-Sub-clause-ins : goal.returns-in-Sub-clause-ins
returns-in-Sub-clause-ins c = (c.difference.ensures.gates (length c.args.a.now) (within_power (length c.args.a.now))).same_ins

pub returns-in-Neg-clause-ins : goal.returns-in-Neg-clause-ins
returns-in-Neg-clause-ins c = (c.negative.ensures.gates (length c.args.a.now) (within_power (length c.args.a.now))).same_ins

pub returns-in-Shl-clause-ins : goal.returns-in-Shl-clause-ins
returns-in-Shl-clause-ins c = (c.shift.ensures.gates (length c.args.a.now) (within_power (length c.args.a.now))).same_ins
