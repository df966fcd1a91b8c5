use Rattle.std.proofs.Common.{length}
use Rattle.adder_blocks.proofs.TreeLaws.{within_power}
use Rattle.circuit_tests.proofs.adders.comparison.Goals as goal

pub returns-in-LtU-clause-ins : goal.returns-in-LtU-clause-ins
returns-in-LtU-clause-ins c = (c.less_u.ensures.gates (length c.args.a.now) (within_power (length c.args.a.now))).same_ins

pub returns-in-LtS-clause-ins : goal.returns-in-LtS-clause-ins
returns-in-LtS-clause-ins c = (c.less_s.ensures.gates (length c.args.a.now) (within_power (length c.args.a.now))).same_ins
