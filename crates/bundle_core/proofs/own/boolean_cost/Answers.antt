use Rattle.std.proofs.Common.{arith}
use Rattle.bundle_core.proofs.OwnLaws.{depth-few}
use Rattle.bundle_core.proofs.own.boolean_cost.Goals as goal

pub charge-requires : goal.charge-requires
charge-requires c = omega (arith, c.in_ok-depth.ensures, depth-few c.args.net.now, c.requires)
