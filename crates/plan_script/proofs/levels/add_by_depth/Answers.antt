use Rattle.std.proofs.Common.{length, ap, arith}
use Rattle.plan_script.proofs.levels.add_by_depth.Goals as goal

pub add_depths-requires-clause-few : goal.add_depths-requires-clause-few
add_depths-requires-clause-few c = omega (arith, ap length c.deref.ensures.value, c.in_ok-buckets.ensures.size, c.greatest.ensures.few)
