use Rattle.std.proofs.Common.{◌∙◌}
use Rattle.plan_script.proofs.BucketLaws.{buckets-none}
use Rattle.plan_script.proofs.levels.buckets_of.Goals as goal

pub fill_buckets-requires-clause-empty : goal.fill_buckets-requires-clause-empty
fill_buckets-requires-clause-empty c = buckets-none c.args.depths.now c.args.count c.as_mut_slice.result.now (c.as_mut_slice.ensures.value ∙ c.in_ok-buckets.ensures)
