use Rattle.std.proofs.Common.{length}
use Rattle.plan_script.proofs.BucketLaws.{buckets-more}
use Rattle.plan_script.proofs.levels.fill_buckets.Goals as goal

pub loop-place-preserved : goal.loop-place-preserved
loop-place-preserved c =
    buckets-more c.args.depths.now c.loop-place.place (length c.args.buckets.now) c.loop-place.buckets c.add_place.new.buckets (c.requires.below c.loop-place.place 0 c.loop-place-test.true) c.loop-place.invariant
    (rw c.in_ok-count.ensures at c.in_ok-add_place.ensures)
