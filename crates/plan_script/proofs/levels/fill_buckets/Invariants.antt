use Rattle.std.proofs.Common.{length}
use Rattle.plan_script.specs.Buckets.{AreBuckets}
use Rattle.plan_script.proofs.levels.fill_buckets.Given as goal

abbrev pub invariant-loop-place : goal.invariant-loop-place
invariant-loop-place l = AreBuckets l.depths l.place (length l.initial.buckets) l.buckets
