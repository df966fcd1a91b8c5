use Rattle.std.proofs.Common.{◌≡◌, length, min, take}
use Rattle.share_plan.specs.Leaves.{count_limit, field_leaves}
use Rattle.pair_run.proofs.owners.+counts.Given as goal

abbrev pub invariant-field_count-loop-field : goal.invariant-field_count-loop-field
invariant-field_count-loop-field l = l.total ≡ min (length (field_leaves (take l.field-index l.fields))) count_limit
