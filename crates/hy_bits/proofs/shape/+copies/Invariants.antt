use Rattle.std.proofs.Common.{◌≡◌, take}
use Rattle.hy_bits.proofs.shape.+copies.Given as goal

abbrev pub invariant-copy_of_fields-loop-field : goal.invariant-copy_of_fields-loop-field
invariant-copy_of_fields-loop-field l = l.copies ≡ take l.field-index l.fields
