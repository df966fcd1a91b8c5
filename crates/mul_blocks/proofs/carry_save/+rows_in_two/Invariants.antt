use Rattle.std.proofs.Common.{length}
use Rattle.mul_blocks.proofs.carry_save.+rows_in_two.Given as goal

abbrev pub decreases-rows_in_two : goal.decreases-rows_in_two
decreases-rows_in_two l = length l.digits.now
