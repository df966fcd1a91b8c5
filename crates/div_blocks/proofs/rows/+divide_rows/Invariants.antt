use Rattle.std.proofs.Common.{length}
use Rattle.div_blocks.proofs.rows.+divide_rows.Given as goal

abbrev pub decreases-divide_rows : goal.decreases-divide_rows
decreases-divide_rows l = length l.a.now
