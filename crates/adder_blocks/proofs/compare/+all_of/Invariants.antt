use Rattle.std.proofs.Common.{length}
use Rattle.adder_blocks.proofs.compare.+all_of.Given as goal

abbrev pub decreases-all_of : goal.decreases-all_of
decreases-all_of l = length l.ls.now
