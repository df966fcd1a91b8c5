use Rattle.std.proofs.Common.{length}
use Rattle.adder_blocks.proofs.lookahead.+joined.Given as goal

abbrev pub decreases-joined : goal.decreases-joined
decreases-joined l = length l.cells.now
