use Rattle.std.proofs.Common.{length}
use Rattle.adder_blocks.proofs.lookahead.+prefixes.Given as goal

abbrev pub decreases-prefixes : goal.decreases-prefixes
decreases-prefixes l = length l.cells.now
