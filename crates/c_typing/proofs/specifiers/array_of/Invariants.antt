use Rattle.std.proofs.Common.{◌≡◌, length}
use Rattle.c_typing.specs.Specifiers.{array_of}
use Rattle.c_typing.proofs.specifiers.array_of.Given as goal

abbrev pub invariant-loop-count : goal.invariant-loop-count
invariant-loop-count l = array_of l.counts.items l.ctype ≡ array_of l.fn.counts.items l.fn.element

abbrev pub decreases-loop-count : goal.decreases-loop-count
decreases-loop-count l = length l.counts.items
