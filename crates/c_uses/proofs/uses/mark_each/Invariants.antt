use Rattle.std.proofs.Common.{◌≡◌, drop}
use Rattle.c_uses.specs.Marks.{marked}
use Rattle.c_uses.proofs.uses.mark_each.Given as goal

-- the numbers that are left give the marks of all
abbrev pub invariant-loop-number : goal.invariant-loop-number
invariant-loop-number l = marked l.marks (drop l.number-index l.numbers) ≡ marked l.fn.marks l.numbers
