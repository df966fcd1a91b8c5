use Rattle.c_sizes.specs.Views.{IsSized}
use Rattle.c_sizes.proofs.program.function_totals.Given as goal

-- the functions so far
abbrev pub invariant-loop-function : goal.invariant-loop-function
invariant-loop-function l = IsSized l.start.program.now l.function-index l.all.items
