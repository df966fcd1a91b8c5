use Rattle.std.proofs.Common.{◌≡◌, map, take}
use Rattle.c_meaning.specs.Sizes.{total}
use Rattle.c_meaning.specs.SizeFolds.{value_size}
use Rattle.c_sizes.specs.Totals.{totals_of}
use Rattle.c_sizes.specs.Views.{measure_as}
use Rattle.c_sizes.proofs.statements.parts_size.Given as goal

-- the parts so far
abbrev pub invariant-loop-part : goal.invariant-loop-part
invariant-loop-part l = l.total ≡ totals_of (total (map (λ part. value_size (measure_as l.m) part.value l.counters) (take l.part-index l.parts)))
