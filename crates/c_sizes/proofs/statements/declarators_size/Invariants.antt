use Rattle.std.proofs.Common.{◌≡◌, map, take}
use Rattle.c_meaning.specs.Sizes.{total}
use Rattle.c_meaning.specs.SizeFolds.{declarator_size}
use Rattle.c_sizes.specs.Totals.{totals_of}
use Rattle.c_sizes.specs.Views.{declared_as}
use Rattle.c_sizes.proofs.statements.declarators_size.Given as goal

-- the declarations so far
abbrev pub invariant-loop-declared : goal.invariant-loop-declared
invariant-loop-declared l = l.total ≡ totals_of (total (map (λ d. declarator_size (declared_as l.m) d l.counters) (take l.declared-index l.list)))
