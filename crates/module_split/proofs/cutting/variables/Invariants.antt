use Rattle.std.proofs.Common.{◌≡◌, filter}
use Rattle.module_split.specs.Cut.{below, is_variable}
use Rattle.module_split.proofs.cutting.variables.Given as goal

abbrev pub invariant-loop-place : goal.invariant-loop-place
invariant-loop-place l = l.places.items ≡ filter (is_variable l.entries) (below l.place)
