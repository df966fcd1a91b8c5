use Rattle.std.proofs.Common.{◌≡◌}
use Rattle.std.specs.List.{flat_map}
use Rattle.module_split.specs.Lists.{at}
use Rattle.module_split.specs.Cut.{below}
use Rattle.module_split.proofs.cutting.joined.Given as goal

abbrev pub invariant-loop-module : goal.invariant-loop-module
invariant-loop-module l = l.places.items ≡ flat_map (at l.nodes) (below l.module)
