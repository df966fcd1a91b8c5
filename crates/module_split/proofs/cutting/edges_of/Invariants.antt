use Rattle.std.proofs.Common.{◌≡◌}
use Rattle.std.specs.List.{flat_map}
use Rattle.module_split.specs.Cut.{below, edges_to}
use Rattle.module_split.proofs.cutting.edges_of.Given as goal

abbrev pub invariant-loop-to : goal.invariant-loop-to
invariant-loop-to l = l.edges.items ≡ flat_map (edges_to l.entries l.numbers l.count) (below l.to)
