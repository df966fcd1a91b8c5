use Rattle.std.proofs.Common.{◌≡◌, map}
use Rattle.module_split.specs.Cut.{below, module_of}
use Rattle.module_split.proofs.cutting.modules_of.Given as goal

abbrev pub invariant-loop-number : goal.invariant-loop-number
invariant-loop-number l = l.list.items ≡ map (module_of l.entries l.belonging.homes.items l.belonging.order.keys l.numbers l.results) (below l.number)
