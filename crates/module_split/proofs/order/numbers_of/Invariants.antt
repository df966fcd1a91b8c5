use Rattle.std.proofs.Common.{◌≡◌, take}
use Rattle.module_split.specs.Cut.{numbers_of}
use Rattle.module_split.proofs.order.numbers_of.Given as goal

abbrev pub invariant-loop-group : goal.invariant-loop-group
invariant-loop-group l = l.numbers.items ≡ numbers_of l.order.keys (take l.group-index l.groups)
