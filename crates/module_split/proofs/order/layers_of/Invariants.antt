use Rattle.std.proofs.Common.{◌≡◌, map, take}
use Rattle.module_split.specs.Steps.{layer_number}
use Rattle.module_split.proofs.order.layers_of.Given as goal

abbrev pub invariant-loop-group : goal.invariant-loop-group
invariant-loop-group l = l.numbers.items ≡ map layer_number (take l.group-index l.groups)
