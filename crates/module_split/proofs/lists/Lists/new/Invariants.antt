use Rattle.std.proofs.Common.{◌≡◌, replicate, []}
use Rattle.module_split.specs.Lists.{items_of}
use Rattle.module_split.proofs.lists.Lists.new.Given as goal

abbrev pub invariant-loop : goal.invariant-loop
invariant-loop l = items_of l.lists.items ≡ replicate l.counter []
