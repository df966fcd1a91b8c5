use Rattle.std.proofs.Common.{◌≡◌, take}
use Rattle.std.specs.List.{enumerate_from, flat_map}
use Rattle.bundle_core.specs.Costs.{fans_from}
use Rattle.bundle_core.proofs.fans.fans_of.Given as goal

abbrev pub invariant-loop-number : goal.invariant-loop-number
invariant-loop-number l = l.fans.items ≡ flat_map (fans_from l.table l.entries l.list) (take l.number (enumerate_from 0 l.list))
