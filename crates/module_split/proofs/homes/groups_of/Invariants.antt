use Rattle.std.proofs.Common.{◌≡◌, map, take}
use Rattle.std.specs.List.{All}
use Rattle.module_split.specs.Homes.{IsLowGroup, group_of}
use Rattle.module_split.proofs.homes.groups_of.Given as goal

abbrev pub invariant-loop-home : goal.invariant-loop-home
invariant-loop-home l = record {
  value : l.groups.items ≡ map (group_of l.layers) (take l.home-index l.homes);
  low : All (IsLowGroup l.layers) l.groups.items;
}
