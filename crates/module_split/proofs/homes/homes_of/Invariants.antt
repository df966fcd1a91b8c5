use Rattle.std.proofs.Common.{◌≡◌, take}
use Rattle.std.specs.List.{All}
use Rattle.module_split.specs.Homes.{IsLow, homes_of}
use Rattle.module_split.proofs.homes.homes_of.Given as goal

abbrev pub invariant-loop-entry : goal.invariant-loop-entry
invariant-loop-entry l = record {
  value : l.homes.items ≡ homes_of l.layers (take l.entry-index l.entries);
  low : All (IsLow l.layers) l.homes.items;
}
