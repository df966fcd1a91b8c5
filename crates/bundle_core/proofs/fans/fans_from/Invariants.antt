use Rattle.std.proofs.Common.{◌≡◌, ◌*◌, ◌^◌, map, take}
use Rattle.bundle_core.specs.Fans.{AreLow, fan_by, list_at, lists_by}
use Rattle.bundle_core.proofs.fans.fans_from.Given as goal

abbrev pub invariant-loop-place : goal.invariant-loop-place
invariant-loop-place l = record {
  same : l.fans.items ≡ map (fan_by l.table l.entries (list_at l.users) l.from (take l.place-index l.place-items)) (lists_by (list_at l.users) (take l.place-index l.place-items));
  low : AreLow (l.place-index * 2 ^ 32) l.fans.items;
}
