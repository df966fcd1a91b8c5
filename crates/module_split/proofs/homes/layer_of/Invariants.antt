use Rattle.std.proofs.Common.{◌≡◌, ◌≤◌, max, map, take}
use Rattle.std.specs.List.{fold}
use Rattle.module_split.specs.Homes.{home_at, layer_over}
use Rattle.module_split.proofs.homes.layer_of.Given as goal

abbrev pub invariant-loop-place : goal.invariant-loop-place
invariant-loop-place l = record {
  value : l.layer ≡ fold max 0 (map (λ k. layer_over l.ring l.entry.region (home_at l.homes k)) (take l.place-index l.place-items));
  low : l.layer ≤ 64;
}
