use Rattle.std.proofs.Common.{◌≡◌, ◌<◌, ℕ, filter, take, length}
use Rattle.module_split.specs.Lists.{at}
use Rattle.module_split.specs.Steps.{crosses_in}
use Rattle.module_split.proofs.uses.crossings.Given as goal

abbrev pub invariant-loop-place : goal.invariant-loop-place
invariant-loop-place l = record {
  count : length l.lists ≡ l.count;
  each : (m : ℕ) → m < l.count → at l.lists m ≡ filter (crosses_in l.users l.numbers m) (take l.place-index l.places);
}
