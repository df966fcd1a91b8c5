use Rattle.std.proofs.Common.{◌≡◌, ◌<◌, ℕ, filter, length}
use Rattle.module_split.specs.Lists.{at}
use Rattle.module_split.specs.Cut.{below, is_of}
use Rattle.module_split.proofs.uses.nodes_of.Given as goal

abbrev pub invariant-loop-place : goal.invariant-loop-place
invariant-loop-place l = record {
  count : length l.nodes ≡ l.count;
  each : (m : ℕ) → m < l.count → at l.nodes m ≡ filter (is_of l.numbers m) (below l.place);
}
