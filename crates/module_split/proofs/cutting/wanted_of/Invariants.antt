use Rattle.std.proofs.Common.{◌≡◌, ◌<◌, ℕ, false, length, get_or, take}
use Rattle.module_split.specs.Cut.{is_result}
use Rattle.module_split.proofs.cutting.wanted_of.Given as goal

abbrev pub invariant-loop-node : goal.invariant-loop-node
invariant-loop-node l = record {
  count : length l.wanted.items ≡ l.count;
  each : (k : ℕ) → k < l.count → get_or l.wanted.items k false ≡ is_result (take l.node-index l.results) k;
}
