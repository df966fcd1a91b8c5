use Rattle.std.proofs.Common.{◌≡◌, ◌≤◌, ◌<◌, ◌^◌, ℕ, get_or, max, take}
use Rattle.std.specs.List.{fold}
use Rattle.plan_script.proofs.levels.greatest.Given as goal

abbrev pub invariant-loop-depth : goal.invariant-loop-depth
invariant-loop-depth l = record {
  value : l.most ≡ fold max 0 (take l.depth-index l.depths);
  few : l.most < 2 ^ 32;
  most : (k : ℕ) → k < l.depth-index → get_or l.depths k 0 ≤ l.most;
}
