use Rattle.std.proofs.Common.{◌≡◌, ℕ, ◌<◌, length, map, take, get_or, Some, []}
use Rattle.std.specs.List.{slice_get, filter}
use Rattle.choice_core.specs.Problems.{touches}
use Rattle.choice_core.proofs.problems.add_fans.Given as goal

-- the lists are those of the fans so far
abbrev pub invariant-loop-place : goal.invariant-loop-place
invariant-loop-place l = record {
  size : length l.lists ≡ length l.fn.lists;
  numbers : (m : ℕ) → m < length l.fn.lists → map (λ i. slice_get l.fans i) (get_or l.lists m []) ≡ map (λ f. Some f) (filter (λ f. touches f m) (take l.place l.fans));
}
