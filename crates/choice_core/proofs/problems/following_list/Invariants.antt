use Rattle.std.proofs.Common.{◌≡◌, length, take}
use Rattle.std.specs.List.{filter}
use Rattle.choice_core.specs.Problems.{touches}
use Rattle.choice_core.proofs.Followed.{IsMarked}
use Rattle.choice_core.proofs.problems.following_list.Given as goal

-- the list and the marks are those of the fans so far
abbrev pub invariant-loop-place : goal.invariant-loop-place
invariant-loop-place l = record {
  size : length l.marks ≡ length l.fn.marks;
  marked : IsMarked l.number (take l.place-index (filter (λ f. touches f l.number) l.fans)) l.marks l.list;
}
