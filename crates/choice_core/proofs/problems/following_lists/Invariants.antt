use Rattle.std.proofs.Common.{◌≡◌, ℕ, ◌<◌, ◌≤◌, length, get_or, []}
use Rattle.choice_core.specs.Problems.{AreFollowing}
use Rattle.choice_core.proofs.problems.following_lists.Given as goal

-- each module so far has its list, and no mark is above their count
abbrev pub invariant-loop-number : goal.invariant-loop-number
invariant-loop-number l = record {
  size : length l.marks.items ≡ length l.touching;
  long : length l.lists.items ≡ l.number;
  below : (n : ℕ) → n < length l.touching → get_or l.marks.items n 0 ≤ l.number;
  following : (m : ℕ) → m < l.number → AreFollowing l.fans m (get_or l.lists.items m []);
}
