use Rattle.std.proofs.Common.{◌≡◌, ◌<◌, ℕ, filter, length, slice_get}
use Rattle.module_split.specs.Lists.{at}
use Rattle.module_split.specs.Cut.{below, entry_takes}
use Rattle.module_split.proofs.uses.users_of.Given as goal

abbrev pub invariant-loop-user : goal.invariant-loop-user
invariant-loop-user l = record {
  count : length l.users ≡ length l.entries;
  each : (k : ℕ) → k < length l.entries → at l.users k ≡ filter (λ user. entry_takes (slice_get l.entries user) k) (below l.user);
}
