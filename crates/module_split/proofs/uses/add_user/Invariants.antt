use Rattle.std.proofs.Common.{◌≡◌, ℕ, false, take, length}
use Rattle.std.specs.Prelude.{◌==◌}
use Rattle.std.specs.List.{list_any}
use Rattle.module_split.specs.Lists.{at, ends_with}
use Rattle.module_split.specs.Steps.{and_then}
use Rattle.module_split.proofs.uses.add_user.Given as goal

abbrev pub invariant-loop-place : goal.invariant-loop-place
invariant-loop-place l = record {
  count : length l.users ≡ length l.fn.users;
  each : (k : ℕ) → ends_with (at l.fn.users k) l.user ≡ false → at l.users k ≡ and_then (at l.fn.users k) (list_any (λ a. a == k) (take l.place-index l.place-items)) l.user;
}
