use Rattle.std.proofs.Common.{◌≡◌, ◌==◌, ◌++◌, ◌∷◌, [], ℕ, cond, length, take}
use Rattle.std.specs.List.{list_any}
use Rattle.bundle_core.specs.Fans.{list_at}
use Rattle.bundle_core.proofs.fans.add_user.Given as goal

abbrev pub invariant-loop-place : goal.invariant-loop-place
invariant-loop-place l = record {
  size : length l.users ≡ length l.initial.users;
  lists : (k : ℕ) → list_at l.users k ≡ list_at l.initial.users k ++ cond (list_any (λ used. used == k) (take l.place-index l.places)) (l.number ∷ []) [];
}
