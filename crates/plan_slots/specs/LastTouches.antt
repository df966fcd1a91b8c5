-- At which step a share is touched last.
use Rattle.std.specs.Prelude.{◌≡◌, ℕ, ◌<◌, ◌+◌, ◌==◌, ◌&&◌, nat_lt, not, true, List, [], length, get_or, slice_index, drop, if◌then◌else◌}
use Rattle.std.specs.List.{list_any}
use Rattle.plan_slots.specs.Lives.{Touch, touches}
use Rattle.plan_slots.specs.Allocation.{Allocation, release}

abbrev pub no_touch : Touch
no_touch = record { made = []; used = [] }

abbrev pub step_at : List Touch → ℕ → Touch
step_at steps k = get_or steps k no_touch

-- among these steps: where a step touches a share, the table has the step's number exactly where no later one touches it
pub record AreLast (steps : List Touch) (last : List ℕ) : Type 0 where
  pub each : (k s : ℕ) → k < length steps → s < length last → touches s (step_at steps k) ≡ true → (slice_index last s == k) ≡ not (list_any (touches s) (drop (k + 1) steps))

-- gives a slot back at the step that the table has
unfoldable pub release_last : List ℕ → (number : ℕ) → Allocation → ℕ → Allocation
release_last last number a s = if nat_lt s (length last) && (slice_index last s == number) then release a s else a
