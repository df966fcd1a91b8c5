use Rattle.std.proofs.Common.{◌≡◌, ℕ, ◌<◌, length, slice_index, take, if◌then◌else◌}
use Rattle.plan_slots.specs.Lives.{is_among}
use Rattle.plan_slots.proofs.last_touches.note.Given as goal

abbrev pub invariant-loop-share : goal.invariant-loop-share
invariant-loop-share l = (s : ℕ) → s < length l.initial.last → slice_index l.last s ≡ (if is_among (take l.share-index l.shares) s then l.number else slice_index l.initial.last s)
