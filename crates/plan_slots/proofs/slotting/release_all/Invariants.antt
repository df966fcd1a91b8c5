use Rattle.std.proofs.Common.{◌≡◌, take}
use Rattle.std.specs.List.{fold}
use Rattle.plan_slots.specs.LastTouches.{release_last}
use Rattle.plan_slots.proofs.slotting.release_all.Given as goal

abbrev pub invariant-loop-share : goal.invariant-loop-share
invariant-loop-share l = l.allocation ≡ fold (release_last l.last l.number) l.initial.allocation (take l.share-index l.shares)
