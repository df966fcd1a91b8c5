use Rattle.std.proofs.Common.{◌≡◌, take}
use Rattle.std.specs.List.{fold}
use Rattle.plan_slots.specs.Allocation.{hold}
use Rattle.plan_slots.proofs.slotting.hold_all.Given as goal

abbrev pub invariant-loop-share : goal.invariant-loop-share
invariant-loop-share l = l.allocation ≡ fold hold l.initial.allocation (take l.share-index l.shares)
