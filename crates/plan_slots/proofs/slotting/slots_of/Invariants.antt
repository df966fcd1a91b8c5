use Rattle.std.proofs.Common.{◌≡◌, drop, length}
use Rattle.plan_slots.specs.Allocation.{after_steps, no_slots}
use Rattle.plan_slots.specs.Renamed.{touches_of}
use Rattle.plan_slots.proofs.slotting.slots_of.Given as goal

abbrev pub invariant-loop-number : goal.invariant-loop-number
invariant-loop-number l = record {
  left : after_steps (drop l.number (touches_of l.script)) l.allocation ≡ after_steps (touches_of l.script) (no_slots l.script.shares);
  size : length l.allocation.lives ≡ l.script.shares;
}
