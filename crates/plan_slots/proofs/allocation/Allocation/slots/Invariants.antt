use Rattle.std.proofs.Common.{◌≡◌, map, take}
use Rattle.plan_slots.specs.Allocation.{slot_in}
use Rattle.plan_slots.proofs.allocation.Allocation.slots.Given as goal

abbrev pub invariant-loop-life : goal.invariant-loop-life
invariant-loop-life l = l.slots.items ≡ map slot_in (take l.life-index l.self.lives)
