use Rattle.std.proofs.Common.{◌≡◌, map, take}
use Rattle.plan_slots.specs.Renamed.{renamed}
use Rattle.plan_slots.proofs.renaming.renamed_instrs.Given as goal

abbrev pub invariant-loop-instr : goal.invariant-loop-instr
invariant-loop-instr l = l.list.items ≡ map (renamed l.slots) (take l.instr-index l.instrs)
