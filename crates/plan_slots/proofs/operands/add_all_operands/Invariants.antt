use Rattle.std.proofs.Common.{◌≡◌, ◌++◌, take}
use Rattle.std.specs.List.{flat_map}
use Rattle.plan_slots.specs.Operands.{operands}
use Rattle.plan_slots.proofs.operands.add_all_operands.Given as goal

abbrev pub invariant-loop-gate : goal.invariant-loop-gate
invariant-loop-gate l = l.out.items ≡ l.initial.out.items ++ flat_map (operands l.codes) (take l.gate-index l.gates)
