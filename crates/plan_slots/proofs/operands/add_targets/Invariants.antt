use Rattle.std.proofs.Common.{◌≡◌, ◌++◌, map, take}
use Rattle.share_core.specs.declared.instr.Instr.{Instr}
use Rattle.plan_slots.proofs.operands.add_targets.Given as goal

abbrev pub invariant-loop-gate : goal.invariant-loop-gate
invariant-loop-gate l = l.out.items ≡ l.initial.out.items ++ map (λ (gate : Instr). gate.target) (take l.gate-index l.gates)
