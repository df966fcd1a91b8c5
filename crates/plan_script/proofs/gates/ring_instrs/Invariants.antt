use Rattle.std.proofs.Common.{◌≡◌, [], take}
use Rattle.std.specs.List.{fold}
use Rattle.plan_script.specs.Gates.{with_ring_instr}
use Rattle.plan_script.proofs.gates.ring_instrs.Given as goal

abbrev pub invariant-loop-gate : goal.invariant-loop-gate
invariant-loop-gate l = l.instrs.items ≡ fold (with_ring_instr l.ins l.base) [] (take l.gate-index l.gates)
