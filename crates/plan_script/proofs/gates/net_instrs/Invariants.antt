use Rattle.std.proofs.Common.{◌≡◌, [], take}
use Rattle.std.specs.List.{fold}
use Rattle.plan_script.specs.Gates.{with_net_instr}
use Rattle.plan_script.proofs.gates.net_instrs.Given as goal

abbrev pub invariant-loop-gate : goal.invariant-loop-gate
invariant-loop-gate l = l.instrs.items ≡ fold (with_net_instr l.sharing l.ins l.base) [] (take l.gate-index l.gates)
