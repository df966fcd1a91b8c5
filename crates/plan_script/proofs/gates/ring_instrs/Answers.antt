use Rattle.plan_script.proofs.NumberLaws.{takes-at}
use Rattle.plan_script.proofs.gates.ring_instrs.Goals as goal

pub add_ring_instr-requires : goal.add_ring_instr-requires
add_ring_instr-requires c = takes-at c.args.ring.now.ins c.args.ring.now.gates c.gates-gates.result.now c.loop-gate.gate-index _ c.gates-gates.ensures.ring.gates c.gates-gates.ensures.value c.loop-gate-test.true
