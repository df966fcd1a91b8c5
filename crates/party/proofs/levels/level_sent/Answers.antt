use Rattle.std.proofs.Common.{get_or, refl, arith}
use Rattle.share_core.specs.Sizes.{sent}
use Rattle.party.proofs.LevelSteps.{no_instr, summed_more}
use Rattle.party.proofs.levels.level_sent.Goals as goal

pub loop-gate-preserved : goal.loop-gate-preserved
loop-gate-preserved c =
    let gates = c.args.gates.now in
    let i = c.loop-gate.gate-index in
    let step = summed_more (λ g. sent g.kind g.width c.args.role) gates i (get_or gates i no_instr) no_instr c.loop-gate-test.true refl in
    record {
      sum = omega (arith, step, c.loop-gate.invariant.sum, c.gate_size.ensures.value);
      few = omega (arith, c.loop-gate.invariant.few, c.gate_size.ensures.few);
    }
