use Rattle.std.proofs.Common.{ℕ, ◌+◌, ap, ◌∙◌}
use Rattle.share_core.specs.declared.instr.Instr.{Instr}
use Rattle.share_core.specs.Dealing.{drawn}
use Rattle.plan_figures.proofs.SumLaws.{summed-more}
use Rattle.plan_figures.proofs.sizes.gates_drawn.Goals as goal

pub loop-gate-preserved : goal.loop-gate-preserved
loop-gate-preserved c =
    summed-more (λ (gate : Instr). drawn gate.kind gate.width) c.args.gates.now c.loop-gate.gate-index c.loop-gate.total c.in_ok-total.total c.loop-gate-test.true c.loop-gate.invariant
    (c.in_ok-total.ensures ∙ ap (λ (n : ℕ). c.loop-gate.total + n) c.drawn.ensures)
