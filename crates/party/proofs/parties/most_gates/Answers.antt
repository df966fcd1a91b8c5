use Rattle.std.proofs.Common.{◌+◌, ℕ, drop, get_or, max, sym, ap, ◌∙◌}
use Rattle.share_core.specs.declared.instr.Instr.{Instr}
use Rattle.party.specs.Steps.{level_gates, most_gates}
use Rattle.party.proofs.LevelSteps.{max_of_three, next_instr, no_instr}
use Rattle.party.proofs.parties.most_gates.Goals as goal

pub loop-instr-preserved : goal.loop-instr-preserved
loop-instr-preserved c =
    let gates = c.args.gates.now in
    let instrs = c.args.instrs.now in
    let i = c.loop-instr.instr-index in
    let instr : Instr = get_or instrs i no_instr in
    let rest : ℕ = most_gates gates (drop (i + 1) instrs) in
    let here = ap (most_gates gates) (next_instr instrs i c.loop-instr-test.true) in
    ap (λ (m : ℕ). max m rest) (c.greater-most.ensures ∙ ap (max c.loop-instr.most) c.level_gates.ensures)
    ∙ max_of_three c.loop-instr.most (level_gates gates instr) rest
    ∙ ap (max c.loop-instr.most) (sym here)
    ∙ c.loop-instr.invariant
