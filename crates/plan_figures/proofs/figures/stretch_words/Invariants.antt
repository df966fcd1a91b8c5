use Rattle.std.proofs.Common.{◌≡◌, take}
use Rattle.share_core.specs.Machine.{words_drawn}
use Rattle.plan_figures.specs.Figures.{steps_of}
use Rattle.plan_figures.proofs.figures.stretch_words.Given as goal

abbrev pub invariant-loop-instr : goal.invariant-loop-instr
invariant-loop-instr l = l.steps.items ≡ steps_of (λ i. words_drawn i l.gates) l.role (take l.instr-index l.instrs)
