use Rattle.std.proofs.Common.{◌≡◌, take}
use Rattle.plan_figures.specs.Figures.{frame_length, steps_of}
use Rattle.plan_figures.proofs.figures.stretch_bytes.Given as goal

abbrev pub invariant-loop-instr : goal.invariant-loop-instr
invariant-loop-instr l = l.steps.items ≡ steps_of (frame_length l.gates l.role) l.role (take l.instr-index l.instrs)
