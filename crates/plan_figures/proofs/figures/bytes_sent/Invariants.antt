use Rattle.std.proofs.Common.{◌≡◌, take}
use Rattle.std.specs.List.{sum_by}
use Rattle.plan_figures.specs.Figures.{frame_length}
use Rattle.plan_figures.proofs.figures.bytes_sent.Given as goal

abbrev pub invariant-loop-instr : goal.invariant-loop-instr
invariant-loop-instr l = l.total ≡ sum_by (frame_length l.gates l.role) (take l.instr-index l.instrs)
