use Rattle.std.proofs.Common.{◌≡◌, take}
use Rattle.std.specs.List.{sum_by}
use Rattle.plan_figures.specs.Figures.{frame_count}
use Rattle.plan_figures.proofs.figures.receives.Given as goal

abbrev pub invariant-loop-instr : goal.invariant-loop-instr
invariant-loop-instr l = l.total ≡ sum_by frame_count (take l.instr-index l.instrs)
