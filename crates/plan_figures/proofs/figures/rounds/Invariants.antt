use Rattle.std.proofs.Common.{◌≡◌, take}
use Rattle.std.specs.List.{count_by}
use Rattle.plan_figures.specs.Figures.{is_round}
use Rattle.plan_figures.proofs.figures.rounds.Given as goal

abbrev pub invariant-loop-instr : goal.invariant-loop-instr
invariant-loop-instr l = l.total ≡ count_by is_round (take l.instr-index l.instrs)
