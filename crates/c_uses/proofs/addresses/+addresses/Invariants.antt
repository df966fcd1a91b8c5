use Rattle.std.proofs.Common.{◌≡◌, map, drop}
use Rattle.c_meaning.specs.Uses.{all_of, taken_in}
use Rattle.c_uses.specs.Marks.{marked, step_taken, operand_taken}
use Rattle.c_uses.proofs.addresses.+addresses.Given as goal

abbrev pub invariant-mark_steps-loop-step : goal.invariant-mark_steps-loop-step
invariant-mark_steps-loop-step l = marked l.marks (all_of (map step_taken (drop l.step-index l.steps))) ≡ marked l.fn.marks (all_of (map step_taken l.steps))

abbrev pub invariant-mark_operands-loop-operand : goal.invariant-mark_operands-loop-operand
invariant-mark_operands-loop-operand l = marked l.marks (all_of (map operand_taken (drop l.operand-index l.operands))) ≡ marked l.fn.marks (all_of (map operand_taken l.operands))

abbrev pub invariant-mark_exprs-loop-argument : goal.invariant-mark_exprs-loop-argument
invariant-mark_exprs-loop-argument l = marked l.marks (all_of (map taken_in (drop l.argument-index l.arguments))) ≡ marked l.fn.marks (all_of (map taken_in l.arguments))
