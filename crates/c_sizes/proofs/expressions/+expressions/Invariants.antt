use Rattle.std.proofs.Common.{◌≡◌, map, take}
use Rattle.std.specs.List.{list_all}
use Rattle.c_meaning.specs.Sizes.{ExprSize, total, arguments_size}
use Rattle.c_meaning.specs.SizeFolds.{size_of_expr}
use Rattle.c_sizes.specs.Totals.{totals_of}
use Rattle.c_sizes.specs.Views.{measure_as, kinds_as, size_of_step, size_of_operand}
use Rattle.c_sizes.proofs.expressions.+expressions.Given as goal

-- the steps so far
abbrev pub invariant-steps_measured-loop-step : goal.invariant-steps_measured-loop-step
invariant-steps_measured-loop-step l = record {
  total : l.all.total ≡ totals_of (total (map (λ (e : ExprSize). e.size l.counters) (map (size_of_step (measure_as l.m)) (take l.step-index l.steps))));
  number : l.all.is_number ≡ list_all (λ (e : ExprSize). e.is_number l.counters) (map (size_of_step (measure_as l.m)) (take l.step-index l.steps));
}

-- the operands so far
abbrev pub invariant-operands_measured-loop-operand : goal.invariant-operands_measured-loop-operand
invariant-operands_measured-loop-operand l = record {
  total : l.all.total ≡ totals_of (total (map (λ (e : ExprSize). e.size l.counters) (map (size_of_operand (measure_as l.m)) (take l.operand-index l.operands))));
  number : l.all.is_number ≡ list_all (λ (e : ExprSize). e.is_number l.counters) (map (size_of_operand (measure_as l.m)) (take l.operand-index l.operands));
}

-- the arguments so far
abbrev pub invariant-arguments_size-loop-number : goal.invariant-arguments_size-loop-number
invariant-arguments_size-loop-number l = l.total ≡ totals_of (arguments_size (measure_as l.m) (map (kinds_as l.m) l.params) (map (size_of_expr (measure_as l.m)) (take l.number l.arguments)) l.counters)
