-- What is left of the operands, from what holds so far, follows as the whole does; and the part that is executed weighs less at each call.
use Rattle.std.proofs.Common.{◌+◌, ◌∷◌, map, drop}
use Rattle.hy_bits.specs.declared.width.Width.TheVariants.{W1}
use Rattle.word_nodes.specs.Nodes.{Stands}
use Rattle.c_meaning.specs.Expressions as expressions
use Rattle.c_meaning.specs.ExpressionFolds.{evaluates, operand_evaluates}
use Rattle.exec_steps.specs.Running.{Continues}
use Rattle.c_exec.specs.Expressions.{Completes, left_of_all, world_as}
use Rattle.c_exec.specs.Weights.{total, expr_weight, operand_weight}
use Rattle.c_exec.proofs.expressions.+run.Given as goal

abbrev pub decreases-evaluate : goal.decreases-evaluate
decreases-evaluate l = expr_weight l.expr.now

abbrev pub decreases-condition : goal.decreases-condition
decreases-condition l = expr_weight l.expr.now + 1

abbrev pub decreases-all_hold : goal.decreases-all_hold
decreases-all_hold l = (expr_weight l.first.now + total (map operand_weight l.rest.now)) + 2

abbrev pub decreases-both_hold : goal.decreases-both_hold
decreases-both_hold l = operand_weight l.operand.now

abbrev pub invariant-all_hold-loop-operand : goal.invariant-all_hold-loop-operand
invariant-all_hold-loop-operand l =
    Continues l.fn.world.regions l.fn.running l.running
    × Stands l.running.graph W1 l.all
    × Completes l.fn.running l.running l.fn.guard
    (left_of_all l.running l.all (map (operand_evaluates (world_as l.fn.world)) (drop l.operand-index l.rest)))
    (λ ins. expressions.all_hold (evaluates (world_as l.fn.world) l.fn.first ∷ map (operand_evaluates (world_as l.fn.world)) l.rest))
