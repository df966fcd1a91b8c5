-- What is left of the items, from what is shown so far, follows as the whole block does.
use Rattle.std.proofs.Common.{◌+◌, map, drop}
use Rattle.c_meaning.specs.Statements.{in_order}
use Rattle.c_meaning.specs.StatementFolds.{item_runs}
use Rattle.exec_steps.specs.Running.{Continues}
use Rattle.exec_steps.specs.Ways.{LeadsOut, WaysStand}
use Rattle.c_exec.specs.Expressions.{world_as}
use Rattle.c_exec.specs.Weights.{item_weight, statement_weight, total}
use Rattle.c_exec.proofs.statements.+walk.Given as goal

abbrev pub decreases-execute_statement : goal.decreases-execute_statement
decreases-execute_statement l = statement_weight l.statement.now

abbrev pub decreases-execute_items : goal.decreases-execute_items
decreases-execute_items l = total (map item_weight l.items.now) + 2

abbrev pub decreases-item_then : goal.decreases-item_then
decreases-item_then l = item_weight l.item.now + 1

abbrev pub decreases-execute_item : goal.decreases-execute_item
decreases-execute_item l = item_weight l.item.now

abbrev pub invariant-execute_items-loop-item : goal.invariant-execute_items-loop-item
invariant-execute_items-loop-item l =
    Continues l.fn.world.regions l.fn.running l.running
    × WaysStand l.running.graph l.ways
    × LeadsOut l.fn.running l.running l.fn.guard l.ways
    (in_order (map (λ item. (item_runs (world_as l.fn.world) item).run) (drop l.item-index l.items)))
    (in_order (map (λ item. (item_runs (world_as l.fn.world) item).run) l.items))
