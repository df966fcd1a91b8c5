-- What the functions that run a program leave to do: the functions that can be called and the part that is run weigh less at each call, and
-- what is left of a list gives what the whole gives.
use Rattle.std.proofs.Common.{◌≡◌, ◌+◌, ◌-◌, ◌∷◌, map, drop}
use Rattle.std.specs.Option.{option_copied}
use Rattle.c_meaning.specs.Expressions as expressions
use Rattle.c_meaning.specs.Statements as statements
use Rattle.c_meaning.specs.ExpressionFolds.{evaluates, combines, operand_evaluates}
use Rattle.c_meaning.specs.StatementFolds.{runs, item_runs, section_runs}
use Rattle.c_state.specs.Views.{cells_in, state_as, world_as}
use Rattle.c_plain.specs.Views.{values_in, values_after}
use Rattle.c_plain.specs.Weights.{total, weight_where, expr_weight, lvalue_weight, step_weight, operand_weight, effect_weight, part_weight, parts_weight, declarator_weight, controlling_weight, last_weight, first_weight, statement_weight, block_weight, item_weight, iteration_weight, selection_weight, section_weight, function_weight, functions_weight}
use Rattle.c_plain.proofs.+run.Given as goal

abbrev pub decreases-expressions::evaluate : goal.decreases-expressions::evaluate
decreases-expressions::evaluate l = functions_weight l.world.now.functions.now + (expr_weight l.expr.now)

abbrev pub decreases-expressions::locate : goal.decreases-expressions::locate
decreases-expressions::locate l = functions_weight l.world.now.functions.now + (lvalue_weight l.lvalue.now)

abbrev pub decreases-expressions::chain : goal.decreases-expressions::chain
decreases-expressions::chain l = functions_weight l.world.now.functions.now + ((expr_weight l.first.now + total (map step_weight l.steps.now)) + 1)

abbrev pub decreases-expressions::combine : goal.decreases-expressions::combine
decreases-expressions::combine l = functions_weight l.world.now.functions.now + (step_weight l.step.now)

abbrev pub decreases-expressions::all_hold : goal.decreases-expressions::all_hold
decreases-expressions::all_hold l = functions_weight l.world.now.functions.now + ((expr_weight l.first.now + total (map operand_weight l.rest.now)) + 1)

abbrev pub decreases-expressions::any_holds : goal.decreases-expressions::any_holds
decreases-expressions::any_holds l = functions_weight l.world.now.functions.now + ((expr_weight l.first.now + total (map operand_weight l.rest.now)) + 1)

abbrev pub decreases-expressions::conditional : goal.decreases-expressions::conditional
decreases-expressions::conditional l = functions_weight l.world.now.functions.now + ((expr_weight l.condition.now + (expr_weight l.second.now + expr_weight l.third.now)) + 1)

abbrev pub decreases-expressions::each_value : goal.decreases-expressions::each_value
decreases-expressions::each_value l = functions_weight l.world.now.functions.now + (total (map expr_weight l.arguments.now) + 1)

abbrev pub decreases-statements::call : goal.decreases-statements::call
decreases-statements::call l = functions_weight l.world.now.functions.now + (1)

abbrev pub decreases-statements::call_before : goal.decreases-statements::call_before
decreases-statements::call_before l = functions_weight l.world.now.functions.now + (function_weight l.function.now)

abbrev pub decreases-statements::run_effect : goal.decreases-statements::run_effect
decreases-statements::run_effect l = functions_weight l.world.now.functions.now + (effect_weight l.effect.now)

abbrev pub decreases-statements::part_value : goal.decreases-statements::part_value
decreases-statements::part_value l = functions_weight l.world.now.functions.now + (weight_where expr_weight l.part.now.value + 1)

abbrev pub decreases-statements::run_part : goal.decreases-statements::run_part
decreases-statements::run_part l = functions_weight l.world.now.functions.now + (part_weight l.part.now)

abbrev pub decreases-statements::run_parts : goal.decreases-statements::run_parts
decreases-statements::run_parts l = functions_weight l.world.now.functions.now + (parts_weight l.parts.now + 1)

abbrev pub decreases-statements::run_declarator : goal.decreases-statements::run_declarator
decreases-statements::run_declarator l = functions_weight l.world.now.functions.now + (declarator_weight l.declared.now)

abbrev pub decreases-statements::run_declarators : goal.decreases-statements::run_declarators
decreases-statements::run_declarators l = functions_weight l.world.now.functions.now + (total (map declarator_weight l.list.now) + 1)

abbrev pub decreases-statements::run : goal.decreases-statements::run
decreases-statements::run l = functions_weight l.world.now.functions.now + (statement_weight l.statement.now)

abbrev pub decreases-statements::run_return : goal.decreases-statements::run_return
decreases-statements::run_return l = functions_weight l.world.now.functions.now + (weight_where expr_weight l.value.now + 1)

abbrev pub decreases-statements::run_block : goal.decreases-statements::run_block
decreases-statements::run_block l = functions_weight l.world.now.functions.now + (block_weight l.block.now)

abbrev pub decreases-statements::run_items : goal.decreases-statements::run_items
decreases-statements::run_items l = functions_weight l.world.now.functions.now + (total (map item_weight l.items.now) + 1)

abbrev pub decreases-statements::run_item : goal.decreases-statements::run_item
decreases-statements::run_item l = functions_weight l.world.now.functions.now + (item_weight l.item.now)

abbrev pub decreases-statements::run_statements : goal.decreases-statements::run_statements
decreases-statements::run_statements l = functions_weight l.world.now.functions.now + (total (map statement_weight l.list.now) + 1)

abbrev pub decreases-statements::run_sections : goal.decreases-statements::run_sections
decreases-statements::run_sections l = functions_weight l.world.now.functions.now + (total (map section_weight l.sections.now) + 1)

abbrev pub decreases-statements::run_selection : goal.decreases-statements::run_selection
decreases-statements::run_selection l = functions_weight l.world.now.functions.now + (selection_weight l.selection.now)

abbrev pub decreases-statements::test : goal.decreases-statements::test
decreases-statements::test l = functions_weight l.world.now.functions.now + (weight_where controlling_weight (option_copied l.condition) + 1)

abbrev pub decreases-statements::run_step : goal.decreases-statements::run_step
decreases-statements::run_step l = functions_weight l.world.now.functions.now + (weight_where last_weight (option_copied l.step) + 1)

abbrev pub decreases-statements::turn : goal.decreases-statements::turn
decreases-statements::turn l = functions_weight l.world.now.functions.now + ((weight_where controlling_weight (option_copied l.condition) + (weight_where last_weight (option_copied l.step) + statement_weight l.body.now)) + 2)

abbrev pub decreases-statements::turns : goal.decreases-statements::turns
decreases-statements::turns l = functions_weight l.world.now.functions.now + ((weight_where controlling_weight (option_copied l.condition) + (weight_where last_weight (option_copied l.step) + statement_weight l.body.now)) + 3)

abbrev pub decreases-statements::run_do : goal.decreases-statements::run_do
decreases-statements::run_do l = functions_weight l.world.now.functions.now + ((controlling_weight l.condition.now + statement_weight l.body.now) + 5)

abbrev pub decreases-statements::run_switch : goal.decreases-statements::run_switch
decreases-statements::run_switch l = functions_weight l.world.now.functions.now + ((expr_weight l.value.now + total (map section_weight l.sections.now)) + 2)

abbrev pub decreases-statements::run_for : goal.decreases-statements::run_for
decreases-statements::run_for l = functions_weight l.world.now.functions.now + ((first_weight l.first.now + (weight_where controlling_weight l.condition.now + (weight_where last_weight l.step.now + statement_weight l.body.now))) + 5)

abbrev pub decreases-statements::run_while : goal.decreases-statements::run_while
decreases-statements::run_while l = functions_weight l.world.now.functions.now + ((controlling_weight l.condition.now + statement_weight l.body.now) + 4)

abbrev pub decreases-statements::for_turns : goal.decreases-statements::for_turns
decreases-statements::for_turns l = functions_weight l.world.now.functions.now + ((first_weight l.first.now + (weight_where controlling_weight l.condition.now + (weight_where last_weight l.step.now + statement_weight l.body.now))) + 4)

abbrev pub decreases-statements::run_first : goal.decreases-statements::run_first
decreases-statements::run_first l = functions_weight l.world.now.functions.now + (first_weight l.first.now)

abbrev pub decreases-statements::run_iteration : goal.decreases-statements::run_iteration
decreases-statements::run_iteration l = functions_weight l.world.now.functions.now + (iteration_weight l.iteration.now)

abbrev pub invariant-expressions::all_hold-loop-operand : goal.invariant-expressions::all_hold-loop-operand
invariant-expressions::all_hold-loop-operand l = expressions.all_hold (map (operand_evaluates (world_as l.world)) (drop l.operand-index l.rest)) (state_as l.state) ≡ expressions.all_hold (evaluates (world_as l.world) l.first ∷ map (operand_evaluates (world_as l.world)) l.rest) (state_as l.fn.state)

abbrev pub invariant-expressions::any_holds-loop-operand : goal.invariant-expressions::any_holds-loop-operand
invariant-expressions::any_holds-loop-operand l = expressions.any_holds (map (operand_evaluates (world_as l.world)) (drop l.operand-index l.rest)) (state_as l.state) ≡ expressions.any_holds (evaluates (world_as l.world) l.first ∷ map (operand_evaluates (world_as l.world)) l.rest) (state_as l.fn.state)

abbrev pub invariant-expressions::chain-loop-step : goal.invariant-expressions::chain-loop-step
invariant-expressions::chain-loop-step l = expressions.along (map (combines (world_as l.world)) (drop l.step-index l.steps)) (cells_in l.value) (state_as l.state) ≡ expressions.chain_value (evaluates (world_as l.world) l.first) (map (combines (world_as l.world)) l.steps) (state_as l.fn.state)

abbrev pub invariant-expressions::each_value-loop-argument : goal.invariant-expressions::each_value-loop-argument
invariant-expressions::each_value-loop-argument l = values_after (values_in l.values) (expressions.each_value (map (evaluates (world_as l.world)) (drop l.argument-index l.arguments)) (state_as l.state)) ≡ expressions.each_value (map (evaluates (world_as l.world)) l.arguments) (state_as l.fn.state)

abbrev pub invariant-statements::run_declarators-loop-declared : goal.invariant-statements::run_declarators-loop-declared
invariant-statements::run_declarators-loop-declared l = statements.in_order (map (statements.declarator_run (world_as l.world)) (drop l.declared-index l.list)) (state_as l.state) ≡ statements.in_order (map (statements.declarator_run (world_as l.world)) l.list) (state_as l.fn.state)

abbrev pub invariant-statements::run_items-loop-item : goal.invariant-statements::run_items-loop-item
invariant-statements::run_items-loop-item l = statements.in_order (map (λ item. (item_runs (world_as l.world) item).run) (drop l.item-index l.items)) (state_as l.state) ≡ statements.in_order (map (λ item. (item_runs (world_as l.world) item).run) l.items) (state_as l.fn.state)

abbrev pub invariant-statements::run_parts-loop-part : goal.invariant-statements::run_parts-loop-part
invariant-statements::run_parts-loop-part l = statements.in_order (map (statements.part_run (world_as l.world) l.object) (drop l.part-index l.parts)) (state_as l.state) ≡ statements.in_order (map (statements.part_run (world_as l.world) l.object) l.parts) (state_as l.fn.state)

abbrev pub invariant-statements::run_sections-loop-section : goal.invariant-statements::run_sections-loop-section
invariant-statements::run_sections-loop-section l = statements.in_order (map (λ section. (section_runs (world_as l.world) section).run) (drop l.section-index l.sections)) (state_as l.state) ≡ statements.in_order (map (λ section. (section_runs (world_as l.world) section).run) l.sections) (state_as l.fn.state)

abbrev pub invariant-statements::run_statements-loop-statement : goal.invariant-statements::run_statements-loop-statement
invariant-statements::run_statements-loop-statement l = statements.in_order (map (runs (world_as l.world)) (drop l.statement-index l.list)) (state_as l.state) ≡ statements.in_order (map (runs (world_as l.world)) l.list) (state_as l.fn.state)

abbrev pub invariant-statements::turns-loop-number : goal.invariant-statements::turns-loop-number
invariant-statements::turns-loop-number l = statements.turns (l.bound - l._number) (statements.test_where (world_as l.world) (option_copied l.condition)) (runs (world_as l.world) l.body) (statements.step_where (world_as l.world) (option_copied l.step)) (state_as l.state) ≡ statements.turns l.bound (statements.test_where (world_as l.world) (option_copied l.condition)) (runs (world_as l.world) l.body) (statements.step_where (world_as l.world) (option_copied l.step)) (state_as l.fn.state)
