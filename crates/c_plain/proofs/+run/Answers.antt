use Rattle.std.proofs.Common.{◌≡◌, ℕ, ◌+◌, ◌-◌, List, [], ◌∷◌, ◌++◌, Option, true, false, get_or, map, drop, sym, ap, ◌∙◌, arith, rules}
use Rattle.std.specs.Option.{option_copied}
use Rattle.std.proofs.lemmas.List.{map-append}
use Rattle.c_meaning.specs.Operations.{low}
use Rattle.c_meaning.specs.declared.statements.TypedStatement.{TypedStatement}
use Rattle.c_meaning.specs.declared.values.Cell.{Cell}
use Rattle.c_meaning.specs.declared.values.Ending.{Ending}
use Rattle.c_meaning.specs.State.{all_ended}
use Rattle.c_meaning.specs.Types.{struct_cells}
use Rattle.c_meaning.specs.Expressions.{Evaluated, Gives, Called, after, along, each_value, no_function, word_as}
use Rattle.c_meaning.specs.ExpressionFolds.{evaluates, combines}
use Rattle.c_meaning.specs.Statements.{Exec, ends, finally, declared_by, selected, in_order, test_where, step_where, turns}
use Rattle.c_meaning.specs.StatementFolds.{runs, item_runs, section_runs}
use Rattle.c_meaning.specs.Programs.{calls_after}
use Rattle.c_state.specs.declared.state.Value.{Value}
use Rattle.c_state.specs.Views.{cells_in, state_as, world_as, told}
use Rattle.c_plain.specs.Views.{values_in, values_after, unless_ended}
use Rattle.c_plain.specs.Weights.{total, expr_weight, step_weight, operand_weight, part_weight, declarator_weight, statement_weight, item_weight, section_weight}
use Rattle.c_plain.proofs.Weighing.{weighs, weighs_before_at, operand_weighs, section_weighs}
use Rattle.c_plain.proofs.Running.{all_past, all_step, any_past, any_step, along_next, each_past, each_more, order_left, order_more, section_means, block_ended, switch_ended, turns_next}
use Rattle.c_plain.proofs.Calling.{call_at, call_none}
use Rattle.c_plain.proofs.+run.Goals as goal

pub expressions::all_hold-evaluate-requires-in-loop-operand : goal.expressions::all_hold-evaluate-requires-in-loop-operand
expressions::all_hold-evaluate-requires-in-loop-operand n c = omega (arith, c.decreases, weighs operand_weight c.args.rest.now c.loop-operand.operand-index c.operand-item.result c.loop-operand-test.true c.operand-item.is, operand_weighs c.operand-item.result)

pub expressions::any_holds-evaluate-requires-in-loop-operand : goal.expressions::any_holds-evaluate-requires-in-loop-operand
expressions::any_holds-evaluate-requires-in-loop-operand n c = omega (arith, c.decreases, weighs operand_weight c.args.rest.now c.loop-operand.operand-index c.operand-item.result c.loop-operand-test.true c.operand-item.is, operand_weighs c.operand-item.result)

pub expressions::chain-combine-requires : goal.expressions::chain-combine-requires
expressions::chain-combine-requires n c = omega (arith, c.decreases, weighs step_weight c.args.steps.now c.loop-step.step-index c.step-item.result c.loop-step-test.true c.step-item.is)

pub expressions::each_value-evaluate-requires : goal.expressions::each_value-evaluate-requires
expressions::each_value-evaluate-requires n c = omega (arith, c.decreases, weighs expr_weight c.args.arguments.now c.loop-argument.argument-index c.argument-item.result c.loop-argument-test.true c.argument-item.is)

pub statements::run_declarators-run_declarator-requires : goal.statements::run_declarators-run_declarator-requires
statements::run_declarators-run_declarator-requires n c = omega (arith, c.decreases, weighs declarator_weight c.args.list.now c.loop-declared.declared-index c.declared-item.result c.loop-declared-test.true c.declared-item.is)

pub statements::run_items-run_item-requires : goal.statements::run_items-run_item-requires
statements::run_items-run_item-requires n c = omega (arith, c.decreases, weighs item_weight c.args.items.now c.loop-item.item-index c.item-item.result c.loop-item-test.true c.item-item.is)

pub statements::run_parts-run_part-requires : goal.statements::run_parts-run_part-requires
statements::run_parts-run_part-requires n c = omega (arith, c.decreases, weighs part_weight c.args.parts.now c.loop-part.part-index c.part-item.result c.loop-part-test.true c.part-item.is)

pub statements::run_statements-run-requires : goal.statements::run_statements-run-requires
statements::run_statements-run-requires n c = omega (arith, c.decreases, weighs statement_weight c.args.list.now c.loop-statement.statement-index c.statement-item.result c.loop-statement-test.true c.statement-item.is)

pub statements::run_sections-run_statements-requires : goal.statements::run_sections-run_statements-requires
statements::run_sections-run_statements-requires n c = omega (arith, c.decreases, weighs section_weight c.args.sections.now c.loop-section.section-index c.section-item.result c.loop-section-test.true c.section-item.is, section_weighs c.section-item.result, ap (λ (list : List TypedStatement). total (map statement_weight list)) c.as_slice.ensures)

pub expressions::all_hold-returns-in_default-2 : goal.expressions::all_hold-returns-in_default-2
expressions::all_hold-returns-in_default-2 n c = all_past (world_as c.args.world.now) c.args.rest.now c.loop-operand.operand-index c.operand-item.result (state_as c.loop-operand.state) (state_as c.evaluate-in-loop-operand.new.state) c.loop-operand-test.true c.operand-item.is (ap (λ (answer : Option Value). told cells_in answer (state_as c.evaluate-in-loop-operand.new.state)) (sym c.in_default-2.is) ∙ c.in_ok-value-2.ensures) ∙ c.loop-operand.invariant

pub expressions::all_hold-returns-then-not-holds-2 : goal.expressions::all_hold-returns-then-not-holds-2
expressions::all_hold-returns-then-not-holds-2 n c = sym (all_step (world_as c.args.world.now) c.args.rest.now c.loop-operand.operand-index c.operand-item.result (cells_in c.in-Some-2.value) (state_as c.loop-operand.state) (state_as c.evaluate-in-loop-operand.new.state) false c.loop-operand-test.true c.operand-item.is (ap (λ (answer : Option Value). told cells_in answer (state_as c.evaluate-in-loop-operand.new.state)) (sym c.in-Some-2.is) ∙ c.in_ok-value-2.ensures) (sym c.holds-in-loop-operand.ensures ∙ c.if-not-holds-2.true)) ∙ c.loop-operand.invariant

pub expressions::all_hold-loop-operand-preserved : goal.expressions::all_hold-loop-operand-preserved
expressions::all_hold-loop-operand-preserved n c = sym (all_step (world_as c.args.world.now) c.args.rest.now c.loop-operand.operand-index c.operand-item.result (cells_in c.in-Some-2.value) (state_as c.loop-operand.state) (state_as c.evaluate-in-loop-operand.new.state) true c.loop-operand-test.true c.operand-item.is (ap (λ (answer : Option Value). told cells_in answer (state_as c.evaluate-in-loop-operand.new.state)) (sym c.in-Some-2.is) ∙ c.in_ok-value-2.ensures) (sym c.holds-in-loop-operand.ensures ∙ c.if-not-holds-2.false)) ∙ c.loop-operand.invariant

pub expressions::any_holds-returns-in_default-2 : goal.expressions::any_holds-returns-in_default-2
expressions::any_holds-returns-in_default-2 n c = any_past (world_as c.args.world.now) c.args.rest.now c.loop-operand.operand-index c.operand-item.result (state_as c.loop-operand.state) (state_as c.evaluate-in-loop-operand.new.state) c.loop-operand-test.true c.operand-item.is (ap (λ (answer : Option Value). told cells_in answer (state_as c.evaluate-in-loop-operand.new.state)) (sym c.in_default-2.is) ∙ c.in_ok-value-2.ensures) ∙ c.loop-operand.invariant

pub expressions::any_holds-returns-then-holds-2 : goal.expressions::any_holds-returns-then-holds-2
expressions::any_holds-returns-then-holds-2 n c = sym (any_step (world_as c.args.world.now) c.args.rest.now c.loop-operand.operand-index c.operand-item.result (cells_in c.in-Some-2.value) (state_as c.loop-operand.state) (state_as c.evaluate-in-loop-operand.new.state) true c.loop-operand-test.true c.operand-item.is (ap (λ (answer : Option Value). told cells_in answer (state_as c.evaluate-in-loop-operand.new.state)) (sym c.in-Some-2.is) ∙ c.in_ok-value-2.ensures) (sym c.holds-in-loop-operand.ensures ∙ c.if-holds-2.true)) ∙ c.loop-operand.invariant

pub expressions::any_holds-loop-operand-preserved : goal.expressions::any_holds-loop-operand-preserved
expressions::any_holds-loop-operand-preserved n c = sym (any_step (world_as c.args.world.now) c.args.rest.now c.loop-operand.operand-index c.operand-item.result (cells_in c.in-Some-2.value) (state_as c.loop-operand.state) (state_as c.evaluate-in-loop-operand.new.state) false c.loop-operand-test.true c.operand-item.is (ap (λ (answer : Option Value). told cells_in answer (state_as c.evaluate-in-loop-operand.new.state)) (sym c.in-Some-2.is) ∙ c.in_ok-value-2.ensures) (sym c.holds-in-loop-operand.ensures ∙ c.if-holds-2.false)) ∙ c.loop-operand.invariant

pub expressions::chain-loop-step-preserved : goal.expressions::chain-loop-step-preserved
expressions::chain-loop-step-preserved n c =
    ap (λ (r : Evaluated (List Cell)). after r (λ v s. along (map (combines (world_as c.args.world.now)) (drop (c.loop-step.step-index + 1) c.args.steps.now)) v s)) (ap (λ (answer : Option Value). told cells_in answer (state_as c.combine.new.state)) (sym c.in-Some-2.is) ∙ c.in_ok-next.ensures)
    ∙ sym (along_next (combines (world_as c.args.world.now)) c.args.steps.now c.loop-step.step-index c.step-item.result (cells_in c.loop-step.value) (state_as c.loop-step.state) c.loop-step-test.true c.step-item.is)
    ∙ c.loop-step.invariant

pub expressions::each_value-returns-in_default : goal.expressions::each_value-returns-in_default
expressions::each_value-returns-in_default n c = each_past (evaluates (world_as c.args.world.now)) c.args.arguments.now c.loop-argument.argument-index c.argument-item.result (values_in c.loop-argument.values) (state_as c.loop-argument.state) (state_as c.evaluate.new.state) c.loop-argument-test.true c.argument-item.is (ap (λ (answer : Option Value). told cells_in answer (state_as c.evaluate.new.state)) (sym c.in_default.is) ∙ c.in_ok-value.ensures) ∙ c.loop-argument.invariant

pub expressions::each_value-loop-argument-preserved : goal.expressions::each_value-loop-argument-preserved
expressions::each_value-loop-argument-preserved n c =
    let pushed : c.push.new.self.items ≡ c.loop-argument.values.items ++ c.in-Some.value ∷ [] = search rules in
    ap (λ (values : List (List Cell)). values_after values (each_value (map (evaluates (world_as c.args.world.now)) (drop (c.loop-argument.argument-index + 1) c.args.arguments.now)) (state_as c.evaluate.new.state))) (ap (map cells_in) pushed ∙ map-append cells_in c.loop-argument.values.items (c.in-Some.value ∷ []))
    ∙ each_more (evaluates (world_as c.args.world.now)) c.args.arguments.now c.loop-argument.argument-index c.argument-item.result (values_in c.loop-argument.values) (cells_in c.in-Some.value) (state_as c.loop-argument.state) (state_as c.evaluate.new.state) c.loop-argument-test.true c.argument-item.is (ap (λ (answer : Option Value). told cells_in answer (state_as c.evaluate.new.state)) (sym c.in-Some.is) ∙ c.in_ok-value.ensures)
    ∙ c.loop-argument.invariant

pub statements::call-returns-then-number-world : goal.statements::call-returns-then-number-world
statements::call-returns-then-number-world n c =
    let none : get_or (calls_after (struct_cells c.args.world.now.structs.now) [] c.args.world.now.functions.now) c.args.function no_function ≡ no_function = call_none (struct_cells c.args.world.now.structs.now) c.args.world.now.functions.now c.args.function no_function (omega (arith, c.if-number-world.true)) in
    ap (λ (cells : List Cell). Gives cells (state_as c.args.state.now)) c.new.ensures.items
    ∙ ap (λ (called : Called). called (map cells_in c.args.values.now) c.args.place (state_as c.args.state.now)) (sym none)

pub statements::call-call_before-requires : goal.statements::call-call_before-requires
statements::call-call_before-requires n c = omega (arith, c.decreases, weighs_before_at c.args.world.now.functions.now c.args.function c.index-world-number.result (omega (arith, c.if-number-world.false)))

pub statements::call-returns : goal.statements::call-returns
statements::call-returns n c = rw (call_at (struct_cells c.args.world.now.structs.now) c.args.world.now.functions.now c.args.function no_function c.index-world-number.result (omega (arith, c.if-number-world.false))) c.call_before.ensures

pub statements::run_block-returns : goal.statements::run_block-returns
statements::run_block-returns n c = block_ended (world_as c.args.world.now) c.args.block.now c.as_slice.result.now c.as_slice-2.result.now c.in_ok-ending.ending (state_as c.args.state.now) (state_as c.run_items.new.state) (state_as c.end_items.new.state) c.as_slice.ensures c.as_slice-2.ensures c.in_ok-ending.ensures (c.end_items.ensures (world_as c.args.world.now))

pub statements::run_items-returns-in-Some : goal.statements::run_items-returns-in-Some
statements::run_items-returns-in-Some n c = order_left (λ item. (item_runs (world_as c.args.world.now) item).run) c.args.items.now c.loop-item.item-index c.item-item.result (state_as c.loop-item.state) (state_as c.run_item.new.state) c.in_ok-run_item.field-0 c.in-Some.ending c.loop-item-test.true c.item-item.is c.in_ok-run_item.ensures (λ u next. c.in-Some.ensures u next) ∙ c.loop-item.invariant

pub statements::run_items-loop-item-preserved : goal.statements::run_items-loop-item-preserved
statements::run_items-loop-item-preserved n c = order_more (λ item. (item_runs (world_as c.args.world.now) item).run) c.args.items.now c.loop-item.item-index c.item-item.result (state_as c.loop-item.state) (state_as c.run_item.new.state) c.in_ok-run_item.field-0 c.loop-item-test.true c.item-item.is c.in_ok-run_item.ensures (λ u next. c.in_default.ensures u next) ∙ c.loop-item.invariant

pub statements::run_statements-returns-in-Some : goal.statements::run_statements-returns-in-Some
statements::run_statements-returns-in-Some n c = order_left (runs (world_as c.args.world.now)) c.args.list.now c.loop-statement.statement-index c.statement-item.result (state_as c.loop-statement.state) (state_as c.run.new.state) c.in_ok-run.field-0 c.in-Some.ending c.loop-statement-test.true c.statement-item.is c.in_ok-run.ensures (λ u next. c.in-Some.ensures u next) ∙ c.loop-statement.invariant

pub statements::run_statements-loop-statement-preserved : goal.statements::run_statements-loop-statement-preserved
statements::run_statements-loop-statement-preserved n c = order_more (runs (world_as c.args.world.now)) c.args.list.now c.loop-statement.statement-index c.statement-item.result (state_as c.loop-statement.state) (state_as c.run.new.state) c.in_ok-run.field-0 c.loop-statement-test.true c.statement-item.is c.in_ok-run.ensures (λ u next. c.in_default.ensures u next) ∙ c.loop-statement.invariant

pub statements::run_sections-returns-in-Some : goal.statements::run_sections-returns-in-Some
statements::run_sections-returns-in-Some n c = order_left (λ section. (section_runs (world_as c.args.world.now) section).run) c.args.sections.now c.loop-section.section-index c.section-item.result (state_as c.loop-section.state) (state_as c.run_statements.new.state) c.in_ok-ending.ending c.in-Some.ending c.loop-section-test.true c.section-item.is (c.in_ok-ending.ensures ∙ ap (λ (list : List TypedStatement). in_order (map (runs (world_as c.args.world.now)) list) (state_as c.loop-section.state)) c.as_slice.ensures ∙ ap (λ (run : Exec). run (state_as c.loop-section.state)) (sym (section_means (world_as c.args.world.now) c.section-item.result))) (λ u next. c.in-Some.ensures u next) ∙ c.loop-section.invariant

pub statements::run_sections-loop-section-preserved : goal.statements::run_sections-loop-section-preserved
statements::run_sections-loop-section-preserved n c = order_more (λ section. (section_runs (world_as c.args.world.now) section).run) c.args.sections.now c.loop-section.section-index c.section-item.result (state_as c.loop-section.state) (state_as c.run_statements.new.state) c.in_ok-ending.ending c.loop-section-test.true c.section-item.is (c.in_ok-ending.ensures ∙ ap (λ (list : List TypedStatement). in_order (map (runs (world_as c.args.world.now)) list) (state_as c.loop-section.state)) c.as_slice.ensures ∙ ap (λ (run : Exec). run (state_as c.loop-section.state)) (sym (section_means (world_as c.args.world.now) c.section-item.result))) (λ u next. c.in_default.ensures u next) ∙ c.loop-section.invariant

pub statements::run_switch-run_sections-requires : goal.statements::run_switch-run_sections-requires
statements::run_switch-run_sections-requires n c = omega (arith, c.decreases, c.selected-chosen.ensures.weighs)

pub statements::run_switch-returns : goal.statements::run_switch-returns
statements::run_switch-returns n c =
    let word : c.word_of.result ≡ word_as c.args.scalar (cells_in c.in-Some.value) = c.word_of.ensures ∙ ap (low c.args.scalar) c.word_in.ensures in
    ap (λ (how : Ending). ends how (state_as c.run_sections.new.state)) c.left_switch.ensures
    ∙ switch_ended (world_as c.args.world.now) c.args.scalar (evaluates (world_as c.args.world.now) c.args.value.now) c.args.sections.now c.selected-chosen.result.now (cells_in c.in-Some.value) c.in_ok-run_sections.field-0 (state_as c.args.state.now) (state_as c.evaluate.new.state) (state_as c.run_sections.new.state)
    (ap (λ (answer : Option Value). told cells_in answer (state_as c.evaluate.new.state)) (sym c.in-Some.is) ∙ c.in_ok-value.ensures)
    (c.selected-chosen.ensures.means (world_as c.args.world.now) ∙ ap (λ (w : ℕ). selected w (map (section_runs (world_as c.args.world.now)) c.args.sections.now)) word)
    c.in_ok-run_sections.ensures

pub statements::run_for-returns : goal.statements::run_for-returns
statements::run_for-returns n c = ap (ends c.in_ok-ending.ending) c.end_first.ensures ∙ ap (finally (all_ended (declared_by c.args.first.now))) c.in_ok-ending.ensures

pub statements::turns-returns-in-Some : goal.statements::turns-returns-in-Some
statements::turns-returns-in-Some n c =
    let i = c.loop-number._number in
    ap (λ (ended : Option Ending). unless_ended ended (state_as c.turn.new.state) (turns (c.args.bound - (i + 1)) (test_where (world_as c.args.world.now) (option_copied c.args.condition)) (runs (world_as c.args.world.now) c.args.body.now) (step_where (world_as c.args.world.now) (option_copied c.args.step)))) (sym c.in-Some.is)
    ∙ c.in_ok-ending.ensures (turns (c.args.bound - (i + 1)) (test_where (world_as c.args.world.now) (option_copied c.args.condition)) (runs (world_as c.args.world.now) c.args.body.now) (step_where (world_as c.args.world.now) (option_copied c.args.step)))
    ∙ sym (turns_next c.args.bound i (test_where (world_as c.args.world.now) (option_copied c.args.condition)) (runs (world_as c.args.world.now) c.args.body.now) (step_where (world_as c.args.world.now) (option_copied c.args.step)) (state_as c.loop-number.state) c.loop-number-test.true)
    ∙ c.loop-number.invariant

pub statements::turns-loop-number-preserved : goal.statements::turns-loop-number-preserved
statements::turns-loop-number-preserved n c =
    let i = c.loop-number._number in
    ap (λ (ended : Option Ending). unless_ended ended (state_as c.turn.new.state) (turns (c.args.bound - (i + 1)) (test_where (world_as c.args.world.now) (option_copied c.args.condition)) (runs (world_as c.args.world.now) c.args.body.now) (step_where (world_as c.args.world.now) (option_copied c.args.step)))) (sym c.in_default.is)
    ∙ c.in_ok-ending.ensures (turns (c.args.bound - (i + 1)) (test_where (world_as c.args.world.now) (option_copied c.args.condition)) (runs (world_as c.args.world.now) c.args.body.now) (step_where (world_as c.args.world.now) (option_copied c.args.step)))
    ∙ sym (turns_next c.args.bound i (test_where (world_as c.args.world.now) (option_copied c.args.condition)) (runs (world_as c.args.world.now) c.args.body.now) (step_where (world_as c.args.world.now) (option_copied c.args.step)) (state_as c.loop-number.state) c.loop-number-test.true)
    ∙ c.loop-number.invariant
