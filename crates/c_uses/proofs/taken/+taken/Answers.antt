use Rattle.std.proofs.Common.{◌∙◌, List, map, option_map, sym, ap}
use Rattle.c_meaning.specs.declared.statements.TypedSection.{TypedSection}
use Rattle.c_uses.proofs.Laws.{two_marks, three_marks, four_marks, taken_If, taken_Switch, taken_While, taken_Do, taken_For}
use Rattle.c_meaning.specs.Uses.{all_of, option_of, taken_in, first_takes, controlling_takes, step_of_loop_takes}
use Rattle.c_uses.specs.Marks.{marked, taken_by_selection, taken_by_iteration, taken_by_statement, taken_by_item, taken_by_section}
use Rattle.c_uses.proofs.Marking.{marks_more}
use Rattle.c_uses.proofs.taken.+taken.Goals as goal

pub mark_items-loop-item-preserved : goal.mark_items-loop-item-preserved
mark_items-loop-item-preserved t c =
    marks_more taken_by_item c.args.items.now c.loop-item.item-index c.item-item.result c.loop-item.marks c.mark_item.new.marks c.loop-item-test.true c.item-item.is c.mark_item.ensures
    ∙ c.loop-item.invariant

pub mark_statements-loop-statement-preserved : goal.mark_statements-loop-statement-preserved
mark_statements-loop-statement-preserved t c =
    marks_more taken_by_statement c.args.list.now c.loop-statement.statement-index c.statement-item.result c.loop-statement.marks c.mark_statement.new.marks c.loop-statement-test.true c.statement-item.is c.mark_statement.ensures
    ∙ c.loop-statement.invariant

pub mark_sections-loop-section-preserved : goal.mark_sections-loop-section-preserved
mark_sections-loop-section-preserved t c =
    marks_more taken_by_section c.args.sections.now c.loop-section.section-index c.section-item.result c.loop-section.marks c.mark_section.new.marks c.loop-section-test.true c.section-item.is c.mark_section.ensures
    ∙ c.loop-section.invariant

pub mark_selection-returns-in-If : goal.mark_selection-returns-in-If
mark_selection-returns-in-If t c =
    three_marks c.args.marks.now c.mark_expr.new.marks c.mark_statement.new.marks _ (taken_in c.in-If.condition) (taken_by_statement c.in-If.then) (option_of (option_map taken_by_statement c.in-If.otherwise)) _ c.mark_expr.ensures c.mark_statement.ensures c.mark_otherwise.ensures (sym (ap taken_by_selection c.in-If.is ∙ taken_If _ _ _ _))

pub mark_selection-returns-in-Switch : goal.mark_selection-returns-in-Switch
mark_selection-returns-in-Switch t c =
    two_marks c.args.marks.now c.mark_expr-in-Switch.new.marks _ (taken_in c.in-Switch.value) (all_of (map taken_by_section c.in-Switch.sections)) _ c.mark_expr-in-Switch.ensures (c.mark_sections.ensures ∙ ap (λ (xs : List TypedSection). marked c.mark_expr-in-Switch.new.marks (all_of (map taken_by_section xs))) c.as_slice.ensures) (sym (ap taken_by_selection c.in-Switch.is ∙ taken_Switch _ _ _ _))

pub mark_iteration-returns-in-While : goal.mark_iteration-returns-in-While
mark_iteration-returns-in-While t c =
    two_marks c.args.marks.now c.mark_expr.new.marks _ (taken_in c.in-While.condition.value) (taken_by_statement c.in-While.body) _ c.mark_expr.ensures c.mark_statement.ensures (sym (ap taken_by_iteration c.in-While.is ∙ taken_While _ _ _ _))

pub mark_iteration-returns-in-Do : goal.mark_iteration-returns-in-Do
mark_iteration-returns-in-Do t c =
    two_marks c.args.marks.now c.mark_statement-in-Do.new.marks _ (taken_by_statement c.in-Do.body) (taken_in c.in-Do.condition.value) _ c.mark_statement-in-Do.ensures c.mark_expr-in-Do.ensures (sym (ap taken_by_iteration c.in-Do.is ∙ taken_Do _ _ _ _))

pub mark_iteration-returns-in-For : goal.mark_iteration-returns-in-For
mark_iteration-returns-in-For t c =
    four_marks c.args.marks.now c.mark_first.new.marks c.mark_condition.new.marks c.mark_step.new.marks _ (first_takes c.in-For.first) (controlling_takes c.in-For.condition) (step_of_loop_takes c.in-For.step) (taken_by_statement c.in-For.body) _ c.mark_first.ensures c.mark_condition.ensures c.mark_step.ensures c.mark_statement-in-For.ensures (sym (ap taken_by_iteration c.in-For.is ∙ taken_For _ _ _ _ _ _ _))
