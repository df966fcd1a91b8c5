use Rattle.std.proofs.Common.{◌∙◌, ℕ, Bool, List, sym, ap}
use Rattle.std.specs.Option.{option_map}
use Rattle.c_meaning.specs.Uses.{assigned_in, option_of}
use Rattle.c_uses.specs.Marks.{marked, assigned_by_selection, assigned_by_item, assigned_by_section}
use Rattle.c_uses.proofs.Marking.{marks_more, marked_append, if_assigns}
use Rattle.c_uses.proofs.uses.+assignments.Goals as goal

pub mark_items-loop-item-preserved : goal.mark_items-loop-item-preserved
mark_items-loop-item-preserved t c =
    marks_more assigned_by_item c.args.items.now c.loop-item.item-index c.item-item.result c.loop-item.marks c.mark_item.new.marks c.loop-item-test.true c.item-item.is c.mark_item.ensures
    ∙ c.loop-item.invariant

pub mark_statements-loop-statement-preserved : goal.mark_statements-loop-statement-preserved
mark_statements-loop-statement-preserved t c =
    marks_more assigned_in c.args.list.now c.loop-statement.statement-index c.statement-item.result c.loop-statement.marks c.mark_statement.new.marks c.loop-statement-test.true c.statement-item.is c.mark_statement.ensures
    ∙ c.loop-statement.invariant

pub mark_sections-loop-section-preserved : goal.mark_sections-loop-section-preserved
mark_sections-loop-section-preserved t c =
    marks_more assigned_by_section c.args.sections.now c.loop-section.section-index c.section-item.result c.loop-section.marks c.mark_section.new.marks c.loop-section-test.true c.section-item.is c.mark_section.ensures
    ∙ c.loop-section.invariant

pub mark_selection-returns-in-If : goal.mark_selection-returns-in-If
mark_selection-returns-in-If t c =
    let otherwise : List ℕ = option_of (option_map assigned_in c.in-If.otherwise) in
    c.mark_otherwise.ensures
    ∙ ap (λ (marks : List Bool). marked marks otherwise) c.mark_statement.ensures
    ∙ marked_append c.args.marks.now (assigned_in c.in-If.then) otherwise
    ∙ sym (ap (marked c.args.marks.now) (ap assigned_by_selection c.in-If.is ∙ if_assigns c.in-If.tokens c.in-If.condition c.in-If.then c.in-If.otherwise))
