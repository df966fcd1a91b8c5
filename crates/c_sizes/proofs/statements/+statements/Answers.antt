use Rattle.std.proofs.Common.{◌∙◌, List, map, refl, ap}
use Rattle.c_meaning.specs.declared.statements.TypedEffect.{TypedEffect}
use Rattle.c_meaning.specs.declared.statements.TypedItem.{TypedItem}
use Rattle.c_meaning.specs.declared.statements.TypedSection.{TypedSection}
use Rattle.c_meaning.specs.Sizes.{Counters, plus, visit, branch}
use Rattle.c_meaning.specs.SizeFolds.{Sized, all_sized, effect_size}
use Rattle.c_sizes.specs.Totals.{totals_of}
use Rattle.c_sizes.specs.Views.{measure_as, declared_as, size_of_item, size_of_statement, size_of_section}
use Rattle.c_sizes.proofs.Saturation.{joined_as, looped_as}
use Rattle.c_sizes.proofs.Sums.{parts_more}
use Rattle.c_sizes.proofs.Laws.{statement_by, iteration_by, selection_by, block_by, sized_Effect, sized_If, sized_Switch, sized_While, sized_Do, sized_For}
use Rattle.c_sizes.proofs.statements.+statements.Goals as goal

pub statement_size-returns-in-Effect : goal.statement_size-returns-in-Effect
statement_size-returns-in-Effect t c =
    c.plus.ensures ∙ joined_as _ _ _ _ _ c.own_size-in-Effect.ensures (c.effect_size.ensures ∙ ap (λ (e : TypedEffect). totals_of (effect_size (measure_as c.args.m.now) e c.args.counters.now)) c.get-in-Effect.ensures) (statement_by (declared_as c.args.m.now) c.args.counters.now c.args.statement.now _ _ c.in-Effect.is (sized_Effect (declared_as c.args.m.now) _ _ c.args.counters.now))

pub block_size-returns : goal.block_size-returns
block_size-returns t c =
    c.plus.ensures ∙ joined_as _ _ _ _ _ c.own_size.ensures (c.in_ok-items.ensures ∙ ap (λ (xs : List TypedItem). totals_of (all_sized (map (size_of_item (declared_as c.args.m.now)) xs) c.args.counters.now)) c.as_slice.ensures) (block_by (declared_as c.args.m.now) c.args.block.now c.args.counters.now)

pub items_size-loop-item-preserved : goal.items_size-loop-item-preserved
items_size-loop-item-preserved t c =
    c.plus-total.ensures ∙ parts_more (size_of_item (declared_as c.args.m.now)) (λ (s : Sized). s c.args.counters.now) c.args.items.now c.loop-item.item-index c.item-item.result c.loop-item.total c.in_ok-item_size.field-0 c.loop-item-test.true c.item-item.is c.loop-item.invariant c.in_ok-item_size.ensures

pub statements_size-loop-statement-preserved : goal.statements_size-loop-statement-preserved
statements_size-loop-statement-preserved t c =
    c.plus-total.ensures ∙ parts_more (size_of_statement (declared_as c.args.m.now)) (λ (s : Sized). s c.args.counters.now) c.args.list.now c.loop-statement.statement-index c.statement-item.result c.loop-statement.total c.in_ok-statement_size.field-0 c.loop-statement-test.true c.statement-item.is c.loop-statement.invariant c.in_ok-statement_size.ensures

pub sections_size-loop-section-preserved : goal.sections_size-loop-section-preserved
sections_size-loop-section-preserved t c =
    c.plus-total.ensures ∙ parts_more (size_of_section (declared_as c.args.m.now)) (λ (s : Sized). s c.args.counters.now) c.args.sections.now c.loop-section.section-index c.section-item.result c.loop-section.total c.in_ok-section_size.field-0 c.loop-section-test.true c.section-item.is c.loop-section.invariant c.in_ok-section_size.ensures

pub selection_size-returns-in_ok-otherwise_size-in-If : goal.selection_size-returns-in_ok-otherwise_size-in-If
selection_size-returns-in_ok-otherwise_size-in-If t c =
    c.plus-in-If.ensures
    ∙ joined_as _ _ _ _ _ (c.plus.ensures ∙ joined_as _ _ _ _ _ c.own_size.ensures c.branch-m.ensures refl)
    (c.plus-parts.ensures ∙ joined_as _ _ _ _ _ c.measure.ensures.total (c.plus-either.ensures ∙ joined_as _ _ _ _ _ c.in_ok-consequence-in-If.ensures c.in_ok-otherwise_size-in-If.ensures refl) refl)
    (selection_by (declared_as c.args.m.now) c.args.counters.now c.args.selection.now _ _ c.in-If.is (sized_If (declared_as c.args.m.now) _ _ _ _ c.args.counters.now))

pub selection_size-returns-in_ok-all-in-Switch : goal.selection_size-returns-in_ok-all-in-Switch
selection_size-returns-in_ok-all-in-Switch t c =
    c.plus-in-Switch-2.ensures
    ∙ joined_as _ _ _ _ _ (c.plus-in-Switch.ensures ∙ joined_as _ _ _ _ _ c.own_size-in-Switch.ensures c.branch-m-in-Switch.ensures refl)
    (c.plus-parts-in-Switch.ensures ∙ joined_as _ _ _ _ _ c.measure-in-Switch.ensures.total (c.in_ok-all-in-Switch.ensures ∙ ap (λ (xs : List TypedSection). totals_of (all_sized (map (size_of_section (declared_as c.args.m.now)) xs) c.args.counters.now)) c.as_slice.ensures) refl)
    (selection_by (declared_as c.args.m.now) c.args.counters.now c.args.selection.now _ _ c.in-Switch.is (sized_Switch (declared_as c.args.m.now) _ _ _ _ c.args.counters.now))

pub iteration_size-returns-in_ok-body-in-While : goal.iteration_size-returns-in_ok-body-in-While
iteration_size-returns-in_ok-body-in-While t c =
    c.plus.ensures
    ∙ joined_as _ _ _ _ _ c.own_size.ensures (c.loop_size.ensures ∙ looped_as (plus visit (branch (measure_as c.args.m.now))) c.in-While.bound _ _ _ _ _ _ _ c.controlling_size-test.ensures c.in_ok-body-in-While.ensures c.nothing.ensures refl)
    (iteration_by (declared_as c.args.m.now) c.args.counters.now c.args.iteration.now _ _ c.in-While.is (sized_While (declared_as c.args.m.now) _ _ _ _ c.args.counters.now))

pub iteration_size-returns-in_ok-body-in-Do : goal.iteration_size-returns-in_ok-body-in-Do
iteration_size-returns-in_ok-body-in-Do t c =
    c.plus-in-Do.ensures
    ∙ joined_as _ _ _ _ _ c.own_size-in-Do.ensures (c.loop_size-in-Do.ensures ∙ looped_as (plus visit (branch (measure_as c.args.m.now))) c.in-Do.bound _ _ _ _ _ _ _ c.controlling_size-test-in-Do.ensures c.in_ok-body-in-Do.ensures c.nothing-in-Do.ensures refl)
    (iteration_by (declared_as c.args.m.now) c.args.counters.now c.args.iteration.now _ _ c.in-Do.is (sized_Do (declared_as c.args.m.now) _ _ _ _ c.args.counters.now))

pub iteration_size-returns-in_ok-body-in-For : goal.iteration_size-returns-in_ok-body-in-For
iteration_size-returns-in_ok-body-in-For t c =
    c.plus-in-For.ensures
    ∙ joined_as _ _ _ _ _ (c.plus-head.ensures ∙ joined_as _ _ _ _ _ c.own_size-in-For.ensures c.first_size.ensures refl)
    (c.loop_size-in-For.ensures
    ∙ looped_as (plus visit (branch (measure_as c.args.m.now))) c.in-For.bound _ _ _ _ _ _ _ c.controlling_where-test.ensures
    (c.in_ok-body-in-For.ensures ∙ ap (λ (counters : Counters). totals_of (size_of_statement (declared_as c.args.m.now) c.in-For.body counters)) (c.as_slice.ensures.value ∙ c.in_ok-inner-in-For.ensures))
    c.step_size-step.ensures refl)
    (iteration_by (declared_as c.args.m.now) c.args.counters.now c.args.iteration.now _ _ c.in-For.is (sized_For (declared_as c.args.m.now) _ _ _ _ _ _ _ c.args.counters.now))
