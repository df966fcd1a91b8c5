use Rattle.std.proofs.Common.{◌≡◌, ◌≤◌, subst, ◌∙◌, true, false, map, sym, ap, List}
use Rattle.std.specs.List.{list_any}
use Rattle.std.proofs.lemmas.List.{take_rest}
use Rattle.c_meaning.specs.declared.statements.TypedSection.{TypedSection}
use Rattle.c_meaning.specs.StatementFolds.{section_runs}
use Rattle.c_plain.specs.Views.{wanted_label}
use Rattle.c_plain.specs.Weights.{total, section_weight}
use Rattle.c_plain.proofs.Weighing.{weighs_left}
use Rattle.c_plain.proofs.Arguments.{labels_of, section_found, section_missed, section_none}
use Rattle.c_plain.proofs.calls.sections_from.Goals as goal

pub returns-then-has_label-clause-means : goal.returns-then-has_label-clause-means
returns-then-has_label-clause-means c = λ world.
    let e : list_any (wanted_label c.args.word) (section_runs world c.index-sections-number.result).labels ≡ true = ap (list_any (wanted_label c.args.word)) (labels_of world c.index-sections-number.result) ∙ sym c.has_label.ensures ∙ c.if-has_label.true in
    ap (λ (left : List TypedSection). map (section_runs world) left) (take_rest c.args.sections.now c.loop-number.number)
    ∙ sym (section_found world (wanted_label c.args.word) c.args.sections.now c.loop-number.number c.index-sections-number.result c.loop-number-test.true c.index-sections-number.is e)
    ∙ c.loop-number.invariant world

pub loop-number-preserved : goal.loop-number-preserved
loop-number-preserved c = λ world.
    let e : list_any (wanted_label c.args.word) (section_runs world c.index-sections-number.result).labels ≡ false = ap (list_any (wanted_label c.args.word)) (labels_of world c.index-sections-number.result) ∙ sym c.has_label.ensures ∙ c.if-has_label.false in
    section_missed world (wanted_label c.args.word) c.args.sections.now c.loop-number.number c.index-sections-number.result c.loop-number-test.true c.index-sections-number.is e
    ∙ c.loop-number.invariant world

pub returns-clause-means : goal.returns-clause-means
returns-clause-means c = λ world.
    sym (section_none world (wanted_label c.args.word) c.args.sections.now c.loop-number.number c.loop-number-test.false)
    ∙ c.loop-number.invariant world

pub returns-then-has_label-clause-weighs : goal.returns-then-has_label-clause-weighs
returns-then-has_label-clause-weighs c =
    let sections = c.args.sections.now in
    let P : List TypedSection → Type 0 = λ left. total (map section_weight left) ≤ total (map section_weight sections) in
    subst P (sym (take_rest sections c.loop-number.number)) (weighs_left section_weight sections c.loop-number.number)
