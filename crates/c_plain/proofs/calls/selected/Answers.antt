use Rattle.std.proofs.Common.{◌≡◌, ◌∙◌, [], map, sym, ap, List}
use Rattle.c_meaning.specs.declared.statements.TypedSection.{TypedSection}
use Rattle.c_meaning.specs.Statements as statements
use Rattle.c_meaning.specs.StatementFolds.{section_runs}
use Rattle.c_plain.proofs.Arguments.{by_default, by_case, none_where, some_where}
use Rattle.c_plain.proofs.calls.selected.Goals as goal

pub returns-then-is_empty-clause-means : goal.returns-then-is_empty-clause-means
returns-then-is_empty-clause-means c = λ world.
    let sections = c.sections_from-by_case.result.now in
    let none : sections ≡ [] = none_where sections (sym c.is_empty.ensures ∙ c.if-is_empty.true) in
    c.sections_from.ensures.means world
    ∙ sym (by_default _ _ (sym (c.sections_from-by_case.ensures.means world) ∙ ap (λ (left : List TypedSection). map (section_runs world) left) none))

pub returns-else-is_empty-clause-means : goal.returns-else-is_empty-clause-means
returns-else-is_empty-clause-means c = λ world.
    let sections = c.sections_from-by_case.result.now in
    let some : sections ≡ [] → ⊥ = some_where sections (sym c.is_empty.ensures ∙ c.if-is_empty.false) in
    sym (ap (λ (first : List statements.SectionRun). statements.case_or_default first (statements.sections_from statements.is_default (map (section_runs world) c.args.sections.now))) (sym (c.sections_from-by_case.ensures.means world))
    ∙ by_case sections world (statements.sections_from statements.is_default (map (section_runs world) c.args.sections.now)) some)
