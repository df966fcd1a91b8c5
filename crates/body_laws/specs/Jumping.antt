-- Jumps that leave a statement, by what stands around it (C11 6.8.6.2, 6.8.6.3).
use Rattle.std.specs.Prelude.{◌≡◌, true}
use Rattle.c_meaning.specs.declared.statements.TypedStatement.{TypedStatement}
use Rattle.c_meaning.specs.declared.statements.TypedSelection.{TypedSelection}
use Rattle.c_meaning.specs.declared.statements.TypedIteration.{TypedIteration}
use Rattle.c_meaning.specs.declared.statements.TypedItem.{TypedItem}
use Rattle.c_meaning.specs.declared.statements.TypedSection.{TypedSection}
use Rattle.c_meaning.specs.declared.statements.TypedItem.TheFolds.{fold-TypedItem, fold-TypedIteration, fold-TypedSelection, fold-TypedStatement, fold-TypedSection}
use Rattle.c_meaning.specs.StatementRules.{Jumps, item_jumps, iteration_jumps, selection_jumps, statement_jumps, block_jumps, section_jumps}
use Rattle.c_bodies.specs.declared.context.Around.{Around}

abbrev pub jumps_of_item : TypedItem → Jumps
jumps_of_item = fold-TypedItem Jumps Jumps Jumps Jumps Jumps Jumps item_jumps iteration_jumps selection_jumps statement_jumps block_jumps section_jumps

abbrev pub jumps_of_iteration : TypedIteration → Jumps
jumps_of_iteration = fold-TypedIteration Jumps Jumps Jumps Jumps Jumps Jumps item_jumps iteration_jumps selection_jumps statement_jumps block_jumps section_jumps

abbrev pub jumps_of_selection : TypedSelection → Jumps
jumps_of_selection = fold-TypedSelection Jumps Jumps Jumps Jumps Jumps Jumps item_jumps iteration_jumps selection_jumps statement_jumps block_jumps section_jumps

abbrev pub jumps_of_statement : TypedStatement → Jumps
jumps_of_statement = fold-TypedStatement Jumps Jumps Jumps Jumps Jumps Jumps item_jumps iteration_jumps selection_jumps statement_jumps block_jumps section_jumps

abbrev pub jumps_of_section : TypedSection → Jumps
jumps_of_section = fold-TypedSection Jumps Jumps Jumps Jumps Jumps Jumps item_jumps iteration_jumps selection_jumps statement_jumps block_jumps section_jumps

-- each jump leaves something that stands around it
abbrev pub JumpsAre : Around → Jumps → Type 0
JumpsAre around jumps = (jumps.breaks ≡ true → around.breaks ≡ true) × (jumps.continues ≡ true → around.continues ≡ true)
