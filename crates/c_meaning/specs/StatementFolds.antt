-- The meaning of whole statements: the rule of each production, applied from the parts up.
use Rattle.std.specs.Prelude.{◌∷◌, []}
use Rattle.c_meaning.specs.declared.values.Ending.TheVariants as ending
use Rattle.c_meaning.specs.declared.statements.TypedStatement.{TypedStatement}
use Rattle.c_meaning.specs.declared.statements.TypedBlock.{TypedBlock}
use Rattle.c_meaning.specs.declared.statements.TypedItem.{TypedItem}
use Rattle.c_meaning.specs.declared.statements.TypedIteration.{TypedIteration}
use Rattle.c_meaning.specs.declared.statements.TypedSelection.{TypedSelection}
use Rattle.c_meaning.specs.declared.statements.TypedSection.{TypedSection}
use Rattle.c_meaning.specs.declared.statements.TypedItem.TheOpen.{TypedItem-F, TypedIteration-F, TypedSelection-F, TypedStatement-F, TypedBlock-F, TypedSection-F}
use Rattle.c_meaning.specs.declared.statements.TypedItem.TheFolds.{fold-TypedStatement, fold-TypedBlock, fold-TypedItem, fold-TypedIteration, fold-TypedSelection, fold-TypedSection}
use Rattle.c_meaning.specs.Expressions.{World}
use Rattle.c_meaning.specs.ExpressionFolds.{evaluates}
use Rattle.c_meaning.specs.Statements.{Exec, ItemRun, SectionRun, ends, in_order, effect_run, declarator_run, if_run, switch_run, test_of, test_where, while_run, do_run, for_run, first_run, declared_by, step_where, block_run, return_run}

abbrev pub item_rule : World → TypedItem-F ItemRun Exec Exec Exec Exec SectionRun → ItemRun
item_rule world (TypedItem-F.Statement run) = record { objects = []; run = run }
item_rule world (TypedItem-F.Object declared) = record { objects = declared.object ∷ []; run = declarator_run world declared }

abbrev pub iteration_rule : World → TypedIteration-F ItemRun Exec Exec Exec Exec SectionRun → Exec
iteration_rule world (TypedIteration-F.While tokens bound condition body) = while_run bound (test_of world condition) body
iteration_rule world (TypedIteration-F.Do tokens bound body condition) = do_run bound body (test_of world condition)
iteration_rule world (TypedIteration-F.For tokens bound counter first condition step body) =
    for_run bound (declared_by first) (first_run world first) (test_where world condition) (step_where world step) body

abbrev pub selection_rule : World → TypedSelection-F ItemRun Exec Exec Exec Exec SectionRun → Exec
selection_rule world (TypedSelection-F.If tokens condition consequence otherwise) = if_run (evaluates world condition) consequence otherwise
selection_rule world (TypedSelection-F.Switch tokens t value sections) = switch_run t (evaluates world value) sections

abbrev pub statement_rule : World → TypedStatement-F ItemRun Exec Exec Exec Exec SectionRun → Exec
statement_rule world (TypedStatement-F.Block run) = run
statement_rule world TypedStatement-F.Empty = ends ending.Normal
statement_rule world (TypedStatement-F.Effect tokens effect) = effect_run world effect
statement_rule world TypedStatement-F.Break = ends ending.Break
statement_rule world TypedStatement-F.Continue = ends ending.Continue
statement_rule world (TypedStatement-F.Return tokens k value) = return_run world value
statement_rule world (TypedStatement-F.Selection run) = run
statement_rule world (TypedStatement-F.Iteration run) = run

abbrev pub block_rule : TypedBlock-F ItemRun Exec Exec Exec Exec SectionRun → Exec
block_rule block = block_run block.items

abbrev pub section_rule : TypedSection-F ItemRun Exec Exec Exec Exec SectionRun → SectionRun
section_rule section = record { labels = section.labels; run = in_order section.statements }

-- what a statement does
abbrev pub runs : World → TypedStatement → Exec
runs world =
    fold-TypedStatement ItemRun Exec Exec Exec Exec SectionRun
    (item_rule world) (iteration_rule world) (selection_rule world) (statement_rule world) block_rule section_rule

-- what a block does
abbrev pub block_runs : World → TypedBlock → Exec
block_runs world =
    fold-TypedBlock ItemRun Exec Exec Exec Exec SectionRun
    (item_rule world) (iteration_rule world) (selection_rule world) (statement_rule world) block_rule section_rule

-- what an item of a block declares and does
abbrev pub item_runs : World → TypedItem → ItemRun
item_runs world =
    fold-TypedItem ItemRun Exec Exec Exec Exec SectionRun
    (item_rule world) (iteration_rule world) (selection_rule world) (statement_rule world) block_rule section_rule

-- what an iteration statement does
abbrev pub iteration_runs : World → TypedIteration → Exec
iteration_runs world =
    fold-TypedIteration ItemRun Exec Exec Exec Exec SectionRun
    (item_rule world) (iteration_rule world) (selection_rule world) (statement_rule world) block_rule section_rule

-- what a selection statement does
abbrev pub selection_runs : World → TypedSelection → Exec
selection_runs world =
    fold-TypedSelection ItemRun Exec Exec Exec Exec SectionRun
    (item_rule world) (iteration_rule world) (selection_rule world) (statement_rule world) block_rule section_rule

-- the labels of a section of a `switch`, and what it does
abbrev pub section_runs : World → TypedSection → SectionRun
section_runs world =
    fold-TypedSection ItemRun Exec Exec Exec Exec SectionRun
    (item_rule world) (iteration_rule world) (selection_rule world) (statement_rule world) block_rule section_rule
