-- Tables of the objects that stand in a list.
use Rattle.std.specs.Prelude.{ℕ, Bool, true, List, [], ◌∷◌, slice_set}
use Rattle.c_meaning.specs.declared.statements.TypedItem.{TypedItem}
use Rattle.c_meaning.specs.declared.statements.TypedIteration.{TypedIteration}
use Rattle.c_meaning.specs.declared.statements.TypedSelection.{TypedSelection}
use Rattle.c_meaning.specs.declared.statements.TypedSection.{TypedSection}
use Rattle.c_meaning.specs.declared.expressions.Lvalue.{Lvalue}
use Rattle.c_meaning.specs.declared.expressions.ChainStep.{ChainStep}
use Rattle.c_meaning.specs.declared.expressions.LogicalOperand.{LogicalOperand}
use Rattle.c_meaning.specs.declared.expressions.Lvalue.TheFolds.{fold-Lvalue, fold-ChainStep, fold-LogicalOperand}
use Rattle.c_meaning.specs.declared.statements.TypedStatement.{TypedStatement}
use Rattle.c_meaning.specs.declared.statements.TypedItem.TheFolds.{fold-TypedStatement, fold-TypedItem, fold-TypedIteration, fold-TypedSelection, fold-TypedSection}
use Rattle.c_meaning.specs.Uses.{Numbers, item_assigns, iteration_assigns, selection_assigns, statement_assigns, block_assigns, section_assigns, Taken, lvalue_takes, expr_takes, step_takes, operand_takes, item_takes, iteration_takes, selection_takes, statement_takes, block_takes, section_takes}

-- the table with the objects of the list marked, of those that it has
abbrev pub marked : List Bool → List ℕ → List Bool
marked marks [] = marks
marked marks (k ∷ ks) = marked (slice_set marks k true) ks

-- ---- the objects that parts of statements assign to

abbrev pub assigned_by_item : TypedItem → List ℕ
assigned_by_item =
    fold-TypedItem Numbers Numbers Numbers Numbers Numbers Numbers
    item_assigns iteration_assigns selection_assigns statement_assigns block_assigns section_assigns

abbrev pub assigned_by_iteration : TypedIteration → List ℕ
assigned_by_iteration =
    fold-TypedIteration Numbers Numbers Numbers Numbers Numbers Numbers
    item_assigns iteration_assigns selection_assigns statement_assigns block_assigns section_assigns

abbrev pub assigned_by_selection : TypedSelection → List ℕ
assigned_by_selection =
    fold-TypedSelection Numbers Numbers Numbers Numbers Numbers Numbers
    item_assigns iteration_assigns selection_assigns statement_assigns block_assigns section_assigns

abbrev pub assigned_by_section : TypedSection → List ℕ
assigned_by_section =
    fold-TypedSection Numbers Numbers Numbers Numbers Numbers Numbers
    item_assigns iteration_assigns selection_assigns statement_assigns block_assigns section_assigns

-- ---- the objects whose addresses parts of expressions and statements take

abbrev pub lvalue_taken : Lvalue → Taken
lvalue_taken = fold-Lvalue Taken Numbers Numbers Numbers lvalue_takes expr_takes step_takes operand_takes

abbrev pub step_taken : ChainStep → List ℕ
step_taken = fold-ChainStep Taken Numbers Numbers Numbers lvalue_takes expr_takes step_takes operand_takes

abbrev pub operand_taken : LogicalOperand → List ℕ
operand_taken = fold-LogicalOperand Taken Numbers Numbers Numbers lvalue_takes expr_takes step_takes operand_takes

abbrev pub taken_by_statement : TypedStatement → List ℕ
taken_by_statement =
    fold-TypedStatement Numbers Numbers Numbers Numbers Numbers Numbers
    item_takes iteration_takes selection_takes statement_takes block_takes section_takes

abbrev pub taken_by_item : TypedItem → List ℕ
taken_by_item =
    fold-TypedItem Numbers Numbers Numbers Numbers Numbers Numbers
    item_takes iteration_takes selection_takes statement_takes block_takes section_takes

abbrev pub taken_by_iteration : TypedIteration → List ℕ
taken_by_iteration =
    fold-TypedIteration Numbers Numbers Numbers Numbers Numbers Numbers
    item_takes iteration_takes selection_takes statement_takes block_takes section_takes

abbrev pub taken_by_selection : TypedSelection → List ℕ
taken_by_selection =
    fold-TypedSelection Numbers Numbers Numbers Numbers Numbers Numbers
    item_takes iteration_takes selection_takes statement_takes block_takes section_takes

abbrev pub taken_by_section : TypedSection → List ℕ
taken_by_section =
    fold-TypedSection Numbers Numbers Numbers Numbers Numbers Numbers
    item_takes iteration_takes selection_takes statement_takes block_takes section_takes
