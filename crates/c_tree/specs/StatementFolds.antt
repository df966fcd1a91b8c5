-- The productions of statements over whole trees: what each tree wants, and whether it is of the grammar, by its parts; and statements in
-- statements by the names of their productions.
use Rattle.std.specs.Prelude.{Bool, true, false, List, ◌++◌, Option, codes}
use Rattle.std.specs.List.{list_all}
use Rattle.c_tree.specs.Pieces.{mark}
use Rattle.c_tree.specs.Expressions.{Wants}
use Rattle.c_tree.specs.Folds.{wants_of_tag, is_tag_tree}
use Rattle.c_tree.specs.Declarations.{wants_of_objects, are_objects, is_simple}
use Rattle.c_tree.specs.Statements.{Form, labelled_wants, labelled_is, braces_wants, empty_wants, expression_wants, if_wants, if_form, switch_wants, switch_form, while_wants, while_form, do_wants, do_form, for_wants, for_form, is_condition, continue_wants, break_wants, return_wants}
use Rattle.c_tree.specs.declared.token.Place.{Place}
use Rattle.c_tree.specs.declared.expressions.Expr.{Expr}
use Rattle.c_tree.specs.declared.statements.ExpressionStatement.{ExpressionStatement}
use Rattle.c_tree.specs.declared.statements.LoopBound.{LoopBound}
use Rattle.c_tree.specs.declared.statements.First.{First}
use Rattle.c_tree.specs.declared.statements.Statement.{Statement}
use Rattle.c_tree.specs.declared.statements.Statement.TheVariants as statement
use Rattle.c_tree.specs.declared.statements.Selection.{Selection}
use Rattle.c_tree.specs.declared.statements.Selection.TheVariants as selection
use Rattle.c_tree.specs.declared.statements.Iteration.{Iteration}
use Rattle.c_tree.specs.declared.statements.Iteration.TheVariants as iteration
use Rattle.c_tree.specs.declared.statements.LabelledSection.{LabelledSection}
use Rattle.c_tree.specs.declared.statements.Block.{Block}
use Rattle.c_tree.specs.declared.statements.BlockItem.{BlockItem}
use Rattle.c_tree.specs.declared.statements.BlockItem.TheOpen.{Statement-F, Selection-F, Iteration-F, LabelledSection-F, Block-F, BlockItem-F}
use Rattle.c_tree.specs.declared.statements.BlockItem.TheFolds.{fold-Statement, fold-Selection, fold-Iteration, fold-LabelledSection, fold-Block, fold-BlockItem}

-- ---- statements by their productions

abbrev pub if_statement : Place → Expr → Statement → Option Statement → Statement
if_statement place condition then otherwise = statement.Selection (selection.If place condition then otherwise)

abbrev pub switch_statement : Place → Expr → List LabelledSection → Statement
switch_statement place value sections = statement.Selection (selection.Switch place value sections)

abbrev pub while_statement : Option LoopBound → Place → Expr → Statement → Statement
while_statement bound place condition body = statement.Iteration (iteration.While bound place condition body)

abbrev pub do_statement : Option LoopBound → Place → Statement → Expr → Statement
do_statement bound place body condition = statement.Iteration (iteration.Do bound place body condition)

abbrev pub for_statement : Option LoopBound → Place → First → Option Expr → Option ExpressionStatement → Statement → Statement
for_statement bound place initial condition step body = statement.Iteration (iteration.For bound place initial condition step body)

-- ---- what they want

abbrev pub selection_wants : Selection-F Wants Wants Wants Wants Wants Wants → Wants
selection_wants (Selection-F.If place condition then otherwise) = if_wants place condition then otherwise
selection_wants (Selection-F.Switch place value sections) = switch_wants place value sections

abbrev pub iteration_wants : Iteration-F Wants Wants Wants Wants Wants Wants → Wants
iteration_wants (Iteration-F.While bound place condition body) = while_wants bound place condition body
iteration_wants (Iteration-F.Do bound place body condition) = do_wants bound place body condition
iteration_wants (Iteration-F.For bound place initial condition step body) = for_wants bound place initial condition step body

abbrev pub statement_wants : Statement-F Wants Wants Wants Wants Wants Wants → Wants
statement_wants (Statement-F.Block block) = block
statement_wants (Statement-F.Empty place) = empty_wants place
statement_wants (Statement-F.Expression value) = expression_wants value
statement_wants (Statement-F.Break place) = break_wants place
statement_wants (Statement-F.Continue place) = continue_wants place
statement_wants (Statement-F.Return place value) = return_wants place value
statement_wants (Statement-F.Selection parts) = parts
statement_wants (Statement-F.Iteration parts) = parts

abbrev pub section_wants : LabelledSection-F Wants Wants Wants Wants Wants Wants → Wants
section_wants section = labelled_wants section.labels section.statements

abbrev pub block_wants : Block-F Wants Wants Wants Wants Wants Wants → Wants
block_wants block = braces_wants block.place block.parts

abbrev pub part_wants : BlockItem-F Wants Wants Wants Wants Wants Wants → Wants
part_wants (BlockItem-F.Statement statement) n = statement n
part_wants (BlockItem-F.Declaration objects) n = wants_of_objects objects n ++ mark (codes ";") n
part_wants (BlockItem-F.TagSpecifier tag) n = wants_of_tag tag n ++ mark (codes ";") n

abbrev pub wants_of_statement : Statement → Wants
wants_of_statement = fold-Statement Wants Wants Wants Wants Wants Wants part_wants iteration_wants selection_wants statement_wants block_wants section_wants

abbrev pub wants_of_selection : Selection → Wants
wants_of_selection = fold-Selection Wants Wants Wants Wants Wants Wants part_wants iteration_wants selection_wants statement_wants block_wants section_wants

abbrev pub wants_of_iteration : Iteration → Wants
wants_of_iteration = fold-Iteration Wants Wants Wants Wants Wants Wants part_wants iteration_wants selection_wants statement_wants block_wants section_wants

abbrev pub wants_of_section : LabelledSection → Wants
wants_of_section = fold-LabelledSection Wants Wants Wants Wants Wants Wants part_wants iteration_wants selection_wants statement_wants block_wants section_wants

abbrev pub wants_of_block : Block → Wants
wants_of_block = fold-Block Wants Wants Wants Wants Wants Wants part_wants iteration_wants selection_wants statement_wants block_wants section_wants

abbrev pub wants_of_part : BlockItem → Wants
wants_of_part = fold-BlockItem Wants Wants Wants Wants Wants Wants part_wants iteration_wants selection_wants statement_wants block_wants section_wants

-- ---- which are of the grammar

abbrev pub selection_form : Selection-F Bool Form Form Form Bool Bool → Form
selection_form (Selection-F.If place condition then otherwise) = if_form condition then otherwise
selection_form (Selection-F.Switch place value sections) = switch_form value sections

abbrev pub iteration_form : Iteration-F Bool Form Form Form Bool Bool → Form
iteration_form (Iteration-F.While bound place condition body) = while_form condition body
iteration_form (Iteration-F.Do bound place body condition) = do_form body condition
iteration_form (Iteration-F.For bound place initial condition step body) = for_form initial condition step body

abbrev pub statement_form : Statement-F Bool Form Form Form Bool Bool → Form
statement_form (Statement-F.Block block) = record { is = block; open_ = false }
statement_form (Statement-F.Expression value) = record { is = is_simple value; open_ = false }
statement_form (Statement-F.Return place value) = record { is = is_condition value; open_ = false }
statement_form (Statement-F.Selection parts) = parts
statement_form (Statement-F.Iteration parts) = parts
statement_form _ = record { is = true; open_ = false }

abbrev pub section_is : LabelledSection-F Bool Form Form Form Bool Bool → Bool
section_is section = labelled_is section.labels section.statements

abbrev pub block_is : Block-F Bool Form Form Form Bool Bool → Bool
block_is block = list_all (λ part. part) block.parts

abbrev pub part_is : BlockItem-F Bool Form Form Form Bool Bool → Bool
part_is (BlockItem-F.Statement statement) = statement.is
part_is (BlockItem-F.Declaration objects) = are_objects objects
part_is (BlockItem-F.TagSpecifier tag) = is_tag_tree tag

abbrev pub form_of_statement : Statement → Form
form_of_statement = fold-Statement Bool Form Form Form Bool Bool part_is iteration_form selection_form statement_form block_is section_is

abbrev pub form_of_selection : Selection → Form
form_of_selection = fold-Selection Bool Form Form Form Bool Bool part_is iteration_form selection_form statement_form block_is section_is

abbrev pub form_of_iteration : Iteration → Form
form_of_iteration = fold-Iteration Bool Form Form Form Bool Bool part_is iteration_form selection_form statement_form block_is section_is

abbrev pub is_section_tree : LabelledSection → Bool
is_section_tree = fold-LabelledSection Bool Form Form Form Bool Bool part_is iteration_form selection_form statement_form block_is section_is

abbrev pub is_block : Block → Bool
is_block = fold-Block Bool Form Form Form Bool Bool part_is iteration_form selection_form statement_form block_is section_is

abbrev pub is_part_tree : BlockItem → Bool
is_part_tree = fold-BlockItem Bool Form Form Form Bool Bool part_is iteration_form selection_form statement_form block_is section_is
