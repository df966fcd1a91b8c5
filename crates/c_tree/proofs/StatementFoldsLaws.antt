-- What each tree of a statement wants, and whether it is of the grammar, by its parts.
use Rattle.std.proofs.Common.{◌≡◌, Bool, List, map, Option, Some, None, option_map, ap, sym, ◌∙◌}
use Rattle.c_tree.specs.Expressions.{Wants}
use Rattle.c_tree.specs.Statements.{Form}
use Rattle.c_tree.specs.StatementFolds.{if_statement, switch_statement, while_statement, do_statement, for_statement, wants_of_statement, wants_of_selection, wants_of_iteration, wants_of_section, wants_of_block, wants_of_part, statement_wants, selection_wants, iteration_wants, section_wants, block_wants, part_wants, form_of_statement, form_of_selection, form_of_iteration, is_section_tree, is_block, is_part_tree, statement_form, selection_form, iteration_form, section_is, block_is, part_is}
use Rattle.c_tree.specs.declared.token.Place.{Place}
use Rattle.c_tree.specs.declared.expressions.Expr.{Expr}
use Rattle.c_tree.specs.declared.expressions.TagSpecifier.{TagSpecifier}
use Rattle.c_tree.specs.declared.statements.ExpressionStatement.{ExpressionStatement}
use Rattle.c_tree.specs.declared.statements.Declaration.{Declaration}
use Rattle.c_tree.specs.declared.statements.LoopBound.{LoopBound}
use Rattle.c_tree.specs.declared.statements.First.{First}
use Rattle.c_tree.specs.declared.statements.Label.{Label}
use Rattle.c_tree.specs.declared.statements.Statement.{Statement}
use Rattle.c_tree.specs.declared.statements.Statement.TheVariants as statement
use Rattle.c_tree.specs.declared.statements.Selection.{Selection}
use Rattle.c_tree.specs.declared.statements.Selection.TheVariants as selection
use Rattle.c_tree.specs.declared.statements.Iteration.{Iteration}
use Rattle.c_tree.specs.declared.statements.Iteration.TheVariants as iteration
use Rattle.c_tree.specs.declared.statements.LabelledSection.{LabelledSection}
use Rattle.c_tree.specs.declared.statements.Block.{Block}
use Rattle.c_tree.specs.declared.statements.BlockItem.{BlockItem}
use Rattle.c_tree.specs.declared.statements.BlockItem.TheVariants as part
use Rattle.c_tree.specs.declared.statements.BlockItem.TheOpen.{Statement-F, Selection-F, Iteration-F, BlockItem-F}
use Rattle.c_tree.specs.declared.statements.BlockItem.TheViews.{roll-LabelledSection, roll-Block}
use Rattle.c_tree.specs.declared.statements.BlockItem.TheFolds.{fold-roll-Statement, fold-roll-Selection, fold-roll-Iteration, fold-roll-LabelledSection, fold-roll-Block, fold-roll-BlockItem}

-- ---- what they want

pub wants_Block : (block : Block) → wants_of_statement (statement.Block block) ≡ statement_wants (Statement-F.Block (wants_of_block block))
wants_Block block = ap wants_of_statement (sym (statement.rolls-Block block)) ∙ fold-roll-Statement Wants Wants Wants Wants Wants Wants part_wants iteration_wants selection_wants statement_wants block_wants section_wants (Statement-F.Block block)

pub wants_Empty : (place : Place) → wants_of_statement (statement.Empty place) ≡ statement_wants (Statement-F.Empty place)
wants_Empty place = ap wants_of_statement (sym (statement.rolls-Empty place)) ∙ fold-roll-Statement Wants Wants Wants Wants Wants Wants part_wants iteration_wants selection_wants statement_wants block_wants section_wants (Statement-F.Empty place)

pub wants_Expression : (value : ExpressionStatement) → wants_of_statement (statement.Expression value) ≡ statement_wants (Statement-F.Expression value)
wants_Expression value = ap wants_of_statement (sym (statement.rolls-Expression value)) ∙ fold-roll-Statement Wants Wants Wants Wants Wants Wants part_wants iteration_wants selection_wants statement_wants block_wants section_wants (Statement-F.Expression value)

pub wants_Break : (place : Place) → wants_of_statement (statement.Break place) ≡ statement_wants (Statement-F.Break place)
wants_Break place = ap wants_of_statement (sym (statement.rolls-Break place)) ∙ fold-roll-Statement Wants Wants Wants Wants Wants Wants part_wants iteration_wants selection_wants statement_wants block_wants section_wants (Statement-F.Break place)

pub wants_Continue : (place : Place) → wants_of_statement (statement.Continue place) ≡ statement_wants (Statement-F.Continue place)
wants_Continue place = ap wants_of_statement (sym (statement.rolls-Continue place)) ∙ fold-roll-Statement Wants Wants Wants Wants Wants Wants part_wants iteration_wants selection_wants statement_wants block_wants section_wants (Statement-F.Continue place)

pub wants_Return : (place : Place) (value : Option Expr) → wants_of_statement (statement.Return place value) ≡ statement_wants (Statement-F.Return place value)
wants_Return place value = ap wants_of_statement (sym (statement.rolls-Return place value)) ∙ fold-roll-Statement Wants Wants Wants Wants Wants Wants part_wants iteration_wants selection_wants statement_wants block_wants section_wants (Statement-F.Return place value)

pub wants_If : (place : Place) (condition : Expr) (then : Statement) (otherwise : Option Statement) → wants_of_statement (if_statement place condition then otherwise) ≡ selection_wants (Selection-F.If place condition (wants_of_statement then) (option_map wants_of_statement otherwise))
wants_If place condition then None =
    ap wants_of_statement (sym (statement.rolls-Selection (selection.If place condition then None))) ∙ fold-roll-Statement Wants Wants Wants Wants Wants Wants part_wants iteration_wants selection_wants statement_wants block_wants section_wants (Statement-F.Selection (selection.If place condition then None))
    ∙ ap wants_of_selection (sym (selection.rolls-If place condition then None)) ∙ fold-roll-Selection Wants Wants Wants Wants Wants Wants part_wants iteration_wants selection_wants statement_wants block_wants section_wants (Selection-F.If place condition then None)
wants_If place condition then (Some some) =
    ap wants_of_statement (sym (statement.rolls-Selection (selection.If place condition then (Some some)))) ∙ fold-roll-Statement Wants Wants Wants Wants Wants Wants part_wants iteration_wants selection_wants statement_wants block_wants section_wants (Statement-F.Selection (selection.If place condition then (Some some)))
    ∙ ap wants_of_selection (sym (selection.rolls-If place condition then (Some some))) ∙ fold-roll-Selection Wants Wants Wants Wants Wants Wants part_wants iteration_wants selection_wants statement_wants block_wants section_wants (Selection-F.If place condition then (Some some))

pub wants_Switch : (place : Place) (value : Expr) (sections : List LabelledSection) → wants_of_statement (switch_statement place value sections) ≡ selection_wants (Selection-F.Switch place value (map wants_of_section sections))
wants_Switch place value sections =
    ap wants_of_statement (sym (statement.rolls-Selection (selection.Switch place value sections))) ∙ fold-roll-Statement Wants Wants Wants Wants Wants Wants part_wants iteration_wants selection_wants statement_wants block_wants section_wants (Statement-F.Selection (selection.Switch place value sections))
    ∙ ap wants_of_selection (sym (selection.rolls-Switch place value sections)) ∙ fold-roll-Selection Wants Wants Wants Wants Wants Wants part_wants iteration_wants selection_wants statement_wants block_wants section_wants (Selection-F.Switch place value sections)

pub wants_While : (bound : Option LoopBound) (place : Place) (condition : Expr) (body : Statement) → wants_of_statement (while_statement bound place condition body) ≡ iteration_wants (Iteration-F.While bound place condition (wants_of_statement body))
wants_While bound place condition body =
    ap wants_of_statement (sym (statement.rolls-Iteration (iteration.While bound place condition body))) ∙ fold-roll-Statement Wants Wants Wants Wants Wants Wants part_wants iteration_wants selection_wants statement_wants block_wants section_wants (Statement-F.Iteration (iteration.While bound place condition body))
    ∙ ap wants_of_iteration (sym (iteration.rolls-While bound place condition body)) ∙ fold-roll-Iteration Wants Wants Wants Wants Wants Wants part_wants iteration_wants selection_wants statement_wants block_wants section_wants (Iteration-F.While bound place condition body)

pub wants_Do : (bound : Option LoopBound) (place : Place) (body : Statement) (condition : Expr) → wants_of_statement (do_statement bound place body condition) ≡ iteration_wants (Iteration-F.Do bound place (wants_of_statement body) condition)
wants_Do bound place body condition =
    ap wants_of_statement (sym (statement.rolls-Iteration (iteration.Do bound place body condition))) ∙ fold-roll-Statement Wants Wants Wants Wants Wants Wants part_wants iteration_wants selection_wants statement_wants block_wants section_wants (Statement-F.Iteration (iteration.Do bound place body condition))
    ∙ ap wants_of_iteration (sym (iteration.rolls-Do bound place body condition)) ∙ fold-roll-Iteration Wants Wants Wants Wants Wants Wants part_wants iteration_wants selection_wants statement_wants block_wants section_wants (Iteration-F.Do bound place body condition)

pub wants_For : (bound : Option LoopBound) (place : Place) (initial : First) (condition : Option Expr) (step : Option ExpressionStatement) (body : Statement) → wants_of_statement (for_statement bound place initial condition step body) ≡ iteration_wants (Iteration-F.For bound place initial condition step (wants_of_statement body))
wants_For bound place initial condition step body =
    ap wants_of_statement (sym (statement.rolls-Iteration (iteration.For bound place initial condition step body))) ∙ fold-roll-Statement Wants Wants Wants Wants Wants Wants part_wants iteration_wants selection_wants statement_wants block_wants section_wants (Statement-F.Iteration (iteration.For bound place initial condition step body))
    ∙ ap wants_of_iteration (sym (iteration.rolls-For bound place initial condition step body)) ∙ fold-roll-Iteration Wants Wants Wants Wants Wants Wants part_wants iteration_wants selection_wants statement_wants block_wants section_wants (Iteration-F.For bound place initial condition step body)

-- ---- which are of the grammar

pub form_Block : (block : Block) → form_of_statement (statement.Block block) ≡ statement_form (Statement-F.Block (is_block block))
form_Block block = ap form_of_statement (sym (statement.rolls-Block block)) ∙ fold-roll-Statement Bool Form Form Form Bool Bool part_is iteration_form selection_form statement_form block_is section_is (Statement-F.Block block)

pub form_Empty : (place : Place) → form_of_statement (statement.Empty place) ≡ statement_form (Statement-F.Empty place)
form_Empty place = ap form_of_statement (sym (statement.rolls-Empty place)) ∙ fold-roll-Statement Bool Form Form Form Bool Bool part_is iteration_form selection_form statement_form block_is section_is (Statement-F.Empty place)

pub form_Expression : (value : ExpressionStatement) → form_of_statement (statement.Expression value) ≡ statement_form (Statement-F.Expression value)
form_Expression value = ap form_of_statement (sym (statement.rolls-Expression value)) ∙ fold-roll-Statement Bool Form Form Form Bool Bool part_is iteration_form selection_form statement_form block_is section_is (Statement-F.Expression value)

pub form_Break : (place : Place) → form_of_statement (statement.Break place) ≡ statement_form (Statement-F.Break place)
form_Break place = ap form_of_statement (sym (statement.rolls-Break place)) ∙ fold-roll-Statement Bool Form Form Form Bool Bool part_is iteration_form selection_form statement_form block_is section_is (Statement-F.Break place)

pub form_Continue : (place : Place) → form_of_statement (statement.Continue place) ≡ statement_form (Statement-F.Continue place)
form_Continue place = ap form_of_statement (sym (statement.rolls-Continue place)) ∙ fold-roll-Statement Bool Form Form Form Bool Bool part_is iteration_form selection_form statement_form block_is section_is (Statement-F.Continue place)

pub form_Return : (place : Place) (value : Option Expr) → form_of_statement (statement.Return place value) ≡ statement_form (Statement-F.Return place value)
form_Return place value = ap form_of_statement (sym (statement.rolls-Return place value)) ∙ fold-roll-Statement Bool Form Form Form Bool Bool part_is iteration_form selection_form statement_form block_is section_is (Statement-F.Return place value)

pub form_If : (place : Place) (condition : Expr) (then : Statement) (otherwise : Option Statement) → form_of_statement (if_statement place condition then otherwise) ≡ selection_form (Selection-F.If place condition (form_of_statement then) (option_map form_of_statement otherwise))
form_If place condition then None =
    ap form_of_statement (sym (statement.rolls-Selection (selection.If place condition then None))) ∙ fold-roll-Statement Bool Form Form Form Bool Bool part_is iteration_form selection_form statement_form block_is section_is (Statement-F.Selection (selection.If place condition then None))
    ∙ ap form_of_selection (sym (selection.rolls-If place condition then None)) ∙ fold-roll-Selection Bool Form Form Form Bool Bool part_is iteration_form selection_form statement_form block_is section_is (Selection-F.If place condition then None)
form_If place condition then (Some some) =
    ap form_of_statement (sym (statement.rolls-Selection (selection.If place condition then (Some some)))) ∙ fold-roll-Statement Bool Form Form Form Bool Bool part_is iteration_form selection_form statement_form block_is section_is (Statement-F.Selection (selection.If place condition then (Some some)))
    ∙ ap form_of_selection (sym (selection.rolls-If place condition then (Some some))) ∙ fold-roll-Selection Bool Form Form Form Bool Bool part_is iteration_form selection_form statement_form block_is section_is (Selection-F.If place condition then (Some some))

pub form_Switch : (place : Place) (value : Expr) (sections : List LabelledSection) → form_of_statement (switch_statement place value sections) ≡ selection_form (Selection-F.Switch place value (map is_section_tree sections))
form_Switch place value sections =
    ap form_of_statement (sym (statement.rolls-Selection (selection.Switch place value sections))) ∙ fold-roll-Statement Bool Form Form Form Bool Bool part_is iteration_form selection_form statement_form block_is section_is (Statement-F.Selection (selection.Switch place value sections))
    ∙ ap form_of_selection (sym (selection.rolls-Switch place value sections)) ∙ fold-roll-Selection Bool Form Form Form Bool Bool part_is iteration_form selection_form statement_form block_is section_is (Selection-F.Switch place value sections)

pub form_While : (bound : Option LoopBound) (place : Place) (condition : Expr) (body : Statement) → form_of_statement (while_statement bound place condition body) ≡ iteration_form (Iteration-F.While bound place condition (form_of_statement body))
form_While bound place condition body =
    ap form_of_statement (sym (statement.rolls-Iteration (iteration.While bound place condition body))) ∙ fold-roll-Statement Bool Form Form Form Bool Bool part_is iteration_form selection_form statement_form block_is section_is (Statement-F.Iteration (iteration.While bound place condition body))
    ∙ ap form_of_iteration (sym (iteration.rolls-While bound place condition body)) ∙ fold-roll-Iteration Bool Form Form Form Bool Bool part_is iteration_form selection_form statement_form block_is section_is (Iteration-F.While bound place condition body)

pub form_Do : (bound : Option LoopBound) (place : Place) (body : Statement) (condition : Expr) → form_of_statement (do_statement bound place body condition) ≡ iteration_form (Iteration-F.Do bound place (form_of_statement body) condition)
form_Do bound place body condition =
    ap form_of_statement (sym (statement.rolls-Iteration (iteration.Do bound place body condition))) ∙ fold-roll-Statement Bool Form Form Form Bool Bool part_is iteration_form selection_form statement_form block_is section_is (Statement-F.Iteration (iteration.Do bound place body condition))
    ∙ ap form_of_iteration (sym (iteration.rolls-Do bound place body condition)) ∙ fold-roll-Iteration Bool Form Form Form Bool Bool part_is iteration_form selection_form statement_form block_is section_is (Iteration-F.Do bound place body condition)

pub form_For : (bound : Option LoopBound) (place : Place) (initial : First) (condition : Option Expr) (step : Option ExpressionStatement) (body : Statement) → form_of_statement (for_statement bound place initial condition step body) ≡ iteration_form (Iteration-F.For bound place initial condition step (form_of_statement body))
form_For bound place initial condition step body =
    ap form_of_statement (sym (statement.rolls-Iteration (iteration.For bound place initial condition step body))) ∙ fold-roll-Statement Bool Form Form Form Bool Bool part_is iteration_form selection_form statement_form block_is section_is (Statement-F.Iteration (iteration.For bound place initial condition step body))
    ∙ ap form_of_iteration (sym (iteration.rolls-For bound place initial condition step body)) ∙ fold-roll-Iteration Bool Form Form Form Bool Bool part_is iteration_form selection_form statement_form block_is section_is (Iteration-F.For bound place initial condition step body)

-- ---- sections, blocks and their items

pub wants_LabelledSection : (labels : List Label) (statements : List Statement) → wants_of_section (roll-LabelledSection (record { labels = labels; statements = statements })) ≡ section_wants (record { labels = labels; statements = map wants_of_statement statements })
wants_LabelledSection labels statements = fold-roll-LabelledSection Wants Wants Wants Wants Wants Wants part_wants iteration_wants selection_wants statement_wants block_wants section_wants (record { labels = labels; statements = statements })

pub wants_Braces : (place : Place) (parts : List BlockItem) → wants_of_block (roll-Block (record { place = place; parts = parts })) ≡ block_wants (record { place = place; parts = map wants_of_part parts })
wants_Braces place parts = fold-roll-Block Wants Wants Wants Wants Wants Wants part_wants iteration_wants selection_wants statement_wants block_wants section_wants (record { place = place; parts = parts })

pub wants_BlockItem_Statement : (value : Statement) → wants_of_part (part.Statement value) ≡ part_wants (BlockItem-F.Statement (wants_of_statement value))
wants_BlockItem_Statement value = ap wants_of_part (sym (part.rolls-Statement value)) ∙ fold-roll-BlockItem Wants Wants Wants Wants Wants Wants part_wants iteration_wants selection_wants statement_wants block_wants section_wants (BlockItem-F.Statement value)

pub wants_BlockItem_Declaration : (value : Declaration) → wants_of_part (part.Declaration value) ≡ part_wants (BlockItem-F.Declaration value)
wants_BlockItem_Declaration value = ap wants_of_part (sym (part.rolls-Declaration value)) ∙ fold-roll-BlockItem Wants Wants Wants Wants Wants Wants part_wants iteration_wants selection_wants statement_wants block_wants section_wants (BlockItem-F.Declaration value)

pub wants_BlockItem_TagSpecifier : (value : TagSpecifier) → wants_of_part (part.TagSpecifier value) ≡ part_wants (BlockItem-F.TagSpecifier value)
wants_BlockItem_TagSpecifier value = ap wants_of_part (sym (part.rolls-TagSpecifier value)) ∙ fold-roll-BlockItem Wants Wants Wants Wants Wants Wants part_wants iteration_wants selection_wants statement_wants block_wants section_wants (BlockItem-F.TagSpecifier value)

pub is_LabelledSection : (labels : List Label) (statements : List Statement) → is_section_tree (roll-LabelledSection (record { labels = labels; statements = statements })) ≡ section_is (record { labels = labels; statements = map form_of_statement statements })
is_LabelledSection labels statements = fold-roll-LabelledSection Bool Form Form Form Bool Bool part_is iteration_form selection_form statement_form block_is section_is (record { labels = labels; statements = statements })

pub is_Braces : (place : Place) (parts : List BlockItem) → is_block (roll-Block (record { place = place; parts = parts })) ≡ block_is (record { place = place; parts = map is_part_tree parts })
is_Braces place parts = fold-roll-Block Bool Form Form Form Bool Bool part_is iteration_form selection_form statement_form block_is section_is (record { place = place; parts = parts })

pub is_BlockItem_Statement : (value : Statement) → is_part_tree (part.Statement value) ≡ part_is (BlockItem-F.Statement (form_of_statement value))
is_BlockItem_Statement value = ap is_part_tree (sym (part.rolls-Statement value)) ∙ fold-roll-BlockItem Bool Form Form Form Bool Bool part_is iteration_form selection_form statement_form block_is section_is (BlockItem-F.Statement value)

pub is_BlockItem_Declaration : (value : Declaration) → is_part_tree (part.Declaration value) ≡ part_is (BlockItem-F.Declaration value)
is_BlockItem_Declaration value = ap is_part_tree (sym (part.rolls-Declaration value)) ∙ fold-roll-BlockItem Bool Form Form Form Bool Bool part_is iteration_form selection_form statement_form block_is section_is (BlockItem-F.Declaration value)

pub is_BlockItem_TagSpecifier : (value : TagSpecifier) → is_part_tree (part.TagSpecifier value) ≡ part_is (BlockItem-F.TagSpecifier value)
is_BlockItem_TagSpecifier value = ap is_part_tree (sym (part.rolls-TagSpecifier value)) ∙ fold-roll-BlockItem Bool Form Form Form Bool Bool part_is iteration_form selection_form statement_form block_is section_is (BlockItem-F.TagSpecifier value)
