-- Statements, sections, blocks and their items by their outermost layer.
use Rattle.std.proofs.Common.{List, Option, sym, subst}
use Rattle.c_tree.specs.StatementFolds.{if_statement, switch_statement, while_statement, do_statement, for_statement}
use Rattle.c_tree.specs.declared.token.Place.{Place}
use Rattle.c_tree.specs.declared.expressions.Expr.{Expr}
use Rattle.c_tree.specs.declared.expressions.TagSpecifier.{TagSpecifier}
use Rattle.c_tree.specs.declared.statements.ExpressionStatement.{ExpressionStatement}
use Rattle.c_tree.specs.declared.statements.Declaration.{Declaration}
use Rattle.c_tree.specs.declared.statements.LoopBound.{LoopBound}
use Rattle.c_tree.specs.declared.statements.First.{First}
use Rattle.c_tree.specs.declared.statements.Label.{Label}
use Rattle.c_tree.specs.declared.statements.Statement.{Statement}
use Rattle.c_tree.specs.declared.statements.Statement.TheVariants as statement
use Rattle.c_tree.specs.declared.statements.Selection.{Selection}
use Rattle.c_tree.specs.declared.statements.Selection.TheVariants as selection
use Rattle.c_tree.specs.declared.statements.Iteration.{Iteration}
use Rattle.c_tree.specs.declared.statements.Iteration.TheVariants as iteration
use Rattle.c_tree.specs.declared.statements.LabelledSection.{LabelledSection}
use Rattle.c_tree.specs.declared.statements.Block.{Block}
use Rattle.c_tree.specs.declared.statements.BlockItem.{BlockItem}
use Rattle.c_tree.specs.declared.statements.BlockItem.TheVariants as part
use Rattle.c_tree.specs.declared.statements.BlockItem.TheOpen.{Statement-F, Selection-F, Iteration-F, BlockItem-F}
use Rattle.c_tree.specs.declared.statements.BlockItem.TheViews.{roll-Statement, out-Statement, roll-out-Statement, roll-Selection, out-Selection, roll-out-Selection, roll-Iteration, out-Iteration, roll-out-Iteration, roll-LabelledSection, out-LabelledSection, roll-out-LabelledSection, roll-Block, out-Block, roll-out-Block, roll-BlockItem, out-BlockItem, roll-out-BlockItem}

layer_Selection : (P : Selection → Type 0) → ((place : Place) (condition : Expr) (then : Statement) (otherwise : Option Statement) → P (selection.If place condition then otherwise)) → ((place : Place) (value : Expr) (sections : List LabelledSection) → P (selection.Switch place value sections)) → (layer : Selection-F BlockItem Iteration Selection Statement Block LabelledSection) → P (roll-Selection layer)
layer_Selection P of-If of-Switch (Selection-F.If place condition then otherwise) = subst P (sym (selection.rolls-If place condition then otherwise)) (of-If place condition then otherwise)
layer_Selection P of-If of-Switch (Selection-F.Switch place value sections) = subst P (sym (selection.rolls-Switch place value sections)) (of-Switch place value sections)

pub cases_Selection : (P : Selection → Type 0) → ((place : Place) (condition : Expr) (then : Statement) (otherwise : Option Statement) → P (selection.If place condition then otherwise)) → ((place : Place) (value : Expr) (sections : List LabelledSection) → P (selection.Switch place value sections)) → (tree : Selection) → P tree
cases_Selection P of-If of-Switch tree = subst P (roll-out-Selection tree) (layer_Selection P of-If of-Switch (out-Selection tree))

layer_Iteration : (P : Iteration → Type 0) → ((bound : Option LoopBound) (place : Place) (condition : Expr) (body : Statement) → P (iteration.While bound place condition body)) → ((bound : Option LoopBound) (place : Place) (body : Statement) (condition : Expr) → P (iteration.Do bound place body condition)) → ((bound : Option LoopBound) (place : Place) (initial : First) (condition : Option Expr) (step : Option ExpressionStatement) (body : Statement) → P (iteration.For bound place initial condition step body)) → (layer : Iteration-F BlockItem Iteration Selection Statement Block LabelledSection) → P (roll-Iteration layer)
layer_Iteration P of-While of-Do of-For (Iteration-F.While bound place condition body) = subst P (sym (iteration.rolls-While bound place condition body)) (of-While bound place condition body)
layer_Iteration P of-While of-Do of-For (Iteration-F.Do bound place body condition) = subst P (sym (iteration.rolls-Do bound place body condition)) (of-Do bound place body condition)
layer_Iteration P of-While of-Do of-For (Iteration-F.For bound place initial condition step body) = subst P (sym (iteration.rolls-For bound place initial condition step body)) (of-For bound place initial condition step body)

pub cases_Iteration : (P : Iteration → Type 0) → ((bound : Option LoopBound) (place : Place) (condition : Expr) (body : Statement) → P (iteration.While bound place condition body)) → ((bound : Option LoopBound) (place : Place) (body : Statement) (condition : Expr) → P (iteration.Do bound place body condition)) → ((bound : Option LoopBound) (place : Place) (initial : First) (condition : Option Expr) (step : Option ExpressionStatement) (body : Statement) → P (iteration.For bound place initial condition step body)) → (tree : Iteration) → P tree
cases_Iteration P of-While of-Do of-For tree = subst P (roll-out-Iteration tree) (layer_Iteration P of-While of-Do of-For (out-Iteration tree))

layer_Statement : (P : Statement → Type 0) → ((block : Block) → P (statement.Block block)) → ((place : Place) → P (statement.Empty place)) → ((value : ExpressionStatement) → P (statement.Expression value)) → ((place : Place) → P (statement.Break place)) → ((place : Place) → P (statement.Continue place)) → ((place : Place) (value : Option Expr) → P (statement.Return place value)) → ((place : Place) (condition : Expr) (then : Statement) (otherwise : Option Statement) → P (if_statement place condition then otherwise)) → ((place : Place) (value : Expr) (sections : List LabelledSection) → P (switch_statement place value sections)) → ((bound : Option LoopBound) (place : Place) (condition : Expr) (body : Statement) → P (while_statement bound place condition body)) → ((bound : Option LoopBound) (place : Place) (body : Statement) (condition : Expr) → P (do_statement bound place body condition)) → ((bound : Option LoopBound) (place : Place) (initial : First) (condition : Option Expr) (step : Option ExpressionStatement) (body : Statement) → P (for_statement bound place initial condition step body)) → (layer : Statement-F BlockItem Iteration Selection Statement Block LabelledSection) → P (roll-Statement layer)
layer_Statement P of-Block of-Empty of-Expression of-Break of-Continue of-Return of-If of-Switch of-While of-Do of-For (Statement-F.Block block) = subst P (sym (statement.rolls-Block block)) (of-Block block)
layer_Statement P of-Block of-Empty of-Expression of-Break of-Continue of-Return of-If of-Switch of-While of-Do of-For (Statement-F.Empty place) = subst P (sym (statement.rolls-Empty place)) (of-Empty place)
layer_Statement P of-Block of-Empty of-Expression of-Break of-Continue of-Return of-If of-Switch of-While of-Do of-For (Statement-F.Expression value) = subst P (sym (statement.rolls-Expression value)) (of-Expression value)
layer_Statement P of-Block of-Empty of-Expression of-Break of-Continue of-Return of-If of-Switch of-While of-Do of-For (Statement-F.Break place) = subst P (sym (statement.rolls-Break place)) (of-Break place)
layer_Statement P of-Block of-Empty of-Expression of-Break of-Continue of-Return of-If of-Switch of-While of-Do of-For (Statement-F.Continue place) = subst P (sym (statement.rolls-Continue place)) (of-Continue place)
layer_Statement P of-Block of-Empty of-Expression of-Break of-Continue of-Return of-If of-Switch of-While of-Do of-For (Statement-F.Return place value) = subst P (sym (statement.rolls-Return place value)) (of-Return place value)
layer_Statement P of-Block of-Empty of-Expression of-Break of-Continue of-Return of-If of-Switch of-While of-Do of-For (Statement-F.Selection parts) = subst P (sym (statement.rolls-Selection parts)) (cases_Selection (λ s. P (statement.Selection s)) of-If of-Switch parts)
layer_Statement P of-Block of-Empty of-Expression of-Break of-Continue of-Return of-If of-Switch of-While of-Do of-For (Statement-F.Iteration parts) = subst P (sym (statement.rolls-Iteration parts)) (cases_Iteration (λ s. P (statement.Iteration s)) of-While of-Do of-For parts)

pub cases_Statement : (P : Statement → Type 0) → ((block : Block) → P (statement.Block block)) → ((place : Place) → P (statement.Empty place)) → ((value : ExpressionStatement) → P (statement.Expression value)) → ((place : Place) → P (statement.Break place)) → ((place : Place) → P (statement.Continue place)) → ((place : Place) (value : Option Expr) → P (statement.Return place value)) → ((place : Place) (condition : Expr) (then : Statement) (otherwise : Option Statement) → P (if_statement place condition then otherwise)) → ((place : Place) (value : Expr) (sections : List LabelledSection) → P (switch_statement place value sections)) → ((bound : Option LoopBound) (place : Place) (condition : Expr) (body : Statement) → P (while_statement bound place condition body)) → ((bound : Option LoopBound) (place : Place) (body : Statement) (condition : Expr) → P (do_statement bound place body condition)) → ((bound : Option LoopBound) (place : Place) (initial : First) (condition : Option Expr) (step : Option ExpressionStatement) (body : Statement) → P (for_statement bound place initial condition step body)) → (tree : Statement) → P tree
cases_Statement P of-Block of-Empty of-Expression of-Break of-Continue of-Return of-If of-Switch of-While of-Do of-For tree = subst P (roll-out-Statement tree) (layer_Statement P of-Block of-Empty of-Expression of-Break of-Continue of-Return of-If of-Switch of-While of-Do of-For (out-Statement tree))

layer_BlockItem : (P : BlockItem → Type 0) → ((value : Statement) → P (part.Statement value)) → ((value : Declaration) → P (part.Declaration value)) → ((value : TagSpecifier) → P (part.TagSpecifier value)) → (layer : BlockItem-F BlockItem Iteration Selection Statement Block LabelledSection) → P (roll-BlockItem layer)
layer_BlockItem P of-Statement of-Declaration of-TagSpecifier (BlockItem-F.Statement value) = subst P (sym (part.rolls-Statement value)) (of-Statement value)
layer_BlockItem P of-Statement of-Declaration of-TagSpecifier (BlockItem-F.Declaration value) = subst P (sym (part.rolls-Declaration value)) (of-Declaration value)
layer_BlockItem P of-Statement of-Declaration of-TagSpecifier (BlockItem-F.TagSpecifier value) = subst P (sym (part.rolls-TagSpecifier value)) (of-TagSpecifier value)

pub cases_BlockItem : (P : BlockItem → Type 0) → ((value : Statement) → P (part.Statement value)) → ((value : Declaration) → P (part.Declaration value)) → ((value : TagSpecifier) → P (part.TagSpecifier value)) → (tree : BlockItem) → P tree
cases_BlockItem P of-Statement of-Declaration of-TagSpecifier tree = subst P (roll-out-BlockItem tree) (layer_BlockItem P of-Statement of-Declaration of-TagSpecifier (out-BlockItem tree))

pub cases_LabelledSection : (P : LabelledSection → Type 0) → ((labels : List Label) (statements : List Statement) → P (roll-LabelledSection (record { labels = labels; statements = statements }))) → (tree : LabelledSection) → P tree
cases_LabelledSection P of tree = subst P (roll-out-LabelledSection tree) (of (out-LabelledSection tree).labels (out-LabelledSection tree).statements)

pub cases_Block : (P : Block → Type 0) → ((place : Place) (parts : List BlockItem) → P (roll-Block (record { place = place; parts = parts }))) → (tree : Block) → P tree
cases_Block P of tree = subst P (roll-out-Block tree) (of (out-Block tree).place (out-Block tree).parts)
