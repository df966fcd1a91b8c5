-- How large trees are, so that their execution ends: each part weighs less than the whole.
use Rattle.std.specs.Prelude.{ℕ, ◌+◌, List, [], ◌∷◌, Option, None, Some}
use Rattle.c_meaning.specs.declared.statements.TypedBlock.{TypedBlock}
use Rattle.c_meaning.specs.declared.statements.TypedItem.{TypedItem}
use Rattle.c_meaning.specs.declared.statements.TypedStatement.{TypedStatement}
use Rattle.c_meaning.specs.declared.statements.TypedItem.TheOpen.{TypedItem-F, TypedIteration-F, TypedSelection-F, TypedStatement-F, TypedBlock-F, TypedSection-F}
use Rattle.c_meaning.specs.declared.statements.TypedItem.TheFolds.{fold-TypedItem, fold-TypedStatement, fold-TypedBlock}
use Rattle.c_meaning.specs.declared.expressions.TypedExpr.{TypedExpr}
use Rattle.c_meaning.specs.declared.expressions.Lvalue.{Lvalue}
use Rattle.c_meaning.specs.declared.expressions.ChainStep.{ChainStep}
use Rattle.c_meaning.specs.declared.expressions.LogicalOperand.{LogicalOperand}
use Rattle.c_meaning.specs.declared.expressions.Lvalue.TheOpen.{Lvalue-F, TypedExpr-F, ChainStep-F, LogicalOperand-F}
use Rattle.c_meaning.specs.declared.expressions.Lvalue.TheFolds.{fold-TypedExpr, fold-Lvalue, fold-ChainStep, fold-LogicalOperand}

abbrev pub total : List ℕ → ℕ
total [] = 0
total (n ∷ ns) = n + total ns

abbrev pub lvalue_layer : Lvalue-F ℕ ℕ ℕ ℕ → ℕ
lvalue_layer (Lvalue-F.Object place object cells) = 4
lvalue_layer (Lvalue-F.Indirection place pointer) = 4 + pointer
lvalue_layer (Lvalue-F.Subscript place pointer t index) = 4 + (pointer + index)
lvalue_layer (Lvalue-F.Member place of member offset cells) = 4 + of
lvalue_layer (Lvalue-F.Arrow place pointer member offset cells) = 4 + pointer

abbrev pub expr_layer : TypedExpr-F ℕ ℕ ℕ ℕ → ℕ
expr_layer (TypedExpr-F.Constant place t w) = 4
expr_layer (TypedExpr-F.Load k from) = 4 + from
expr_layer (TypedExpr-F.Decay cells count from) = 4 + from
expr_layer (TypedExpr-F.Address place of) = 4 + of
expr_layer (TypedExpr-F.Converted conversion operand) = 4 + operand
expr_layer (TypedExpr-F.Cast place from to operand) = 4 + operand
expr_layer (TypedExpr-F.Unary place sign t operand) = 4 + operand
expr_layer (TypedExpr-F.Not place k operand) = 4 + operand
expr_layer (TypedExpr-F.Chain first steps) = 4 + (first + total steps)
expr_layer (TypedExpr-F.LogicalAnd first rest) = 4 + (first + total rest)
expr_layer (TypedExpr-F.LogicalOr first rest) = 4 + (first + total rest)
expr_layer (TypedExpr-F.Conditional condition place k second third) = 4 + (condition + (second + third))
expr_layer (TypedExpr-F.Call place function k arguments) = 4 + total arguments

abbrev pub step_layer : ChainStep-F ℕ ℕ ℕ ℕ → ℕ
step_layer step = 4 + step.right

abbrev pub operand_layer : LogicalOperand-F ℕ ℕ ℕ ℕ → ℕ
operand_layer operand = 4 + operand.operand

abbrev pub expr_weight : TypedExpr → ℕ
expr_weight = fold-TypedExpr ℕ ℕ ℕ ℕ lvalue_layer expr_layer step_layer operand_layer

abbrev pub operand_weight : LogicalOperand → ℕ
operand_weight = fold-LogicalOperand ℕ ℕ ℕ ℕ lvalue_layer expr_layer step_layer operand_layer

abbrev pub lvalue_weight : Lvalue → ℕ
lvalue_weight = fold-Lvalue ℕ ℕ ℕ ℕ lvalue_layer expr_layer step_layer operand_layer

abbrev pub step_weight : ChainStep → ℕ
step_weight = fold-ChainStep ℕ ℕ ℕ ℕ lvalue_layer expr_layer step_layer operand_layer

-- ---- statements, of which each weighs more than those in it

abbrev pub weight_where : Option ℕ → ℕ
weight_where None = 0
weight_where (Some n) = n

abbrev pub item_layer : TypedItem-F ℕ ℕ ℕ ℕ ℕ ℕ → ℕ
item_layer (TypedItem-F.Statement statement) = 4 + statement
item_layer (TypedItem-F.Object declared) = 4

abbrev pub iteration_layer : TypedIteration-F ℕ ℕ ℕ ℕ ℕ ℕ → ℕ
iteration_layer (TypedIteration-F.While tokens bound condition body) = 4 + body
iteration_layer (TypedIteration-F.Do tokens bound body condition) = 4 + body
iteration_layer (TypedIteration-F.For tokens bound counter first condition step body) = 4 + body

abbrev pub selection_layer : TypedSelection-F ℕ ℕ ℕ ℕ ℕ ℕ → ℕ
selection_layer (TypedSelection-F.If tokens condition consequence otherwise) = 4 + (consequence + weight_where otherwise)
selection_layer (TypedSelection-F.Switch tokens t value sections) = 4 + total sections

abbrev pub statement_layer : TypedStatement-F ℕ ℕ ℕ ℕ ℕ ℕ → ℕ
statement_layer (TypedStatement-F.Block block) = 4 + block
statement_layer TypedStatement-F.Empty = 4
statement_layer (TypedStatement-F.Effect tokens effect) = 4
statement_layer TypedStatement-F.Break = 4
statement_layer TypedStatement-F.Continue = 4
statement_layer (TypedStatement-F.Return tokens k value) = 4
statement_layer (TypedStatement-F.Selection selection) = 4 + selection
statement_layer (TypedStatement-F.Iteration iteration) = 4 + iteration

abbrev pub block_layer : TypedBlock-F ℕ ℕ ℕ ℕ ℕ ℕ → ℕ
block_layer block = 4 + total block.items

abbrev pub section_layer : TypedSection-F ℕ ℕ ℕ ℕ ℕ ℕ → ℕ
section_layer section = 4 + total section.statements

abbrev pub item_weight : TypedItem → ℕ
item_weight = fold-TypedItem ℕ ℕ ℕ ℕ ℕ ℕ item_layer iteration_layer selection_layer statement_layer block_layer section_layer

abbrev pub statement_weight : TypedStatement → ℕ
statement_weight = fold-TypedStatement ℕ ℕ ℕ ℕ ℕ ℕ item_layer iteration_layer selection_layer statement_layer block_layer section_layer

abbrev pub block_weight : TypedBlock → ℕ
block_weight = fold-TypedBlock ℕ ℕ ℕ ℕ ℕ ℕ item_layer iteration_layer selection_layer statement_layer block_layer section_layer
