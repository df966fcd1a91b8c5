-- How large trees are, so that what runs them ends: each part weighs less than the whole.
use Rattle.std.specs.Prelude.{ℕ, ◌+◌, Option, None, Some, List, [], ◌∷◌, map}
use Rattle.c_meaning.specs.declared.expressions.TypedExpr.{TypedExpr}
use Rattle.c_meaning.specs.declared.expressions.Lvalue.{Lvalue}
use Rattle.c_meaning.specs.declared.expressions.ChainStep.{ChainStep}
use Rattle.c_meaning.specs.declared.expressions.LogicalOperand.{LogicalOperand}
use Rattle.c_meaning.specs.declared.expressions.Lvalue.TheOpen.{Lvalue-F, TypedExpr-F, ChainStep-F, LogicalOperand-F}
use Rattle.c_meaning.specs.declared.expressions.Lvalue.TheFolds.{fold-TypedExpr, fold-Lvalue, fold-ChainStep, fold-LogicalOperand}
use Rattle.c_meaning.specs.declared.statements.TypedEffect.{TypedEffect}
use Rattle.c_meaning.specs.declared.statements.TypedEffect.TheVariants as effect
use Rattle.c_meaning.specs.declared.statements.Part.{Part}
use Rattle.c_meaning.specs.declared.statements.TypedDeclarator.{TypedDeclarator}
use Rattle.c_meaning.specs.declared.statements.Controlling.{Controlling}
use Rattle.c_meaning.specs.declared.statements.TypedFirst.{TypedFirst}
use Rattle.c_meaning.specs.declared.statements.TypedFirst.TheVariants as first
use Rattle.c_meaning.specs.declared.statements.TypedStep.{TypedStep}
use Rattle.c_meaning.specs.declared.statements.TypedStatement.{TypedStatement}
use Rattle.c_meaning.specs.declared.statements.TypedBlock.{TypedBlock}
use Rattle.c_meaning.specs.declared.statements.TypedItem.{TypedItem}
use Rattle.c_meaning.specs.declared.statements.TypedIteration.{TypedIteration}
use Rattle.c_meaning.specs.declared.statements.TypedSelection.{TypedSelection}
use Rattle.c_meaning.specs.declared.statements.TypedSection.{TypedSection}
use Rattle.c_meaning.specs.declared.statements.TypedItem.TheOpen.{TypedItem-F, TypedIteration-F, TypedSelection-F, TypedStatement-F, TypedBlock-F, TypedSection-F}
use Rattle.c_meaning.specs.declared.statements.TypedItem.TheFolds.{fold-TypedStatement, fold-TypedBlock, fold-TypedItem, fold-TypedIteration, fold-TypedSelection, fold-TypedSection}
use Rattle.c_meaning.specs.declared.programs.TypedFunction.{TypedFunction}

abbrev pub total : List ℕ → ℕ
total [] = 0
total (n ∷ ns) = n + total ns

abbrev pub weight_where : {A : Type 0} → (A → ℕ) → Option A → ℕ
weight_where weight None = 0
weight_where weight (Some a) = weight a

-- ---- expressions

abbrev pub lvalue_layer : Lvalue-F ℕ ℕ ℕ ℕ → ℕ
lvalue_layer (Lvalue-F.Object place object cells) = 4
lvalue_layer (Lvalue-F.Indirection place pointer) = 4 + pointer
lvalue_layer (Lvalue-F.Subscript place pointer t index) = 4 + (pointer + index)
lvalue_layer (Lvalue-F.Member place of member offset cells) = 4 + of
lvalue_layer (Lvalue-F.Arrow place pointer member offset cells) = 4 + pointer

abbrev pub expr_layer : TypedExpr-F ℕ ℕ ℕ ℕ → ℕ
expr_layer (TypedExpr-F.Constant place t w) = 4
expr_layer (TypedExpr-F.Load k from) = 4 + from
expr_layer (TypedExpr-F.Decay cells count from) = 4 + from
expr_layer (TypedExpr-F.Address place of) = 4 + of
expr_layer (TypedExpr-F.Converted conversion operand) = 4 + operand
expr_layer (TypedExpr-F.Cast place from to operand) = 4 + operand
expr_layer (TypedExpr-F.Unary place sign t operand) = 4 + operand
expr_layer (TypedExpr-F.Not place k operand) = 4 + operand
expr_layer (TypedExpr-F.Chain first steps) = 4 + (first + total steps)
expr_layer (TypedExpr-F.LogicalAnd first rest) = 4 + (first + total rest)
expr_layer (TypedExpr-F.LogicalOr first rest) = 4 + (first + total rest)
expr_layer (TypedExpr-F.Conditional condition place k second third) = 4 + (condition + (second + third))
expr_layer (TypedExpr-F.Call place function k arguments) = 4 + total arguments

abbrev pub step_layer : ChainStep-F ℕ ℕ ℕ ℕ → ℕ
step_layer step = 4 + step.right

abbrev pub operand_layer : LogicalOperand-F ℕ ℕ ℕ ℕ → ℕ
operand_layer operand = 4 + operand.operand

abbrev pub expr_weight : TypedExpr → ℕ
expr_weight = fold-TypedExpr ℕ ℕ ℕ ℕ lvalue_layer expr_layer step_layer operand_layer

abbrev pub lvalue_weight : Lvalue → ℕ
lvalue_weight = fold-Lvalue ℕ ℕ ℕ ℕ lvalue_layer expr_layer step_layer operand_layer

abbrev pub step_weight : ChainStep → ℕ
step_weight = fold-ChainStep ℕ ℕ ℕ ℕ lvalue_layer expr_layer step_layer operand_layer

abbrev pub operand_weight : LogicalOperand → ℕ
operand_weight = fold-LogicalOperand ℕ ℕ ℕ ℕ lvalue_layer expr_layer step_layer operand_layer

-- ---- parts of statements

abbrev pub effect_weight : TypedEffect → ℕ
effect_weight (effect.Assignment place target k value) = 4 + (lvalue_weight target + expr_weight value)
effect_weight (effect.Compound form place target t op value) = 4 + (lvalue_weight target + expr_weight value)
effect_weight (effect.Advance form place target way t value) = 4 + (lvalue_weight target + expr_weight value)
effect_weight (effect.Call call) = 4 + expr_weight call

abbrev pub part_weight : Part → ℕ
part_weight part = 4 + weight_where expr_weight part.value

abbrev pub parts_weight : List Part → ℕ
parts_weight parts = total (map part_weight parts)

abbrev pub declarator_weight : TypedDeclarator → ℕ
declarator_weight declared = 4 + weight_where parts_weight declared.start

abbrev pub controlling_weight : Controlling → ℕ
controlling_weight condition = 4 + expr_weight condition.value

abbrev pub last_weight : TypedStep → ℕ
last_weight step = 4 + effect_weight step.effect

abbrev pub first_weight : TypedFirst → ℕ
first_weight first.Nothing = 4
first_weight (first.Objects declared) = 4 + total (map declarator_weight declared)
first_weight (first.Effect effect) = 4 + effect_weight effect

-- ---- statements

abbrev pub item_layer : TypedItem-F ℕ ℕ ℕ ℕ ℕ ℕ → ℕ
item_layer (TypedItem-F.Statement run) = 4 + run
item_layer (TypedItem-F.Object declared) = 4 + declarator_weight declared

abbrev pub iteration_layer : TypedIteration-F ℕ ℕ ℕ ℕ ℕ ℕ → ℕ
iteration_layer (TypedIteration-F.While tokens bound condition body) = 8 + (controlling_weight condition + body)
iteration_layer (TypedIteration-F.Do tokens bound body condition) = 8 + (controlling_weight condition + body)
iteration_layer (TypedIteration-F.For tokens bound counter first condition step body) =
    8 + (first_weight first + (weight_where controlling_weight condition + (weight_where last_weight step + body)))

abbrev pub selection_layer : TypedSelection-F ℕ ℕ ℕ ℕ ℕ ℕ → ℕ
selection_layer (TypedSelection-F.If tokens condition consequence otherwise) = 4 + (expr_weight condition + (consequence + weight_where (λ n. n) otherwise))
selection_layer (TypedSelection-F.Switch tokens t value sections) = 4 + (expr_weight value + total sections)

abbrev pub statement_layer : TypedStatement-F ℕ ℕ ℕ ℕ ℕ ℕ → ℕ
statement_layer (TypedStatement-F.Block run) = 4 + run
statement_layer TypedStatement-F.Empty = 4
statement_layer (TypedStatement-F.Effect tokens effect) = 4 + effect_weight effect
statement_layer TypedStatement-F.Break = 4
statement_layer TypedStatement-F.Continue = 4
statement_layer (TypedStatement-F.Return tokens k value) = 4 + weight_where expr_weight value
statement_layer (TypedStatement-F.Selection run) = 4 + run
statement_layer (TypedStatement-F.Iteration run) = 4 + run

abbrev pub block_layer : TypedBlock-F ℕ ℕ ℕ ℕ ℕ ℕ → ℕ
block_layer block = 4 + total block.items

abbrev pub section_layer : TypedSection-F ℕ ℕ ℕ ℕ ℕ ℕ → ℕ
section_layer section = 4 + total section.statements

abbrev pub statement_weight : TypedStatement → ℕ
statement_weight = fold-TypedStatement ℕ ℕ ℕ ℕ ℕ ℕ item_layer iteration_layer selection_layer statement_layer block_layer section_layer

abbrev pub block_weight : TypedBlock → ℕ
block_weight = fold-TypedBlock ℕ ℕ ℕ ℕ ℕ ℕ item_layer iteration_layer selection_layer statement_layer block_layer section_layer

abbrev pub item_weight : TypedItem → ℕ
item_weight = fold-TypedItem ℕ ℕ ℕ ℕ ℕ ℕ item_layer iteration_layer selection_layer statement_layer block_layer section_layer

abbrev pub iteration_weight : TypedIteration → ℕ
iteration_weight = fold-TypedIteration ℕ ℕ ℕ ℕ ℕ ℕ item_layer iteration_layer selection_layer statement_layer block_layer section_layer

abbrev pub selection_weight : TypedSelection → ℕ
selection_weight = fold-TypedSelection ℕ ℕ ℕ ℕ ℕ ℕ item_layer iteration_layer selection_layer statement_layer block_layer section_layer

abbrev pub section_weight : TypedSection → ℕ
section_weight = fold-TypedSection ℕ ℕ ℕ ℕ ℕ ℕ item_layer iteration_layer selection_layer statement_layer block_layer section_layer

-- ---- functions

abbrev pub function_weight : TypedFunction → ℕ
function_weight f = 4 + block_weight f.body

abbrev pub functions_weight : List TypedFunction → ℕ
functions_weight fs = total (map function_weight fs)
