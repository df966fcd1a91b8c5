-- Which objects a function assigns to by their names, and of which it takes the address.
use Rattle.std.specs.Prelude.{ℕ, Option, None, Some, List, [], ◌∷◌, ◌++◌}
use Rattle.std.specs.List.{flat_map}
use Rattle.c_meaning.specs.declared.expressions.TypedExpr.{TypedExpr}
use Rattle.c_meaning.specs.declared.expressions.Lvalue.{Lvalue}
use Rattle.c_meaning.specs.declared.expressions.ChainStep.{ChainStep}
use Rattle.c_meaning.specs.declared.expressions.LogicalOperand.{LogicalOperand}
use Rattle.c_meaning.specs.declared.expressions.Lvalue.TheViews.{out-Lvalue}
use Rattle.c_meaning.specs.declared.expressions.Lvalue.TheOpen.{Lvalue-F, TypedExpr-F, ChainStep-F, LogicalOperand-F}
use Rattle.c_meaning.specs.declared.expressions.Lvalue.TheFolds.{fold-TypedExpr, fold-Lvalue}
use Rattle.c_meaning.specs.declared.statements.TypedEffect.{TypedEffect}
use Rattle.c_meaning.specs.declared.statements.TypedEffect.TheVariants as effect
use Rattle.c_meaning.specs.declared.statements.Part.{Part}
use Rattle.c_meaning.specs.declared.statements.TypedDeclarator.{TypedDeclarator}
use Rattle.c_meaning.specs.declared.statements.Controlling.{Controlling}
use Rattle.c_meaning.specs.declared.statements.TypedFirst.{TypedFirst}
use Rattle.c_meaning.specs.declared.statements.TypedFirst.TheVariants as first
use Rattle.c_meaning.specs.declared.statements.TypedStep.{TypedStep}
use Rattle.c_meaning.specs.declared.statements.TypedStatement.{TypedStatement}
use Rattle.c_meaning.specs.declared.statements.TypedBlock.{TypedBlock}
use Rattle.c_meaning.specs.declared.statements.TypedItem.TheOpen.{TypedItem-F, TypedIteration-F, TypedSelection-F, TypedStatement-F, TypedBlock-F, TypedSection-F}
use Rattle.c_meaning.specs.declared.statements.TypedItem.TheFolds.{fold-TypedBlock, fold-TypedStatement}

abbrev pub Numbers : Type 0
Numbers = List ℕ

-- ---- assignments

abbrev pub layer_named : Lvalue-F Lvalue TypedExpr ChainStep LogicalOperand → List ℕ
layer_named (Lvalue-F.Object place object cells) = object ∷ []
layer_named other = []

abbrev pub named_by : Lvalue → List ℕ
named_by target = layer_named (out-Lvalue target)

abbrev pub effect_assigns : TypedEffect → List ℕ
effect_assigns (effect.Assignment place target k value) = named_by target
effect_assigns (effect.Compound form place target t op value) = named_by target
effect_assigns (effect.Advance form place target way t value) = named_by target
effect_assigns (effect.Call call) = []

abbrev pub first_assigns : TypedFirst → List ℕ
first_assigns first.Nothing = []
first_assigns (first.Objects declared) = []
first_assigns (first.Effect effect) = effect_assigns effect

abbrev pub step_assigns : Option TypedStep → List ℕ
step_assigns None = []
step_assigns (Some step) = effect_assigns step.effect

abbrev pub all_of : List (List ℕ) → List ℕ
all_of parts = flat_map (λ part. part) parts

abbrev pub option_of : Option (List ℕ) → List ℕ
option_of None = []
option_of (Some part) = part

abbrev pub item_assigns : TypedItem-F Numbers Numbers Numbers Numbers Numbers Numbers → List ℕ
item_assigns (TypedItem-F.Statement statement) = statement
item_assigns (TypedItem-F.Object declared) = []

abbrev pub iteration_assigns : TypedIteration-F Numbers Numbers Numbers Numbers Numbers Numbers → List ℕ
iteration_assigns (TypedIteration-F.While tokens bound condition body) = body
iteration_assigns (TypedIteration-F.Do tokens bound body condition) = body
iteration_assigns (TypedIteration-F.For tokens bound counter first condition step body) = first_assigns first ++ step_assigns step ++ body

abbrev pub selection_assigns : TypedSelection-F Numbers Numbers Numbers Numbers Numbers Numbers → List ℕ
selection_assigns (TypedSelection-F.If tokens condition consequence otherwise) = consequence ++ option_of otherwise
selection_assigns (TypedSelection-F.Switch tokens t value sections) = all_of sections

abbrev pub statement_assigns : TypedStatement-F Numbers Numbers Numbers Numbers Numbers Numbers → List ℕ
statement_assigns (TypedStatement-F.Block block) = block
statement_assigns TypedStatement-F.Empty = []
statement_assigns (TypedStatement-F.Effect tokens effect) = effect_assigns effect
statement_assigns TypedStatement-F.Break = []
statement_assigns TypedStatement-F.Continue = []
statement_assigns (TypedStatement-F.Return tokens k value) = []
statement_assigns (TypedStatement-F.Selection selection) = selection
statement_assigns (TypedStatement-F.Iteration iteration) = iteration

abbrev pub block_assigns : TypedBlock-F Numbers Numbers Numbers Numbers Numbers Numbers → List ℕ
block_assigns block = all_of block.items

abbrev pub section_assigns : TypedSection-F Numbers Numbers Numbers Numbers Numbers Numbers → List ℕ
section_assigns section = all_of section.statements

abbrev pub assigned_by : TypedBlock → List ℕ
assigned_by =
    fold-TypedBlock Numbers Numbers Numbers Numbers Numbers Numbers
    item_assigns iteration_assigns selection_assigns statement_assigns block_assigns section_assigns

abbrev pub assigned_in : TypedStatement → List ℕ
assigned_in =
    fold-TypedStatement Numbers Numbers Numbers Numbers Numbers Numbers
    item_assigns iteration_assigns selection_assigns statement_assigns block_assigns section_assigns

-- ---- addresses of objects

-- an lvalue: the object that it names, if it is a name, and the objects whose addresses are taken in it
pub record Taken : Type 0 where
  pub named : List ℕ
  pub taken : List ℕ

abbrev pub lvalue_takes : Lvalue-F Taken Numbers Numbers Numbers → Taken
lvalue_takes (Lvalue-F.Object place object cells) = record { named = object ∷ []; taken = [] }
lvalue_takes (Lvalue-F.Indirection place pointer) = record { named = []; taken = pointer }
lvalue_takes (Lvalue-F.Subscript place pointer t index) = record { named = []; taken = pointer ++ index }
lvalue_takes (Lvalue-F.Member place of member offset cells) = record { named = []; taken = of.taken }
lvalue_takes (Lvalue-F.Arrow place pointer member offset cells) = record { named = []; taken = pointer }

abbrev pub expr_takes : TypedExpr-F Taken Numbers Numbers Numbers → Numbers
expr_takes (TypedExpr-F.Constant place t w) = []
expr_takes (TypedExpr-F.Load k from) = from.taken
expr_takes (TypedExpr-F.Decay cells count from) = from.taken
expr_takes (TypedExpr-F.Address place of) = of.named ++ of.taken
expr_takes (TypedExpr-F.Converted conversion operand) = operand
expr_takes (TypedExpr-F.Cast place from to operand) = operand
expr_takes (TypedExpr-F.Unary place sign t operand) = operand
expr_takes (TypedExpr-F.Not place k operand) = operand
expr_takes (TypedExpr-F.Chain first steps) = first ++ all_of steps
expr_takes (TypedExpr-F.LogicalAnd first rest) = first ++ all_of rest
expr_takes (TypedExpr-F.LogicalOr first rest) = first ++ all_of rest
expr_takes (TypedExpr-F.Conditional condition place k second third) = condition ++ second ++ third
expr_takes (TypedExpr-F.Call place function k arguments) = all_of arguments

abbrev pub step_takes : ChainStep-F Taken Numbers Numbers Numbers → Numbers
step_takes step = step.right

abbrev pub operand_takes : LogicalOperand-F Taken Numbers Numbers Numbers → Numbers
operand_takes operand = operand.operand

abbrev pub taken_in : TypedExpr → List ℕ
taken_in = fold-TypedExpr Taken Numbers Numbers Numbers lvalue_takes expr_takes step_takes operand_takes

abbrev pub taken_by_lvalue : Lvalue → List ℕ
taken_by_lvalue target = (fold-Lvalue Taken Numbers Numbers Numbers lvalue_takes expr_takes step_takes operand_takes target).taken

abbrev pub taken_where : Option TypedExpr → List ℕ
taken_where None = []
taken_where (Some value) = taken_in value

abbrev pub effect_takes : TypedEffect → List ℕ
effect_takes (effect.Assignment place target k value) = taken_by_lvalue target ++ taken_in value
effect_takes (effect.Compound form place target t op value) = taken_by_lvalue target ++ taken_in value
effect_takes (effect.Advance form place target way t value) = taken_by_lvalue target ++ taken_in value
effect_takes (effect.Call call) = taken_in call

abbrev pub parts_take : Option (List Part) → List ℕ
parts_take None = []
parts_take (Some parts) = flat_map (λ part. taken_where part.value) parts

abbrev pub declarator_takes : TypedDeclarator → List ℕ
declarator_takes d = parts_take d.start

abbrev pub first_takes : TypedFirst → List ℕ
first_takes first.Nothing = []
first_takes (first.Objects declared) = flat_map declarator_takes declared
first_takes (first.Effect effect) = effect_takes effect

abbrev pub controlling_takes : Option Controlling → List ℕ
controlling_takes None = []
controlling_takes (Some condition) = taken_in condition.value

abbrev pub step_of_loop_takes : Option TypedStep → List ℕ
step_of_loop_takes None = []
step_of_loop_takes (Some step) = effect_takes step.effect

abbrev pub item_takes : TypedItem-F Numbers Numbers Numbers Numbers Numbers Numbers → Numbers
item_takes (TypedItem-F.Statement statement) = statement
item_takes (TypedItem-F.Object declared) = declarator_takes declared

abbrev pub iteration_takes : TypedIteration-F Numbers Numbers Numbers Numbers Numbers Numbers → Numbers
iteration_takes (TypedIteration-F.While tokens bound condition body) = taken_in condition.value ++ body
iteration_takes (TypedIteration-F.Do tokens bound body condition) = body ++ taken_in condition.value
iteration_takes (TypedIteration-F.For tokens bound counter first condition step body) =
    first_takes first ++ controlling_takes condition ++ step_of_loop_takes step ++ body

abbrev pub selection_takes : TypedSelection-F Numbers Numbers Numbers Numbers Numbers Numbers → Numbers
selection_takes (TypedSelection-F.If tokens condition consequence otherwise) = taken_in condition ++ consequence ++ option_of otherwise
selection_takes (TypedSelection-F.Switch tokens t value sections) = taken_in value ++ all_of sections

abbrev pub statement_takes : TypedStatement-F Numbers Numbers Numbers Numbers Numbers Numbers → Numbers
statement_takes (TypedStatement-F.Block block) = block
statement_takes TypedStatement-F.Empty = []
statement_takes (TypedStatement-F.Effect tokens effect) = effect_takes effect
statement_takes TypedStatement-F.Break = []
statement_takes TypedStatement-F.Continue = []
statement_takes (TypedStatement-F.Return tokens k value) = taken_where value
statement_takes (TypedStatement-F.Selection selection) = selection
statement_takes (TypedStatement-F.Iteration iteration) = iteration

abbrev pub block_takes : TypedBlock-F Numbers Numbers Numbers Numbers Numbers Numbers → Numbers
block_takes block = all_of block.items

abbrev pub section_takes : TypedSection-F Numbers Numbers Numbers Numbers Numbers Numbers → Numbers
section_takes section = all_of section.statements

-- the objects whose addresses a block takes
abbrev pub taken_by : TypedBlock → List ℕ
taken_by =
    fold-TypedBlock Numbers Numbers Numbers Numbers Numbers Numbers
    item_takes iteration_takes selection_takes statement_takes block_takes section_takes
