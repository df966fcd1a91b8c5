-- The size of each production by the sizes of its parts.
use Rattle.std.proofs.Common.{◌≡◌, ℕ, Option, None, Some, List, [], ◌∷◌, map, option_map, sym, ap, ◌∙◌}
use Rattle.hy_bits.specs.declared.scalar.Scalar.{Scalar}
use Rattle.hy_bits.specs.Scalar.{scalar_width}
use Rattle.c_tree.specs.declared.token.Place.{Place}
use Rattle.c_meaning.specs.declared.types.ValueKind.{ValueKind}
use Rattle.c_meaning.specs.declared.operators.Conversion.{Conversion}
use Rattle.c_meaning.specs.declared.operators.ArithmeticSign.{ArithmeticSign}
use Rattle.c_meaning.specs.declared.expressions.TypedExpr.{TypedExpr}
use Rattle.c_meaning.specs.declared.expressions.TypedExpr.TheVariants as expr
use Rattle.c_meaning.specs.declared.expressions.Lvalue.{Lvalue}
use Rattle.c_meaning.specs.declared.expressions.Lvalue.TheVariants as lvalue
use Rattle.c_meaning.specs.declared.expressions.ChainStep.{ChainStep}
use Rattle.c_meaning.specs.declared.expressions.LogicalOperand.{LogicalOperand}
use Rattle.c_meaning.specs.declared.expressions.Lvalue.TheViews.{out-ChainStep}
use Rattle.c_meaning.specs.declared.expressions.Lvalue.TheOpen.{Lvalue-F, TypedExpr-F}
use Rattle.c_meaning.specs.declared.expressions.Lvalue.TheFolds.{fold-roll-TypedExpr, fold-roll-Lvalue, fold_out-ChainStep}
use Rattle.c_meaning.specs.declared.statements.TypedEffect.{TypedEffect}
use Rattle.c_meaning.specs.declared.statements.Controlling.{Controlling}
use Rattle.c_meaning.specs.declared.statements.Counter.{Counter}
use Rattle.c_meaning.specs.declared.statements.TypedFirst.{TypedFirst}
use Rattle.c_meaning.specs.declared.statements.TypedStep.{TypedStep}
use Rattle.c_meaning.specs.declared.statements.TypedStatement.{TypedStatement}
use Rattle.c_meaning.specs.declared.statements.TypedStatement.TheVariants as statement
use Rattle.c_meaning.specs.declared.statements.TypedBlock.{TypedBlock}
use Rattle.c_meaning.specs.declared.statements.TypedIteration.{TypedIteration}
use Rattle.c_meaning.specs.declared.statements.TypedIteration.TheVariants as iteration
use Rattle.c_meaning.specs.declared.statements.TypedSelection.{TypedSelection}
use Rattle.c_meaning.specs.declared.statements.TypedSelection.TheVariants as selection
use Rattle.c_meaning.specs.declared.statements.TypedSection.{TypedSection}
use Rattle.c_meaning.specs.declared.statements.TypedItem.TheViews.{out-TypedBlock}
use Rattle.c_meaning.specs.declared.statements.TypedItem.TheOpen.{TypedIteration-F, TypedSelection-F, TypedStatement-F}
use Rattle.c_meaning.specs.declared.statements.TypedItem.TheFolds.{fold-roll-TypedIteration, fold-roll-TypedSelection, fold-roll-TypedStatement, fold_out-TypedBlock}
use Rattle.c_meaning.specs.Sizes.{Size, nothing, plus, branch, Measure, Counters, LvalueSize, ExprSize, gates_alone, sign_gates, not_cost, operation_cost, moved_size, indirection_size, subscript_size, unary_size, operands_size, call_size}
use Rattle.c_meaning.specs.SizeFolds.{lvalue_size_rule, expr_size_rule, step_size_rule, operand_size_rule, size_of_expr, size_of_lvalue, Declared, Sized, effect_size, first_size, controlling_size, controlling_where, step_size, loop_size, own_size, counters_in, all_sized, option_sized, item_size_rule, iteration_size_rule, selection_size_rule, statement_size_rule, block_size_rule, section_size_rule, size_of_block}
use Rattle.c_sizes.specs.Views.{size_of_step, size_of_operand, size_of_statement, size_of_item, size_of_iteration, size_of_selection, size_of_section}

-- ---- expressions

pub size_Converted : (m : Measure) (conversion : Conversion) (operand : TypedExpr) → size_of_expr m (expr.Converted conversion operand) ≡ unary_size nothing (size_of_expr m operand)
size_Converted m conversion operand = ap (size_of_expr m) (sym (expr.rolls-Converted conversion operand)) ∙ fold-roll-TypedExpr LvalueSize ExprSize ExprSize ExprSize (lvalue_size_rule m) (expr_size_rule m) (step_size_rule m) operand_size_rule (TypedExpr-F.Converted conversion operand)

pub size_Cast : (m : Measure) (place : Place) (from : Scalar) (to : Scalar) (operand : TypedExpr) → size_of_expr m (expr.Cast place from to operand) ≡ unary_size nothing (size_of_expr m operand)
size_Cast m place from to operand = ap (size_of_expr m) (sym (expr.rolls-Cast place from to operand)) ∙ fold-roll-TypedExpr LvalueSize ExprSize ExprSize ExprSize (lvalue_size_rule m) (expr_size_rule m) (step_size_rule m) operand_size_rule (TypedExpr-F.Cast place from to operand)

pub size_Unary : (m : Measure) (place : Place) (sign : ArithmeticSign) (t : Scalar) (operand : TypedExpr) → size_of_expr m (expr.Unary place sign t operand) ≡ unary_size (gates_alone (sign_gates sign (scalar_width t))) (size_of_expr m operand)
size_Unary m place sign t operand = ap (size_of_expr m) (sym (expr.rolls-Unary place sign t operand)) ∙ fold-roll-TypedExpr LvalueSize ExprSize ExprSize ExprSize (lvalue_size_rule m) (expr_size_rule m) (step_size_rule m) operand_size_rule (TypedExpr-F.Unary place sign t operand)

pub size_Not : (m : Measure) (place : Place) (k : ValueKind) (operand : TypedExpr) → size_of_expr m (expr.Not place k operand) ≡ unary_size (not_cost k) (size_of_expr m operand)
size_Not m place k operand = ap (size_of_expr m) (sym (expr.rolls-Not place k operand)) ∙ fold-roll-TypedExpr LvalueSize ExprSize ExprSize ExprSize (lvalue_size_rule m) (expr_size_rule m) (step_size_rule m) operand_size_rule (TypedExpr-F.Not place k operand)

pub size_Chain : (m : Measure) (first : TypedExpr) (steps : List ChainStep) → size_of_expr m (expr.Chain first steps) ≡ operands_size nothing (size_of_expr m first ∷ map (size_of_step m) steps)
size_Chain m first steps = ap (size_of_expr m) (sym (expr.rolls-Chain first steps)) ∙ fold-roll-TypedExpr LvalueSize ExprSize ExprSize ExprSize (lvalue_size_rule m) (expr_size_rule m) (step_size_rule m) operand_size_rule (TypedExpr-F.Chain first steps)

pub size_LogicalAnd : (m : Measure) (first : TypedExpr) (rest : List LogicalOperand) → size_of_expr m (expr.LogicalAnd first rest) ≡ operands_size nothing (size_of_expr m first ∷ map (size_of_operand m) rest)
size_LogicalAnd m first rest = ap (size_of_expr m) (sym (expr.rolls-LogicalAnd first rest)) ∙ fold-roll-TypedExpr LvalueSize ExprSize ExprSize ExprSize (lvalue_size_rule m) (expr_size_rule m) (step_size_rule m) operand_size_rule (TypedExpr-F.LogicalAnd first rest)

pub size_LogicalOr : (m : Measure) (first : TypedExpr) (rest : List LogicalOperand) → size_of_expr m (expr.LogicalOr first rest) ≡ operands_size nothing (size_of_expr m first ∷ map (size_of_operand m) rest)
size_LogicalOr m first rest = ap (size_of_expr m) (sym (expr.rolls-LogicalOr first rest)) ∙ fold-roll-TypedExpr LvalueSize ExprSize ExprSize ExprSize (lvalue_size_rule m) (expr_size_rule m) (step_size_rule m) operand_size_rule (TypedExpr-F.LogicalOr first rest)

pub size_Conditional : (m : Measure) (condition : TypedExpr) (place : Place) (k : ValueKind) (second : TypedExpr) (third : TypedExpr) → size_of_expr m (expr.Conditional condition place k second third) ≡ operands_size (moved_size m k) (size_of_expr m condition ∷ size_of_expr m second ∷ size_of_expr m third ∷ [])
size_Conditional m condition place k second third = ap (size_of_expr m) (sym (expr.rolls-Conditional condition place k second third)) ∙ fold-roll-TypedExpr LvalueSize ExprSize ExprSize ExprSize (lvalue_size_rule m) (expr_size_rule m) (step_size_rule m) operand_size_rule (TypedExpr-F.Conditional condition place k second third)

pub size_Call : (m : Measure) (place : Place) (function : ℕ) (k : ValueKind) (arguments : List TypedExpr) → size_of_expr m (expr.Call place function k arguments) ≡ call_size m function (map (size_of_expr m) arguments)
size_Call m place function k arguments = ap (size_of_expr m) (sym (expr.rolls-Call place function k arguments)) ∙ fold-roll-TypedExpr LvalueSize ExprSize ExprSize ExprSize (lvalue_size_rule m) (expr_size_rule m) (step_size_rule m) operand_size_rule (TypedExpr-F.Call place function k arguments)

pub place_Indirection : (m : Measure) (place : Place) (pointer : TypedExpr) → size_of_lvalue m (lvalue.Indirection place pointer) ≡ indirection_size m (size_of_expr m pointer)
place_Indirection m place pointer = ap (size_of_lvalue m) (sym (lvalue.rolls-Indirection place pointer)) ∙ fold-roll-Lvalue LvalueSize ExprSize ExprSize ExprSize (lvalue_size_rule m) (expr_size_rule m) (step_size_rule m) operand_size_rule (Lvalue-F.Indirection place pointer)

pub place_Subscript : (m : Measure) (place : Place) (pointer : TypedExpr) (t : Scalar) (index : TypedExpr) → size_of_lvalue m (lvalue.Subscript place pointer t index) ≡ subscript_size m (size_of_expr m pointer) (size_of_expr m index)
place_Subscript m place pointer t index = ap (size_of_lvalue m) (sym (lvalue.rolls-Subscript place pointer t index)) ∙ fold-roll-Lvalue LvalueSize ExprSize ExprSize ExprSize (lvalue_size_rule m) (expr_size_rule m) (step_size_rule m) operand_size_rule (Lvalue-F.Subscript place pointer t index)

pub place_Arrow : (m : Measure) (place : Place) (pointer : TypedExpr) (member : ℕ) (offset : ℕ) (cells : ℕ) → size_of_lvalue m (lvalue.Arrow place pointer member offset cells) ≡ indirection_size m (size_of_expr m pointer)
place_Arrow m place pointer member offset cells = ap (size_of_lvalue m) (sym (lvalue.rolls-Arrow place pointer member offset cells)) ∙ fold-roll-Lvalue LvalueSize ExprSize ExprSize ExprSize (lvalue_size_rule m) (expr_size_rule m) (step_size_rule m) operand_size_rule (Lvalue-F.Arrow place pointer member offset cells)

pub step_by : (m : Measure) (step : ChainStep) (counters : Counters) → plus ((size_of_expr m (out-ChainStep step).right).size counters) (operation_cost m (out-ChainStep step).operation) ≡ (size_of_step m step).size counters
step_by m step counters = ap (λ (e : ExprSize). e.size counters) (sym (fold_out-ChainStep LvalueSize ExprSize ExprSize ExprSize (lvalue_size_rule m) (expr_size_rule m) (step_size_rule m) operand_size_rule step))

pub expr_by : (m : Measure) (counters : Counters) (e v : TypedExpr) (s : ExprSize) → e ≡ v → size_of_expr m v ≡ s → s.size counters ≡ (size_of_expr m e).size counters
expr_by m counters e v s is law = sym (ap (λ (x : TypedExpr). (size_of_expr m x).size counters) is ∙ ap (λ (x : ExprSize). x.size counters) law)

pub lvalue_by : (m : Measure) (counters : Counters) (e v : Lvalue) (s : LvalueSize) → e ≡ v → size_of_lvalue m v ≡ s → s.size counters ≡ (size_of_lvalue m e).size counters
lvalue_by m counters e v s is law = sym (ap (λ (x : Lvalue). (size_of_lvalue m x).size counters) is ∙ ap (λ (x : LvalueSize). x.size counters) law)

-- ---- statements

pub sized_Effect : (d : Declared) (tokens : ℕ) (effect : TypedEffect) (counters : Counters) → size_of_statement d (statement.Effect tokens effect) counters ≡ plus (own_size tokens) (effect_size d.measure effect counters)
sized_Effect d tokens effect counters = ap (λ (s : TypedStatement). size_of_statement d s counters) (sym (statement.rolls-Effect tokens effect)) ∙ ap (λ (s : Sized). s counters) (fold-roll-TypedStatement Sized Sized Sized Sized Sized Sized (item_size_rule d) (iteration_size_rule d) (selection_size_rule d) (statement_size_rule d) block_size_rule section_size_rule (TypedStatement-F.Effect tokens effect))

pub sized_If : (d : Declared) (tokens : ℕ) (condition : TypedExpr) (consequence : TypedStatement) (otherwise : Option TypedStatement) (counters : Counters) → size_of_selection d (selection.If tokens condition consequence otherwise) counters ≡ plus (plus (own_size tokens) (branch d.measure)) (plus ((size_of_expr d.measure condition).size counters) (plus (size_of_statement d consequence counters) (option_sized (option_map (size_of_statement d) otherwise) counters)))
sized_If d tokens condition consequence None counters = ap (λ (s : TypedSelection). size_of_selection d s counters) (sym (selection.rolls-If tokens condition consequence None)) ∙ ap (λ (s : Sized). s counters) (fold-roll-TypedSelection Sized Sized Sized Sized Sized Sized (item_size_rule d) (iteration_size_rule d) (selection_size_rule d) (statement_size_rule d) block_size_rule section_size_rule (TypedSelection-F.If tokens condition consequence None))
sized_If d tokens condition consequence (Some other) counters = ap (λ (s : TypedSelection). size_of_selection d s counters) (sym (selection.rolls-If tokens condition consequence (Some other))) ∙ ap (λ (s : Sized). s counters) (fold-roll-TypedSelection Sized Sized Sized Sized Sized Sized (item_size_rule d) (iteration_size_rule d) (selection_size_rule d) (statement_size_rule d) block_size_rule section_size_rule (TypedSelection-F.If tokens condition consequence (Some other)))

pub sized_Switch : (d : Declared) (tokens : ℕ) (scalar : Scalar) (value : TypedExpr) (sections : List TypedSection) (counters : Counters) → size_of_selection d (selection.Switch tokens scalar value sections) counters ≡ plus (plus (own_size tokens) (branch d.measure)) (plus ((size_of_expr d.measure value).size counters) (all_sized (map (size_of_section d) sections) counters))
sized_Switch d tokens scalar value sections counters = ap (λ (s : TypedSelection). size_of_selection d s counters) (sym (selection.rolls-Switch tokens scalar value sections)) ∙ ap (λ (s : Sized). s counters) (fold-roll-TypedSelection Sized Sized Sized Sized Sized Sized (item_size_rule d) (iteration_size_rule d) (selection_size_rule d) (statement_size_rule d) block_size_rule section_size_rule (TypedSelection-F.Switch tokens scalar value sections))

pub sized_While : (d : Declared) (tokens : ℕ) (bound : ℕ) (controlling : Controlling) (body : TypedStatement) (counters : Counters) → size_of_iteration d (iteration.While tokens bound controlling body) counters ≡ plus (own_size tokens) (loop_size d.measure bound (controlling_size d.measure controlling counters) (size_of_statement d body counters) nothing)
sized_While d tokens bound controlling body counters = ap (λ (s : TypedIteration). size_of_iteration d s counters) (sym (iteration.rolls-While tokens bound controlling body)) ∙ ap (λ (s : Sized). s counters) (fold-roll-TypedIteration Sized Sized Sized Sized Sized Sized (item_size_rule d) (iteration_size_rule d) (selection_size_rule d) (statement_size_rule d) block_size_rule section_size_rule (TypedIteration-F.While tokens bound controlling body))

pub sized_Do : (d : Declared) (tokens : ℕ) (bound : ℕ) (body : TypedStatement) (controlling : Controlling) (counters : Counters) → size_of_iteration d (iteration.Do tokens bound body controlling) counters ≡ plus (own_size tokens) (loop_size d.measure bound (controlling_size d.measure controlling counters) (size_of_statement d body counters) nothing)
sized_Do d tokens bound body controlling counters = ap (λ (s : TypedIteration). size_of_iteration d s counters) (sym (iteration.rolls-Do tokens bound body controlling)) ∙ ap (λ (s : Sized). s counters) (fold-roll-TypedIteration Sized Sized Sized Sized Sized Sized (item_size_rule d) (iteration_size_rule d) (selection_size_rule d) (statement_size_rule d) block_size_rule section_size_rule (TypedIteration-F.Do tokens bound body controlling))

pub sized_For : (d : Declared) (tokens : ℕ) (bound : ℕ) (counter : Option Counter) (initial : TypedFirst) (optional : Option Controlling) (step : Option TypedStep) (body : TypedStatement) (counters : Counters) → size_of_iteration d (iteration.For tokens bound counter initial optional step body) counters ≡ plus (plus (own_size tokens) (first_size d initial counters)) (loop_size d.measure bound (controlling_where d.measure optional counters) (size_of_statement d body (counters_in bound counter counters)) (step_size d.measure step counters))
sized_For d tokens bound counter initial optional step body counters = ap (λ (s : TypedIteration). size_of_iteration d s counters) (sym (iteration.rolls-For tokens bound counter initial optional step body)) ∙ ap (λ (s : Sized). s counters) (fold-roll-TypedIteration Sized Sized Sized Sized Sized Sized (item_size_rule d) (iteration_size_rule d) (selection_size_rule d) (statement_size_rule d) block_size_rule section_size_rule (TypedIteration-F.For tokens bound counter initial optional step body))

pub block_by : (d : Declared) (block : TypedBlock) (counters : Counters) → plus (own_size (out-TypedBlock block).tokens) (all_sized (map (size_of_item d) (out-TypedBlock block).items) counters) ≡ size_of_block d block counters
block_by d block counters = ap (λ (s : Sized). s counters) (sym (fold_out-TypedBlock Sized Sized Sized Sized Sized Sized (item_size_rule d) (iteration_size_rule d) (selection_size_rule d) (statement_size_rule d) block_size_rule section_size_rule block))

pub statement_by : (d : Declared) (counters : Counters) (e v : TypedStatement) (s : Size) → e ≡ v → size_of_statement d v counters ≡ s → s ≡ size_of_statement d e counters
statement_by d counters e v s is law = sym (ap (λ (x : TypedStatement). size_of_statement d x counters) is ∙ law)

pub iteration_by : (d : Declared) (counters : Counters) (e v : TypedIteration) (s : Size) → e ≡ v → size_of_iteration d v counters ≡ s → s ≡ size_of_iteration d e counters
iteration_by d counters e v s is law = sym (ap (λ (x : TypedIteration). size_of_iteration d x counters) is ∙ law)

pub selection_by : (d : Declared) (counters : Counters) (e v : TypedSelection) (s : Size) → e ≡ v → size_of_selection d v counters ≡ s → s ≡ size_of_selection d e counters
selection_by d counters e v s is law = sym (ap (λ (x : TypedSelection). size_of_selection d x counters) is ∙ law)
