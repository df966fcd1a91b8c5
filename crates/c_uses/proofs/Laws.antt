-- The objects whose addresses each production takes, by those of its parts.
use Rattle.std.proofs.Common.{◌≡◌, ℕ, Bool, List, ◌++◌, Option, None, Some, map, option_map, refl, sym, ap, ◌∙◌}
use Rattle.hy_bits.specs.declared.scalar.Scalar.{Scalar}
use Rattle.c_tree.specs.declared.token.Place.{Place}
use Rattle.c_meaning.specs.declared.types.ValueKind.{ValueKind}
use Rattle.c_meaning.specs.declared.expressions.TypedExpr.{TypedExpr}
use Rattle.c_meaning.specs.declared.expressions.TypedExpr.TheVariants as expr
use Rattle.c_meaning.specs.declared.expressions.Lvalue.TheVariants as lvalue
use Rattle.c_meaning.specs.declared.expressions.ChainStep.{ChainStep}
use Rattle.c_meaning.specs.declared.expressions.LogicalOperand.{LogicalOperand}
use Rattle.c_meaning.specs.declared.expressions.Lvalue.TheOpen.{Lvalue-F, TypedExpr-F}
use Rattle.c_meaning.specs.declared.expressions.Lvalue.TheFolds.{fold-roll-TypedExpr, fold-roll-Lvalue}
use Rattle.c_meaning.specs.declared.statements.Controlling.{Controlling}
use Rattle.c_meaning.specs.declared.statements.Counter.{Counter}
use Rattle.c_meaning.specs.declared.statements.TypedFirst.{TypedFirst}
use Rattle.c_meaning.specs.declared.statements.TypedStep.{TypedStep}
use Rattle.c_meaning.specs.declared.statements.TypedStatement.{TypedStatement}
use Rattle.c_meaning.specs.declared.statements.TypedIteration.TheVariants as iteration
use Rattle.c_meaning.specs.declared.statements.TypedSelection.TheVariants as selection
use Rattle.c_meaning.specs.declared.statements.TypedSection.{TypedSection}
use Rattle.c_meaning.specs.declared.statements.TypedItem.TheOpen.{TypedIteration-F, TypedSelection-F}
use Rattle.c_meaning.specs.declared.statements.TypedItem.TheFolds.{fold-roll-TypedIteration, fold-roll-TypedSelection}
use Rattle.c_meaning.specs.Uses.{Numbers, Taken, all_of, option_of, taken_in, taken_by_lvalue, first_takes, controlling_takes, step_of_loop_takes, lvalue_takes, expr_takes, step_takes, operand_takes, item_takes, iteration_takes, selection_takes, statement_takes, block_takes, section_takes}
use Rattle.c_uses.specs.Marks.{marked, step_taken, operand_taken, taken_by_statement, taken_by_iteration, taken_by_selection, taken_by_section}
use Rattle.c_uses.proofs.Marking.{marked_append}

-- ---- marks one after another

pub two_marks : (m n o : List Bool) (a b s : List ℕ) → n ≡ marked m a → o ≡ marked n b → a ++ b ≡ s → o ≡ marked m s
two_marks m n o a b s e f g = f ∙ ap (λ (x : List Bool). marked x b) e ∙ marked_append m a b ∙ ap (marked m) g

pub three_marks : (m n o p : List Bool) (a b c s : List ℕ) → n ≡ marked m a → o ≡ marked n b → p ≡ marked o c → (a ++ b) ++ c ≡ s → p ≡ marked m s
three_marks m n o p a b c s e f g h = two_marks m o p (a ++ b) c s (two_marks m n o a b (a ++ b) e f refl) g h

pub four_marks : (m n o p q : List Bool) (a b c d s : List ℕ) → n ≡ marked m a → o ≡ marked n b → p ≡ marked o c → q ≡ marked p d → ((a ++ b) ++ c) ++ d ≡ s → q ≡ marked m s
four_marks m n o p q a b c d s e f g h i = two_marks m p q ((a ++ b) ++ c) d s (three_marks m n o p a b c ((a ++ b) ++ c) e f g refl) h i

-- ---- productions

pub taken_Chain : (first : TypedExpr) (steps : List ChainStep) → taken_in (expr.Chain first steps) ≡ taken_in first ++ all_of (map step_taken steps)
taken_Chain first steps = ap taken_in (sym (expr.rolls-Chain first steps)) ∙ fold-roll-TypedExpr Taken Numbers Numbers Numbers lvalue_takes expr_takes step_takes operand_takes (TypedExpr-F.Chain first steps)

pub taken_LogicalAnd : (first : TypedExpr) (rest : List LogicalOperand) → taken_in (expr.LogicalAnd first rest) ≡ taken_in first ++ all_of (map operand_taken rest)
taken_LogicalAnd first rest = ap taken_in (sym (expr.rolls-LogicalAnd first rest)) ∙ fold-roll-TypedExpr Taken Numbers Numbers Numbers lvalue_takes expr_takes step_takes operand_takes (TypedExpr-F.LogicalAnd first rest)

pub taken_LogicalOr : (first : TypedExpr) (rest : List LogicalOperand) → taken_in (expr.LogicalOr first rest) ≡ taken_in first ++ all_of (map operand_taken rest)
taken_LogicalOr first rest = ap taken_in (sym (expr.rolls-LogicalOr first rest)) ∙ fold-roll-TypedExpr Taken Numbers Numbers Numbers lvalue_takes expr_takes step_takes operand_takes (TypedExpr-F.LogicalOr first rest)

pub taken_Conditional : (condition : TypedExpr) (place : Place) (k : ValueKind) (second : TypedExpr) (third : TypedExpr) → taken_in (expr.Conditional condition place k second third) ≡ (taken_in condition ++ taken_in second) ++ taken_in third
taken_Conditional condition place k second third = ap taken_in (sym (expr.rolls-Conditional condition place k second third)) ∙ fold-roll-TypedExpr Taken Numbers Numbers Numbers lvalue_takes expr_takes step_takes operand_takes (TypedExpr-F.Conditional condition place k second third)

pub taken_Subscript : (place : Place) (pointer : TypedExpr) (t : Scalar) (index : TypedExpr) → taken_by_lvalue (lvalue.Subscript place pointer t index) ≡ taken_in pointer ++ taken_in index
taken_Subscript place pointer t index = ap taken_by_lvalue (sym (lvalue.rolls-Subscript place pointer t index)) ∙ ap (λ (t : Taken). t.taken) (fold-roll-Lvalue Taken Numbers Numbers Numbers lvalue_takes expr_takes step_takes operand_takes (Lvalue-F.Subscript place pointer t index))

pub taken_Switch : (tokens : ℕ) (t : Scalar) (value : TypedExpr) (sections : List TypedSection) → taken_by_selection (selection.Switch tokens t value sections) ≡ taken_in value ++ all_of (map taken_by_section sections)
taken_Switch tokens t value sections = ap taken_by_selection (sym (selection.rolls-Switch tokens t value sections)) ∙ fold-roll-TypedSelection Numbers Numbers Numbers Numbers Numbers Numbers item_takes iteration_takes selection_takes statement_takes block_takes section_takes (TypedSelection-F.Switch tokens t value sections)

pub taken_While : (tokens : ℕ) (bound : ℕ) (controlling : Controlling) (body : TypedStatement) → taken_by_iteration (iteration.While tokens bound controlling body) ≡ taken_in controlling.value ++ taken_by_statement body
taken_While tokens bound controlling body = ap taken_by_iteration (sym (iteration.rolls-While tokens bound controlling body)) ∙ fold-roll-TypedIteration Numbers Numbers Numbers Numbers Numbers Numbers item_takes iteration_takes selection_takes statement_takes block_takes section_takes (TypedIteration-F.While tokens bound controlling body)

pub taken_Do : (tokens : ℕ) (bound : ℕ) (body : TypedStatement) (controlling : Controlling) → taken_by_iteration (iteration.Do tokens bound body controlling) ≡ taken_by_statement body ++ taken_in controlling.value
taken_Do tokens bound body controlling = ap taken_by_iteration (sym (iteration.rolls-Do tokens bound body controlling)) ∙ fold-roll-TypedIteration Numbers Numbers Numbers Numbers Numbers Numbers item_takes iteration_takes selection_takes statement_takes block_takes section_takes (TypedIteration-F.Do tokens bound body controlling)

pub taken_For : (tokens : ℕ) (bound : ℕ) (counter : Option Counter) (initial : TypedFirst) (optional : Option Controlling) (step : Option TypedStep) (body : TypedStatement) → taken_by_iteration (iteration.For tokens bound counter initial optional step body) ≡ ((first_takes initial ++ controlling_takes optional) ++ step_of_loop_takes step) ++ taken_by_statement body
taken_For tokens bound counter initial optional step body = ap taken_by_iteration (sym (iteration.rolls-For tokens bound counter initial optional step body)) ∙ fold-roll-TypedIteration Numbers Numbers Numbers Numbers Numbers Numbers item_takes iteration_takes selection_takes statement_takes block_takes section_takes (TypedIteration-F.For tokens bound counter initial optional step body)

pub taken_If : (tokens : ℕ) (condition : TypedExpr) (consequence : TypedStatement) (otherwise : Option TypedStatement) → taken_by_selection (selection.If tokens condition consequence otherwise) ≡ (taken_in condition ++ taken_by_statement consequence) ++ option_of (option_map taken_by_statement otherwise)
taken_If tokens condition consequence None = ap taken_by_selection (sym (selection.rolls-If tokens condition consequence None)) ∙ fold-roll-TypedSelection Numbers Numbers Numbers Numbers Numbers Numbers item_takes iteration_takes selection_takes statement_takes block_takes section_takes (TypedSelection-F.If tokens condition consequence None)
taken_If tokens condition consequence (Some otherwise) = ap taken_by_selection (sym (selection.rolls-If tokens condition consequence (Some otherwise))) ∙ fold-roll-TypedSelection Numbers Numbers Numbers Numbers Numbers Numbers item_takes iteration_takes selection_takes statement_takes block_takes section_takes (TypedSelection-F.If tokens condition consequence (Some otherwise))
