-- The objects whose addresses a typed statement takes, by those of its parts.
use Rattle.std.proofs.Common.{◌≡◌, ◌++◌, ℕ, Option, None, Some, List, [], ◌∷◌, map, ap, sym, ◌∙◌}
use Rattle.hy_bits.specs.declared.scalar.Scalar.{Scalar}
use Rattle.c_meaning.specs.declared.types.ValueKind.{ValueKind}
use Rattle.c_meaning.specs.declared.expressions.TypedExpr.{TypedExpr}
use Rattle.c_meaning.specs.declared.statements.TypedEffect.{TypedEffect}
use Rattle.c_meaning.specs.declared.statements.TypedDeclarator.{TypedDeclarator}
use Rattle.c_meaning.specs.declared.statements.Controlling.{Controlling}
use Rattle.c_meaning.specs.declared.statements.Counter.{Counter}
use Rattle.c_meaning.specs.declared.statements.TypedFirst.{TypedFirst}
use Rattle.c_meaning.specs.declared.statements.TypedStep.{TypedStep}
use Rattle.c_meaning.specs.declared.statements.TypedLabel.{TypedLabel}
use Rattle.c_meaning.specs.declared.statements.TypedStatement.{TypedStatement}
use Rattle.c_meaning.specs.declared.statements.TypedStatement.TheVariants as statement
use Rattle.c_meaning.specs.declared.statements.TypedSelection.{TypedSelection}
use Rattle.c_meaning.specs.declared.statements.TypedSelection.TheVariants as selection
use Rattle.c_meaning.specs.declared.statements.TypedIteration.{TypedIteration}
use Rattle.c_meaning.specs.declared.statements.TypedIteration.TheVariants as iteration
use Rattle.c_meaning.specs.declared.statements.TypedItem.{TypedItem}
use Rattle.c_meaning.specs.declared.statements.TypedItem.TheVariants as item
use Rattle.c_meaning.specs.declared.statements.TypedBlock.{TypedBlock}
use Rattle.c_meaning.specs.declared.statements.TypedSection.{TypedSection}
use Rattle.c_meaning.specs.declared.statements.TypedItem.TheOpen.{TypedItem-F, TypedIteration-F, TypedSelection-F, TypedStatement-F}
use Rattle.c_meaning.specs.declared.statements.TypedItem.TheViews.{roll-TypedBlock, roll-TypedSection}
use Rattle.c_meaning.specs.declared.statements.TypedItem.TheFolds as M
use Rattle.c_meaning.specs.Uses.{Numbers, taken_in, taken_where, effect_takes, declarator_takes, first_takes, controlling_takes, step_of_loop_takes, item_takes, iteration_takes, selection_takes, statement_takes, block_takes, section_takes, taken_by, all_of, option_of}
use Rattle.marking_laws.specs.Taking.{item_taken, iteration_taken, selection_taken, statement_taken, section_taken}

pub at-block : (b : TypedBlock) → statement_taken (statement.Block b) ≡ taken_by b
at-block b = ap statement_taken (sym (statement.rolls-Block b)) ∙ M.fold-roll-TypedStatement Numbers Numbers Numbers Numbers Numbers Numbers item_takes iteration_takes selection_takes statement_takes block_takes section_takes (TypedStatement-F.Block b)

pub at-effect : (tokens : ℕ) (e : TypedEffect) → statement_taken (statement.Effect tokens e) ≡ effect_takes e
at-effect tokens e = ap statement_taken (sym (statement.rolls-Effect tokens e)) ∙ M.fold-roll-TypedStatement Numbers Numbers Numbers Numbers Numbers Numbers item_takes iteration_takes selection_takes statement_takes block_takes section_takes (TypedStatement-F.Effect tokens e)

pub at-return : (tokens : ℕ) (k : ValueKind) (value : Option TypedExpr) → statement_taken (statement.Return tokens k value) ≡ taken_where value
at-return tokens k value = ap statement_taken (sym (statement.rolls-Return tokens k value)) ∙ M.fold-roll-TypedStatement Numbers Numbers Numbers Numbers Numbers Numbers item_takes iteration_takes selection_takes statement_takes block_takes section_takes (TypedStatement-F.Return tokens k value)

pub at-selection : (s : TypedSelection) → statement_taken (statement.Selection s) ≡ selection_taken s
at-selection s = ap statement_taken (sym (statement.rolls-Selection s)) ∙ M.fold-roll-TypedStatement Numbers Numbers Numbers Numbers Numbers Numbers item_takes iteration_takes selection_takes statement_takes block_takes section_takes (TypedStatement-F.Selection s)

pub at-iteration : (i : TypedIteration) → statement_taken (statement.Iteration i) ≡ iteration_taken i
at-iteration i = ap statement_taken (sym (statement.rolls-Iteration i)) ∙ M.fold-roll-TypedStatement Numbers Numbers Numbers Numbers Numbers Numbers item_takes iteration_takes selection_takes statement_takes block_takes section_takes (TypedStatement-F.Iteration i)

pub at-switch : (tokens : ℕ) (t : Scalar) (v : TypedExpr) (sections : List TypedSection) → selection_taken (selection.Switch tokens t v sections) ≡ taken_in v ++ all_of (map section_taken sections)
at-switch tokens t v sections = ap selection_taken (sym (selection.rolls-Switch tokens t v sections)) ∙ M.fold-roll-TypedSelection Numbers Numbers Numbers Numbers Numbers Numbers item_takes iteration_takes selection_takes statement_takes block_takes section_takes (TypedSelection-F.Switch tokens t v sections)

pub at-while : (tokens : ℕ) (bound : ℕ) (con : Controlling) (st : TypedStatement) → iteration_taken (iteration.While tokens bound con st) ≡ taken_in con.value ++ statement_taken st
at-while tokens bound con st = ap iteration_taken (sym (iteration.rolls-While tokens bound con st)) ∙ M.fold-roll-TypedIteration Numbers Numbers Numbers Numbers Numbers Numbers item_takes iteration_takes selection_takes statement_takes block_takes section_takes (TypedIteration-F.While tokens bound con st)

pub at-do : (tokens : ℕ) (bound : ℕ) (st : TypedStatement) (con : Controlling) → iteration_taken (iteration.Do tokens bound st con) ≡ statement_taken st ++ taken_in con.value
at-do tokens bound st con = ap iteration_taken (sym (iteration.rolls-Do tokens bound st con)) ∙ M.fold-roll-TypedIteration Numbers Numbers Numbers Numbers Numbers Numbers item_takes iteration_takes selection_takes statement_takes block_takes section_takes (TypedIteration-F.Do tokens bound st con)

pub at-for : (tokens : ℕ) (bound : ℕ) (counter : Option Counter) (f : TypedFirst) (cons : Option Controlling) (step : Option TypedStep) (st : TypedStatement) → iteration_taken (iteration.For tokens bound counter f cons step st) ≡ first_takes f ++ controlling_takes cons ++ step_of_loop_takes step ++ statement_taken st
at-for tokens bound counter f cons step st = ap iteration_taken (sym (iteration.rolls-For tokens bound counter f cons step st)) ∙ M.fold-roll-TypedIteration Numbers Numbers Numbers Numbers Numbers Numbers item_takes iteration_takes selection_takes statement_takes block_takes section_takes (TypedIteration-F.For tokens bound counter f cons step st)

pub at-statement-item : (st : TypedStatement) → item_taken (item.Statement st) ≡ statement_taken st
at-statement-item st = ap item_taken (sym (item.rolls-Statement st)) ∙ M.fold-roll-TypedItem Numbers Numbers Numbers Numbers Numbers Numbers item_takes iteration_takes selection_takes statement_takes block_takes section_takes (TypedItem-F.Statement st)

pub at-object-item : (d : TypedDeclarator) → item_taken (item.Object d) ≡ declarator_takes d
at-object-item d = ap item_taken (sym (item.rolls-Object d)) ∙ M.fold-roll-TypedItem Numbers Numbers Numbers Numbers Numbers Numbers item_takes iteration_takes selection_takes statement_takes block_takes section_takes (TypedItem-F.Object d)

pub at-empty : statement_taken statement.Empty ≡ []
at-empty = ap statement_taken (sym statement.rolls-Empty) ∙ M.fold-roll-TypedStatement Numbers Numbers Numbers Numbers Numbers Numbers item_takes iteration_takes selection_takes statement_takes block_takes section_takes TypedStatement-F.Empty

pub at-break : statement_taken statement.Break ≡ []
at-break = ap statement_taken (sym statement.rolls-Break) ∙ M.fold-roll-TypedStatement Numbers Numbers Numbers Numbers Numbers Numbers item_takes iteration_takes selection_takes statement_takes block_takes section_takes TypedStatement-F.Break

pub at-continue : statement_taken statement.Continue ≡ []
at-continue = ap statement_taken (sym statement.rolls-Continue) ∙ M.fold-roll-TypedStatement Numbers Numbers Numbers Numbers Numbers Numbers item_takes iteration_takes selection_takes statement_takes block_takes section_takes TypedStatement-F.Continue

pub at-if : (tokens : ℕ) (c : TypedExpr) (st o : TypedStatement) → selection_taken (selection.If tokens c st (Some o)) ≡ taken_in c ++ statement_taken st ++ statement_taken o
at-if tokens c st o = ap selection_taken (sym (selection.rolls-If tokens c st (Some o))) ∙ M.fold-roll-TypedSelection Numbers Numbers Numbers Numbers Numbers Numbers item_takes iteration_takes selection_takes statement_takes block_takes section_takes (TypedSelection-F.If tokens c st (Some o))

pub at-if-alone : (tokens : ℕ) (c : TypedExpr) (st : TypedStatement) → selection_taken (selection.If tokens c st None) ≡ taken_in c ++ statement_taken st ++ []
at-if-alone tokens c st = ap selection_taken (sym (selection.rolls-If tokens c st None)) ∙ M.fold-roll-TypedSelection Numbers Numbers Numbers Numbers Numbers Numbers item_takes iteration_takes selection_takes statement_takes block_takes section_takes (TypedSelection-F.If tokens c st None)

pub at-whole : (tokens : ℕ) (items : List TypedItem) → taken_by (roll-TypedBlock (record { tokens = tokens; items = items })) ≡ all_of (map item_taken items)
at-whole tokens items = M.fold-roll-TypedBlock Numbers Numbers Numbers Numbers Numbers Numbers item_takes iteration_takes selection_takes statement_takes block_takes section_takes (record { tokens = tokens; items = items })

pub at-section : (labels : List TypedLabel) (statements : List TypedStatement) → section_taken (roll-TypedSection (record { labels = labels; statements = statements })) ≡ all_of (map statement_taken statements)
at-section labels statements = M.fold-roll-TypedSection Numbers Numbers Numbers Numbers Numbers Numbers item_takes iteration_takes selection_takes statement_takes block_takes section_takes (record { labels = labels; statements = statements })
