-- What a program's sizes are counted by, as calls hold it, and the sizes of the parts of trees.
use Rattle.std.specs.Prelude.{◌≡◌, ℕ, zero, suc, ◌^◌, ◌<◌, ◌≤◌, ◌==◌, Bool, false, Option, None, Some, List, [], ◌∷◌, map, take, get_or, slice_get, length}
use Rattle.std.specs.List.{list_any}
use Rattle.c_meaning.specs.declared.types.Object.{Object}
use Rattle.c_meaning.specs.declared.types.ValueKind.{ValueKind}
use Rattle.c_meaning.specs.declared.programs.TypedFunction.{TypedFunction}
use Rattle.c_meaning.specs.declared.typed.TypedParts.{TypedParts}
use Rattle.c_meaning.specs.Uses.{assigned_by}
use Rattle.c_meaning.specs.declared.expressions.ChainStep.{ChainStep}
use Rattle.c_meaning.specs.declared.expressions.LogicalOperand.{LogicalOperand}
use Rattle.c_meaning.specs.declared.expressions.Lvalue.TheFolds.{fold-ChainStep, fold-LogicalOperand}
use Rattle.c_meaning.specs.declared.statements.TypedStatement.{TypedStatement}
use Rattle.c_meaning.specs.declared.statements.TypedItem.{TypedItem}
use Rattle.c_meaning.specs.declared.statements.TypedIteration.{TypedIteration}
use Rattle.c_meaning.specs.declared.statements.TypedSelection.{TypedSelection}
use Rattle.c_meaning.specs.declared.statements.TypedSection.{TypedSection}
use Rattle.c_meaning.specs.declared.statements.TypedItem.TheFolds.{fold-TypedStatement, fold-TypedItem, fold-TypedIteration, fold-TypedSelection, fold-TypedSection}
use Rattle.c_meaning.specs.Sizes.{Size, nothing, moved_size, Measure, FunctionSize, LvalueSize, ExprSize}
use Rattle.c_meaning.specs.SizeFolds.{lvalue_size_rule, expr_size_rule, step_size_rule, operand_size_rule, Declared, Sized, item_size_rule, iteration_size_rule, selection_size_rule, statement_size_rule, block_size_rule, section_size_rule, kinds_in, pointer_count, measure_of, functions_sized}
use Rattle.c_sizes.specs.declared.totals.Totals.{Totals}
use Rattle.c_sizes.specs.declared.measure.Around.{Around}
use Rattle.c_sizes.specs.Totals.{totals_of}

-- ---- what is counted

-- the functions that stand before
unfoldable pub before_of : Around → List FunctionSize
before_of m = functions_sized m.program.now [] (take (length m.before.now) m.program.now.functions)

unfoldable pub measure_as : Around → Measure
measure_as m = measure_of m.program.now (before_of m)

unfoldable pub kinds_as : Around → ℕ → ValueKind
kinds_as m = kinds_in m.program.now.objects

abbrev pub declared_as : Around → Declared
declared_as m = record { measure = measure_as m; kinds = kinds_as m }

-- the parameters of `mpc_main`, and the objects that its body assigns to
abbrev pub params_of : Option TypedFunction → List ℕ
params_of None = []
params_of (Some main) = main.params

abbrev pub assigned_of : Option TypedFunction → List ℕ
assigned_of None = []
assigned_of (Some main) = assigned_by main.body

abbrev pub main_of : TypedParts → Option TypedFunction
main_of program = slice_get program.functions program.main_function

-- the numbers of objects in a list, marked in a table
abbrev pub IsTable : List Object → List Bool → List ℕ → Type 0
IsTable objects marks numbers = (k : ℕ) → k < length objects → get_or marks k false ≡ list_any (λ j. k == j) numbers

-- the sizes of the first functions
abbrev pub IsSized : TypedParts → ℕ → List Totals → Type 0
IsSized program n sizes = sizes ≡ map (λ f. totals_of f.size) (functions_sized program [] (take n program.functions))

-- the tables are those of the program, and of the functions that stand before
pub record IsKept (m : Around) : Type 0 where
  pub pointers : m.pointers ≡ pointer_count m.program.now.objects
  pub few_pointers : m.pointers < 2 ^ 63
  pub params : IsTable m.program.now.objects m.params.now (params_of (main_of m.program.now))
  pub assigned : IsTable m.program.now.objects m.assigned.now (assigned_of (main_of m.program.now))
  pub few : length m.before.now ≤ length m.program.now.functions
  pub before : m.before.now ≡ map (λ f. totals_of f.size) (before_of m)

-- ---- expressions

abbrev pub size_of_step : Measure → ChainStep → ExprSize
size_of_step m = fold-ChainStep LvalueSize ExprSize ExprSize ExprSize (lvalue_size_rule m) (expr_size_rule m) (step_size_rule m) operand_size_rule

abbrev pub size_of_operand : Measure → LogicalOperand → ExprSize
size_of_operand m = fold-LogicalOperand LvalueSize ExprSize ExprSize ExprSize (lvalue_size_rule m) (expr_size_rule m) (step_size_rule m) operand_size_rule

-- what it costs to move an argument to the parameter at a place in the list
abbrev pub moved_to : Measure → List ValueKind → ℕ → Size
moved_to m [] i = nothing
moved_to m (k ∷ ks) zero = moved_size m k
moved_to m (k ∷ ks) (suc i) = moved_to m ks i

-- ---- statements

abbrev pub size_of_statement : Declared → TypedStatement → Sized
size_of_statement d =
    fold-TypedStatement Sized Sized Sized Sized Sized Sized
    (item_size_rule d) (iteration_size_rule d) (selection_size_rule d) (statement_size_rule d) block_size_rule section_size_rule

abbrev pub size_of_item : Declared → TypedItem → Sized
size_of_item d =
    fold-TypedItem Sized Sized Sized Sized Sized Sized
    (item_size_rule d) (iteration_size_rule d) (selection_size_rule d) (statement_size_rule d) block_size_rule section_size_rule

abbrev pub size_of_iteration : Declared → TypedIteration → Sized
size_of_iteration d =
    fold-TypedIteration Sized Sized Sized Sized Sized Sized
    (item_size_rule d) (iteration_size_rule d) (selection_size_rule d) (statement_size_rule d) block_size_rule section_size_rule

abbrev pub size_of_selection : Declared → TypedSelection → Sized
size_of_selection d =
    fold-TypedSelection Sized Sized Sized Sized Sized Sized
    (item_size_rule d) (iteration_size_rule d) (selection_size_rule d) (statement_size_rule d) block_size_rule section_size_rule

abbrev pub size_of_section : Declared → TypedSection → Sized
size_of_section d =
    fold-TypedSection Sized Sized Sized Sized Sized Sized
    (item_size_rule d) (iteration_size_rule d) (selection_size_rule d) (statement_size_rule d) block_size_rule section_size_rule
