-- The sizes of whole expressions and statements, and of programs: the rule of each production, applied from the parts up.
use Rattle.std.specs.Prelude.{ℕ, ◌+◌, ◌^◌, ◌==◌, min, Bool, true, false, ◌&&◌, not, if◌then◌else◌, Option, None, Some, List, [], ◌∷◌, ◌++◌, map, get_or, slice_get, length}
use Rattle.std.specs.List.{list_any, filter}
use Rattle.hy_bits.specs.Scalar.{scalar_width}
use Rattle.c_meaning.specs.declared.types.CType.{CType, out-CType}
use Rattle.c_meaning.specs.declared.types.CType.TheOpen.{CType-F}
use Rattle.c_meaning.specs.declared.types.Object.{Object}
use Rattle.c_meaning.specs.declared.types.ValueKind.{ValueKind}
use Rattle.c_meaning.specs.declared.types.ValueKind.TheVariants as kind
use Rattle.c_meaning.specs.declared.expressions.TypedExpr.{TypedExpr}
use Rattle.c_meaning.specs.declared.expressions.Lvalue.{Lvalue}
use Rattle.c_meaning.specs.declared.expressions.Lvalue.TheOpen.{Lvalue-F, TypedExpr-F, ChainStep-F, LogicalOperand-F}
use Rattle.c_meaning.specs.declared.expressions.Lvalue.TheFolds.{fold-TypedExpr, fold-Lvalue}
use Rattle.c_meaning.specs.declared.programs.TypedFunction.{TypedFunction}
use Rattle.c_meaning.specs.declared.statements.TypedEffect.{TypedEffect}
use Rattle.c_meaning.specs.declared.statements.TypedEffect.TheVariants as effect
use Rattle.c_meaning.specs.declared.statements.Part.{Part}
use Rattle.c_meaning.specs.declared.statements.TypedDeclarator.{TypedDeclarator}
use Rattle.c_meaning.specs.declared.statements.Controlling.{Controlling}
use Rattle.c_meaning.specs.declared.statements.Counter.{Counter}
use Rattle.c_meaning.specs.declared.statements.TypedFirst.{TypedFirst}
use Rattle.c_meaning.specs.declared.statements.TypedFirst.TheVariants as first
use Rattle.c_meaning.specs.declared.statements.TypedStep.{TypedStep}
use Rattle.c_meaning.specs.declared.statements.TypedBlock.{TypedBlock}
use Rattle.c_meaning.specs.declared.statements.TypedItem.TheOpen.{TypedItem-F, TypedIteration-F, TypedSelection-F, TypedStatement-F, TypedBlock-F, TypedSection-F}
use Rattle.c_meaning.specs.declared.statements.TypedItem.TheFolds.{fold-TypedBlock}
use Rattle.c_meaning.specs.Types.{kind_of}
use Rattle.c_meaning.specs.declared.typed.TypedParts.{TypedParts}
use Rattle.c_meaning.specs.Programs.{object_kind}
use Rattle.c_meaning.specs.Uses.{assigned_by}
use Rattle.c_meaning.specs.Sizes.{Size, nothing, plus, times, total, Measure, FunctionSize, Counters, LvalueSize, ExprSize, visit, tokens_size, access, branch, program_start, moved_size, gates_alone, integer_gates, operation_cost, sign_gates, not_cost, object_size, indirection_size, subscript_size, member_size, constant_size, load_size, decay_size, plain_size, unary_size, operands_size, call_size}

-- ---- expressions

abbrev pub lvalue_size_rule : Measure → Lvalue-F LvalueSize ExprSize ExprSize ExprSize → LvalueSize
lvalue_size_rule m (Lvalue-F.Object place object cells) = object_size m object
lvalue_size_rule m (Lvalue-F.Indirection place pointer) = indirection_size m pointer
lvalue_size_rule m (Lvalue-F.Subscript place pointer t index) = subscript_size m pointer index
lvalue_size_rule m (Lvalue-F.Member place of member offset cells) = member_size of
lvalue_size_rule m (Lvalue-F.Arrow place pointer member offset cells) = indirection_size m pointer

abbrev pub expr_size_rule : Measure → TypedExpr-F LvalueSize ExprSize ExprSize ExprSize → ExprSize
expr_size_rule m (TypedExpr-F.Constant place t w) = constant_size
expr_size_rule m (TypedExpr-F.Load k from) = load_size m from
expr_size_rule m (TypedExpr-F.Decay cells count from) = decay_size from
expr_size_rule m (TypedExpr-F.Address place of) = plain_size of.size
expr_size_rule m (TypedExpr-F.Converted conversion operand) = unary_size nothing operand
expr_size_rule m (TypedExpr-F.Cast place from to operand) = unary_size nothing operand
expr_size_rule m (TypedExpr-F.Unary place sign t operand) = unary_size (gates_alone (sign_gates sign (scalar_width t))) operand
expr_size_rule m (TypedExpr-F.Not place k operand) = unary_size (not_cost k) operand
expr_size_rule m (TypedExpr-F.Chain first steps) = operands_size nothing (first ∷ steps)
expr_size_rule m (TypedExpr-F.LogicalAnd first rest) = operands_size nothing (first ∷ rest)
expr_size_rule m (TypedExpr-F.LogicalOr first rest) = operands_size nothing (first ∷ rest)
expr_size_rule m (TypedExpr-F.Conditional condition place k second third) = operands_size (moved_size m k) (condition ∷ second ∷ third ∷ [])
expr_size_rule m (TypedExpr-F.Call place function k arguments) = call_size m function arguments

-- a step has what its operator costs
abbrev pub step_size_rule : Measure → ChainStep-F LvalueSize ExprSize ExprSize ExprSize → ExprSize
step_size_rule m step = unary_size (operation_cost m step.operation) step.right

abbrev pub operand_size_rule : LogicalOperand-F LvalueSize ExprSize ExprSize ExprSize → ExprSize
operand_size_rule operand = operand.operand

abbrev pub size_of_expr : Measure → TypedExpr → ExprSize
size_of_expr m = fold-TypedExpr LvalueSize ExprSize ExprSize ExprSize (lvalue_size_rule m) (expr_size_rule m) (step_size_rule m) operand_size_rule

abbrev pub size_of_lvalue : Measure → Lvalue → LvalueSize
size_of_lvalue m = fold-Lvalue LvalueSize ExprSize ExprSize ExprSize (lvalue_size_rule m) (expr_size_rule m) (step_size_rule m) operand_size_rule

-- ---- expression statements and declarations

abbrev pub effect_size : Measure → TypedEffect → Counters → Size
effect_size m (effect.Assignment place target k value) counters =
    plus (plus ((size_of_lvalue m target).size counters) ((size_of_expr m value).size counters)) (moved_size m k)
effect_size m (effect.Compound form place target t op value) counters =
    plus (plus ((size_of_lvalue m target).size counters) ((size_of_expr m value).size counters)) (gates_alone (integer_gates op))
effect_size m (effect.Advance form place target way t value) counters =
    plus (plus ((size_of_lvalue m target).size counters) ((size_of_expr m value).size counters)) (times 2 (access m))
effect_size m (effect.Call call) counters = (size_of_expr m call).size counters

abbrev pub value_size : Measure → Option TypedExpr → Counters → Size
value_size m None counters = nothing
value_size m (Some value) counters = (size_of_expr m value).size counters

-- an initialization of a pointer, an array or a struct is an access
abbrev pub whole_size : Measure → Bool → ValueKind → Size
whole_size m is_array k = if is_array then access m else moved_size m k

pub record Declared : Type 0 where
  pub measure : Measure
  pub kinds : ℕ → ValueKind

abbrev pub start_size : Declared → ℕ → Option (List Part) → Counters → Size
start_size d object None counters = nothing
start_size d object (Some parts) counters =
    plus (total (map (λ part. value_size d.measure part.value counters) parts)) (whole_size d.measure (d.measure.is_array object) (d.kinds object))

abbrev pub declarator_size : Declared → TypedDeclarator → Counters → Size
declarator_size d declared counters = plus visit (start_size d declared.object declared.start counters)

-- ---- statements

abbrev pub Sized : Type 0
Sized = Counters → Size

abbrev pub all_sized : List Sized → Sized
all_sized parts counters = total (map (λ part. part counters) parts)

abbrev pub option_sized : Option Sized → Sized
option_sized None counters = nothing
option_sized (Some part) counters = part counters

-- the statement itself, with its own tokens
abbrev pub own_size : ℕ → Size
own_size tokens = plus visit (tokens_size tokens)

abbrev pub controlling_size : Measure → Controlling → Sized
controlling_size m c counters = plus ((size_of_expr m c.value).size counters) (tokens_size c.tokens)

abbrev pub controlling_where : Measure → Option Controlling → Sized
controlling_where m None counters = nothing
controlling_where m (Some c) counters = controlling_size m c counters

abbrev pub step_size : Measure → Option TypedStep → Sized
step_size m None counters = nothing
step_size m (Some step) counters = plus (plus visit (effect_size m step.effect counters)) (tokens_size step.tokens)

abbrev pub first_size : Declared → TypedFirst → Sized
first_size d first.Nothing counters = nothing
first_size d (first.Objects declared) counters = total (map (λ declarator. declarator_size d declarator counters) declared)
first_size d (first.Effect effect) counters = plus visit (effect_size d.measure effect counters)

-- n turns with n + 1 tests, or with n + 1 of them where none stands before the first turn: the one that is missing is counted
abbrev pub loop_size : Measure → ℕ → Size → Size → Size → Size
loop_size m n test body step = plus (times (n + 1) test) (times n (plus (plus visit (branch m)) (plus body step)))

-- the counter of a loop whose bound is the number of its turns is a number in its body
abbrev pub counters_in : ℕ → Option Counter → Counters → Counters
counters_in bound None counters = counters
counters_in bound (Some counter) counters = if counter.turns == bound then counter.object ∷ counters else counters

abbrev pub item_size_rule : Declared → TypedItem-F Sized Sized Sized Sized Sized Sized → Sized
item_size_rule d (TypedItem-F.Statement statement) counters = statement counters
item_size_rule d (TypedItem-F.Object declared) counters = declarator_size d declared counters

abbrev pub iteration_size_rule : Declared → TypedIteration-F Sized Sized Sized Sized Sized Sized → Sized
iteration_size_rule d (TypedIteration-F.While tokens bound condition body) counters =
    plus (own_size tokens) (loop_size d.measure bound (controlling_size d.measure condition counters) (body counters) nothing)
iteration_size_rule d (TypedIteration-F.Do tokens bound body condition) counters =
    plus (own_size tokens) (loop_size d.measure bound (controlling_size d.measure condition counters) (body counters) nothing)
iteration_size_rule d (TypedIteration-F.For tokens bound counter first condition step body) counters =
    plus (plus (own_size tokens) (first_size d first counters))
    (loop_size d.measure bound (controlling_where d.measure condition counters) (body (counters_in bound counter counters)) (step_size d.measure step counters))

abbrev pub selection_size_rule : Declared → TypedSelection-F Sized Sized Sized Sized Sized Sized → Sized
selection_size_rule d (TypedSelection-F.If tokens condition consequence otherwise) counters =
    plus (plus (own_size tokens) (branch d.measure))
    (plus ((size_of_expr d.measure condition).size counters) (plus (consequence counters) (option_sized otherwise counters)))
selection_size_rule d (TypedSelection-F.Switch tokens t value sections) counters =
    plus (plus (own_size tokens) (branch d.measure)) (plus ((size_of_expr d.measure value).size counters) (all_sized sections counters))

abbrev pub statement_size_rule : Declared → TypedStatement-F Sized Sized Sized Sized Sized Sized → Sized
statement_size_rule d (TypedStatement-F.Block block) counters = block counters
statement_size_rule d TypedStatement-F.Empty counters = own_size 1
statement_size_rule d (TypedStatement-F.Effect tokens effect) counters = plus (own_size tokens) (effect_size d.measure effect counters)
statement_size_rule d TypedStatement-F.Break counters = own_size 2
statement_size_rule d TypedStatement-F.Continue counters = own_size 2
statement_size_rule d (TypedStatement-F.Return tokens k value) counters =
    plus (own_size tokens) (plus (value_size d.measure value counters) (moved_size d.measure k))
statement_size_rule d (TypedStatement-F.Selection selection) counters = selection counters
statement_size_rule d (TypedStatement-F.Iteration iteration) counters = iteration counters

abbrev pub block_size_rule : TypedBlock-F Sized Sized Sized Sized Sized Sized → Sized
block_size_rule block counters = plus (own_size block.tokens) (all_sized block.items counters)

abbrev pub section_size_rule : TypedSection-F Sized Sized Sized Sized Sized Sized → Sized
section_size_rule section = all_sized section.statements

abbrev pub size_of_block : Declared → TypedBlock → Sized
size_of_block d =
    fold-TypedBlock Sized Sized Sized Sized Sized Sized
    (item_size_rule d) (iteration_size_rule d) (selection_size_rule d) (statement_size_rule d) block_size_rule section_size_rule

-- ---- programs

abbrev pub kinds_in : List Object → ℕ → ValueKind
kinds_in objects k = object_kind (slice_get objects k)

abbrev pub is_pointer : ValueKind → Bool
is_pointer kind.Void = false
is_pointer (kind.Integer t) = false
is_pointer kind.Pointer = true
is_pointer (kind.Struct number) = false

abbrev pub layer_is_array : CType-F CType → Bool
layer_is_array (CType-F.Array count element) = true
layer_is_array other = false

abbrev pub is_array_in : Option Object → Bool
is_array_in None = false
is_array_in (Some object) = layer_is_array (out-CType object.ctype)

-- a parameter of `mpc_main` that is a pointer, and that nothing in its body assigns
abbrev pub steady_in : List Object → Option TypedFunction → ℕ → Bool
steady_in objects None k = false
steady_in objects (Some main) k =
    is_pointer (kinds_in objects k) && list_any (λ j. k == j) main.params && not (list_any (λ j. k == j) (assigned_by main.body))

abbrev pub pointer_count : List Object → ℕ
pointer_count objects = length (filter (λ object. is_pointer (kind_of object.ctype)) objects)

abbrev pub measure_of : TypedParts → List FunctionSize → Measure
measure_of program before = record {
  cells = program.cells + 1;
  pointers = pointer_count program.objects;
  is_array = λ k. is_array_in (slice_get program.objects k);
  is_steady = steady_in program.objects (slice_get program.functions program.main_function);
  functions = before;
}

abbrev pub function_size : TypedParts → List FunctionSize → TypedFunction → FunctionSize
function_size program before f = record {
  parameters = map (kinds_in program.objects) f.params;
  size = plus visit (size_of_block (record { measure = measure_of program before; kinds = kinds_in program.objects }) f.body []);
}

abbrev pub functions_sized : TypedParts → List FunctionSize → List TypedFunction → List FunctionSize
functions_sized program before [] = before
functions_sized program before (f ∷ fs) = functions_sized program (before ++ function_size program before f ∷ []) fs

-- a run of the whole program
abbrev pub program_size : TypedParts → Size
program_size program =
    plus (get_or (functions_sized program [] program.functions) program.main_function (record { parameters = []; size = nothing })).size
    (program_start (measure_of program []))

-- sizes stand still at 2^63
abbrev pub saturated : ℕ → ℕ
saturated n = min n (2 ^ 63)
