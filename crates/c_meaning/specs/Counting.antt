-- Loops that count (C11 6.8.5.3): a `for` whose head alone tells the number of its turns.
use Rattle.std.specs.Prelude.{ℕ, zero, suc, ◌^◌, ◌==◌, Bool, true, false, not, ◌&&◌, ◌||◌, if◌then◌else◌, Option, None, Some, List, [], ◌∷◌}
use Rattle.hy_bits.specs.declared.scalar.Scalar.{Scalar}
use Rattle.c_meaning.specs.declared.operators.ArithmeticOperator.TheVariants as operator
use Rattle.c_meaning.specs.declared.operators.Comparison.{Comparison}
use Rattle.c_meaning.specs.declared.operators.Comparison.TheVariants as comparison
use Rattle.c_meaning.specs.declared.operators.IntegerOperation.{IntegerOperation}
use Rattle.c_meaning.specs.declared.operators.IntegerOperation.TheVariants as integer
use Rattle.c_meaning.specs.declared.operators.Operation.{Operation}
use Rattle.c_meaning.specs.declared.operators.Operation.TheVariants as operation
use Rattle.c_meaning.specs.declared.expressions.TypedExpr.{TypedExpr}
use Rattle.c_meaning.specs.declared.expressions.ChainStep.{ChainStep}
use Rattle.c_meaning.specs.declared.expressions.LogicalOperand.{LogicalOperand}
use Rattle.c_meaning.specs.declared.expressions.Lvalue.{Lvalue}
use Rattle.c_meaning.specs.declared.expressions.Lvalue.TheViews.{out-TypedExpr, out-ChainStep}
use Rattle.c_meaning.specs.declared.expressions.Lvalue.TheOpen.{Lvalue-F, TypedExpr-F, ChainStep-F, LogicalOperand-F}
use Rattle.c_meaning.specs.declared.expressions.Lvalue.TheFolds.{fold-TypedExpr}
use Rattle.c_meaning.specs.declared.statements.TypedEffect.{TypedEffect}
use Rattle.c_meaning.specs.declared.statements.TypedEffect.TheVariants as effect
use Rattle.c_meaning.specs.declared.statements.Part.{Part}
use Rattle.c_meaning.specs.declared.statements.TypedDeclarator.{TypedDeclarator}
use Rattle.c_meaning.specs.declared.statements.TypedFirst.{TypedFirst}
use Rattle.c_meaning.specs.declared.statements.TypedFirst.TheVariants as first
use Rattle.c_meaning.specs.Operations.{left_type, converted_to, operated}
use Rattle.c_meaning.specs.Constants.{Constant, Variable, Faulty, Word, Known, constant_of, constant_with, named_object}

-- ---- the first part

abbrev pub is_object : ℕ → Lvalue → Bool
is_object k target = elim (named_object target) [ None ↦ false | Some j ↦ k == j ]

abbrev pub word_where : Bool → Constant → Option ℕ
word_where true (Word w) = Some w
word_where true other = None
word_where false other = None

abbrev pub last_part : List Part → Option Part
last_part [] = None
last_part (part ∷ []) = Some part
last_part (part ∷ next ∷ parts) = last_part (next ∷ parts)

abbrev pub part_word : Option TypedExpr → Option ℕ
part_word None = Some 0
part_word (Some value) = word_where true (constant_of value)

abbrev pub start_word : Option Part → Option ℕ
start_word None = None
start_word (Some part) = part_word part.value

abbrev pub parts_word : Option (List Part) → Option ℕ
parts_word None = None
parts_word (Some parts) = start_word (last_part parts)

-- the word that the declarators give the object
abbrev pub declared_word : ℕ → List TypedDeclarator → Option ℕ
declared_word k [] = None
declared_word k (d ∷ ds) = if d.object == k then parts_word d.start else declared_word k ds

abbrev pub assigned_word : ℕ → TypedEffect → Option ℕ
assigned_word k (effect.Assignment place target value_kind value) = word_where (is_object k target) (constant_of value)
assigned_word k (effect.Compound form place target t op value) = None
assigned_word k (effect.Advance form place target way t value) = None
assigned_word k (effect.Call call) = None

-- the constant that the first part gives the object
abbrev pub first_word : ℕ → TypedFirst → Option ℕ
first_word k first.Nothing = None
first_word k (first.Objects declared) = declared_word k declared
first_word k (first.Effect effect) = assigned_word k effect

-- ---- the condition

-- an expression that is nothing but a read of the object, with conversions that aren't written
pub data Read : Type 0 where
  Reads : ℕ → Read
  Other : Read

abbrev pub lvalue_read : Lvalue-F Read Read Read Read → Read
lvalue_read (Lvalue-F.Object place object cells) = Reads object
lvalue_read other = Other

abbrev pub expr_read : TypedExpr-F Read Read Read Read → Read
expr_read (TypedExpr-F.Load k from) = from
expr_read (TypedExpr-F.Converted conversion operand) = operand
expr_read other = Other

abbrev pub step_read : ChainStep-F Read Read Read Read → Read
step_read step = Other

abbrev pub operand_read : LogicalOperand-F Read Read Read Read → Read
operand_read operand = Other

abbrev pub read_of : TypedExpr → Read
read_of = fold-TypedExpr Read Read Read Read lvalue_read expr_read step_read operand_read

abbrev pub reads_object : ℕ → TypedExpr → Bool
reads_object k e = elim (read_of e) [ Reads j ↦ k == j | Other ↦ false ]

abbrev pub is_constant : TypedExpr → Bool
is_constant e = elim (constant_of e) [ Variable ↦ false | Faulty ↦ false | Word w ↦ true ]

abbrev pub is_ordering : Comparison → Bool
is_ordering comparison.Less = true
is_ordering comparison.Greater = true
is_ordering comparison.LessOrEqual = true
is_ordering comparison.GreaterOrEqual = true
is_ordering comparison.Equal = false
is_ordering comparison.Unequal = true

abbrev pub is_counting : Operation → Bool
is_counting (operation.Integer op) = false
is_counting (operation.Comparison op t) = is_ordering op
is_counting (operation.Offset way t) = false
is_counting (operation.OffsetOnLeft t) = false
is_counting (operation.Pointers op) = false

-- one of the two is the object, and the other a constant
abbrev pub compares_with_constant : ℕ → TypedExpr → List ChainStep → Bool
compares_with_constant k left [] = false
compares_with_constant k left (step ∷ []) =
    let right = (out-ChainStep step).right in
    is_counting (out-ChainStep step).operation && (reads_object k left && is_constant right || is_constant left && reads_object k right)
compares_with_constant k left (step ∷ next ∷ steps) = false

abbrev pub layer_compares : ℕ → TypedExpr-F Lvalue TypedExpr ChainStep LogicalOperand → Bool
layer_compares k (TypedExpr-F.Chain left steps) = compares_with_constant k left steps
layer_compares k other = false

-- the condition compares the object with a constant by "<", "<=", ">", ">=" or "!="
abbrev pub is_condition_on : ℕ → TypedExpr → Bool
is_condition_on k condition = layer_compares k (out-TypedExpr condition)

abbrev pub just : ℕ → ℕ → Known
just k w j = if k == j then Some w else None

-- whether it holds where the object has the word
abbrev pub holds_at : ℕ → TypedExpr → ℕ → Bool
holds_at k condition w = elim (constant_with (just k w) condition) [ Variable ↦ false | Faulty ↦ false | Word v ↦ not (v == 0) ]

-- ---- the step

abbrev pub is_additive : IntegerOperation → Bool
is_additive (integer.Arithmetic operator.Add t) = true
is_additive (integer.Arithmetic operator.Subtract t) = true
is_additive other = false

abbrev pub stepped : Scalar → IntegerOperation → ℕ → ℕ → ℕ
stepped t op by w = converted_to (left_type op) t (operated op (converted_to t (left_type op) w) by)

-- a constant is added to the object or subtracted from it: the type of the object, the operation and the constant's word
pub record CountingStep : Type 0 where
  pub scalar : Scalar
  pub operation : IntegerOperation
  pub by : ℕ

abbrev pub counting_by : Scalar → IntegerOperation → Constant → Option CountingStep
counting_by t op Variable = None
counting_by t op Faulty = None
counting_by t op (Word w) = Some (record { scalar = t; operation = op; by = w })

abbrev pub counting_step : ℕ → TypedEffect → Option CountingStep
counting_step k (effect.Assignment place target value_kind value) = None
counting_step k (effect.Compound form place target t op value) =
    if is_object k target && is_additive op then counting_by t op (constant_of value) else None
counting_step k (effect.Advance form place target way t value) = None
counting_step k (effect.Call call) = None

-- ---- the number of turns

abbrev pub most_turns : ℕ
most_turns = 2 ^ 20

-- how often the condition holds before it doesn't, where that is at most n times
abbrev pub turns_within : ℕ → (ℕ → Bool) → (ℕ → ℕ) → ℕ → Option ℕ
turns_within zero holds step w = if holds w then None else Some 0
turns_within (suc n) holds step w = if holds w then (elim (turns_within n holds step (step w)) [ None ↦ None | Some m ↦ Some (suc m) ]) else Some 0
