-- Constant expressions (C11 6.6), also with the words of some objects known.
use Rattle.std.specs.Prelude.{ℕ, ◌==◌, Bool, true, false, not, if◌then◌else◌, Option, None, Some, List, [], ◌∷◌}
use Rattle.hy_bits.specs.Bits.{bit}
use Rattle.c_meaning.specs.declared.operators.Conversion.{Conversion}
use Rattle.c_meaning.specs.declared.operators.Conversion.TheVariants as conversion
use Rattle.c_meaning.specs.declared.operators.Operation.{Operation}
use Rattle.c_meaning.specs.declared.operators.Operation.TheVariants as operation
use Rattle.c_meaning.specs.declared.expressions.TypedExpr.{TypedExpr}
use Rattle.c_meaning.specs.declared.expressions.Lvalue.{Lvalue}
use Rattle.c_meaning.specs.declared.expressions.Lvalue.TheOpen.{Lvalue-F, TypedExpr-F, ChainStep-F, LogicalOperand-F}
use Rattle.c_meaning.specs.declared.expressions.Lvalue.TheFolds.{fold-TypedExpr, fold-Lvalue}
use Rattle.c_meaning.specs.declared.values.Undefined.{Undefined}
use Rattle.c_meaning.specs.Operations.{converted_to, operated, undefined_operation, compares, signed_by, undefined_sign}

-- an expression that isn't constant by its form, one whose run is undefined, or one with its word
pub data Constant : Type 0 where
  Variable : Constant
  Faulty : Constant
  Word : ℕ → Constant

abbrev pub with_word : Constant → (ℕ → Constant) → Constant
with_word Variable next = Variable
with_word Faulty next = Faulty
with_word (Word w) next = next w

-- both are constant by their form; the second is looked at where the first has a word
abbrev pub with_form : Constant → Constant → Constant
with_form Variable other = Variable
with_form Faulty Variable = Variable
with_form Faulty Faulty = Faulty
with_form Faulty (Word w) = Faulty
with_form (Word w) Variable = Variable
with_form (Word w) Faulty = Word w
with_form (Word w) (Word v) = Word w

abbrev pub faulty_where : Option Undefined → ℕ → Constant
faulty_where None w = Word w
faulty_where (Some kind) w = Faulty

-- what is known of objects
abbrev pub Known : Type 0
Known = ℕ → Option ℕ

abbrev pub word_known : Option ℕ → Constant
word_known None = Variable
word_known (Some w) = Word w

abbrev pub named_word : Known → Option ℕ → Constant
named_word known None = Variable
named_word known (Some k) = word_known (known k)

abbrev pub converted_constant : Conversion → Constant → Constant
converted_constant (conversion.Integer from to) operand = with_word operand (λ w. Word (converted_to from to w))
converted_constant conversion.NullPointer operand = Variable

abbrev pub converted_where : Option Conversion → Constant → Constant
converted_where None left = left
converted_where (Some conversion) left = converted_constant conversion left

abbrev pub combined_constant : Operation → ℕ → ℕ → Constant
combined_constant (operation.Integer op) a b = faulty_where (undefined_operation op a b) (operated op a b)
combined_constant (operation.Comparison op t) a b = Word (bit (compares op t a b))
combined_constant (operation.Offset way t) a b = Variable
combined_constant (operation.OffsetOnLeft t) a b = Variable
combined_constant (operation.Pointers op) a b = Variable

abbrev pub StepConstant : Type 0
StepConstant = Constant → Constant

abbrev pub step_constant : Option Conversion → Operation → Constant → StepConstant
step_constant conversion op right left =
    with_word (with_form (converted_where conversion left) right) (λ a. with_word right (λ b. combined_constant op a b))

abbrev pub along_constants : List StepConstant → Constant → Constant
along_constants [] left = left
along_constants (step ∷ steps) left = along_constants steps (step left)

-- whether an operand of the word decides: of "||" where it isn't zero, of "&&" where it is
abbrev pub decides : Bool → ℕ → Bool
decides true w = not (w == 0)
decides false w = w == 0

-- C11 6.5.13, 6.5.14: operands from the left until one decides; each is constant by its form
abbrev pub logical_constant : Bool → Constant → List Constant → Constant
logical_constant is_or first [] = with_word first (λ w. Word (bit (not (w == 0))))
logical_constant is_or first (second ∷ rest) =
    with_word (with_form first (logical_constant is_or second rest))
    (λ w. if decides is_or w then Word (bit is_or) else logical_constant is_or second rest)

abbrev pub conditional_constant : Constant → Constant → Constant → Constant
conditional_constant condition second third =
    with_word (with_form (with_form condition second) third) (λ w. if w == 0 then third else second)

-- an lvalue: the object that it names, if it is a name
abbrev pub lvalue_name_rule : Lvalue-F (Option ℕ) Constant StepConstant Constant → Option ℕ
lvalue_name_rule (Lvalue-F.Object place object cells) = Some object
lvalue_name_rule other = None

abbrev pub constant_rule : Known → TypedExpr-F (Option ℕ) Constant StepConstant Constant → Constant
constant_rule known (TypedExpr-F.Constant place t w) = Word w
constant_rule known (TypedExpr-F.Load k from) = named_word known from
constant_rule known (TypedExpr-F.Decay cells count from) = Variable
constant_rule known (TypedExpr-F.Address place of) = Variable
constant_rule known (TypedExpr-F.Converted conversion operand) = converted_constant conversion operand
constant_rule known (TypedExpr-F.Cast place from to operand) = converted_constant (conversion.Integer from to) operand
constant_rule known (TypedExpr-F.Unary place sign t operand) =
    with_word operand (λ w. faulty_where (undefined_sign sign t w) (signed_by sign t w))
constant_rule known (TypedExpr-F.Not place k operand) = with_word operand (λ w. Word (bit (w == 0)))
constant_rule known (TypedExpr-F.Chain first steps) = along_constants steps first
constant_rule known (TypedExpr-F.LogicalAnd first rest) = logical_constant false first rest
constant_rule known (TypedExpr-F.LogicalOr first rest) = logical_constant true first rest
constant_rule known (TypedExpr-F.Conditional condition place k second third) = conditional_constant condition second third
constant_rule known (TypedExpr-F.Call place function k arguments) = Variable

abbrev pub step_constant_rule : ChainStep-F (Option ℕ) Constant StepConstant Constant → StepConstant
step_constant_rule step = step_constant step.left step.operation step.right

abbrev pub operand_constant_rule : LogicalOperand-F (Option ℕ) Constant StepConstant Constant → Constant
operand_constant_rule operand = operand.operand

-- the word of an expression where objects have known words
abbrev pub constant_with : Known → TypedExpr → Constant
constant_with known =
    fold-TypedExpr (Option ℕ) Constant StepConstant Constant lvalue_name_rule (constant_rule known) step_constant_rule operand_constant_rule

-- C11 6.6: the word of a constant expression
abbrev pub constant_of : TypedExpr → Constant
constant_of = constant_with (λ k. None)

abbrev pub named_object : Lvalue → Option ℕ
named_object =
    fold-Lvalue (Option ℕ) Constant StepConstant Constant lvalue_name_rule (constant_rule (λ k. None)) step_constant_rule operand_constant_rule
