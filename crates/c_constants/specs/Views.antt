-- Constants where the word of at most one object is known, and what operands of "&&" and "||" decide one after another.
use Rattle.std.specs.Prelude.{ℕ, ◌==◌, Bool, not, if◌then◌else◌, Option, None, Some}
use Rattle.hy_bits.specs.Bits.{bit}
use Rattle.hy_bits.specs.declared.scalar.Scalar.{Scalar}
use Rattle.c_meaning.specs.declared.operators.ArithmeticSign.{ArithmeticSign}
use Rattle.c_meaning.specs.declared.expressions.ChainStep.{ChainStep}
use Rattle.c_meaning.specs.declared.expressions.LogicalOperand.{LogicalOperand}
use Rattle.c_meaning.specs.declared.expressions.Lvalue.TheFolds.{fold-ChainStep, fold-LogicalOperand}
use Rattle.c_meaning.specs.Operations.{signed_by, undefined_sign}
use Rattle.c_meaning.specs.Constants.{Constant, Variable, Faulty, Word, StepConstant, with_word, with_form, faulty_where, decides, lvalue_name_rule, constant_rule, step_constant_rule, operand_constant_rule}
use Rattle.c_meaning.specs.Constants as constants
use Rattle.c_meaning.specs.Counting.{just}
use Rattle.c_constants.specs.declared.constants.Folded.{Folded}
use Rattle.c_constants.specs.declared.constants.Folded.TheVariants as folded
use Rattle.c_constants.specs.declared.constants.Known.{Known}

abbrev pub as_constant : Folded → Constant
as_constant folded.Variable = Variable
as_constant folded.Faulty = Faulty
as_constant (folded.Word w) = Word w

-- what is known of objects: at most one word
abbrev pub known_as : Option Known → constants.Known
known_as None k = None
known_as (Some known) k = just known.object known.word k

-- ---- parts of expressions

-- what a step of a chain makes of what stands on its left
abbrev pub step_folds : constants.Known → ChainStep → StepConstant
step_folds known =
    fold-ChainStep (Option ℕ) Constant StepConstant Constant lvalue_name_rule (constant_rule known) step_constant_rule operand_constant_rule

-- an operand of "&&" or "||"
abbrev pub operand_folds : constants.Known → LogicalOperand → Constant
operand_folds known =
    fold-LogicalOperand (Option ℕ) Constant StepConstant Constant lvalue_name_rule (constant_rule known) step_constant_rule operand_constant_rule

abbrev pub sign_constant : ArithmeticSign → Scalar → Constant → Constant
sign_constant sign t operand = with_word operand (λ w. faulty_where (undefined_sign sign t w) (signed_by sign t w))

abbrev pub not_constant : Constant → Constant
not_constant operand = with_word operand (λ w. Word (bit (w == 0)))

abbrev pub truth_of : Constant → Constant
truth_of operand = with_word operand (λ w. Word (bit (not (w == 0))))

-- ---- operands of "&&" and "||" from the left: what those so far decide, if they do

abbrev pub as_held : Option Folded → Option Constant
as_held None = None
as_held (Some held) = Some (as_constant held)

abbrev pub decided : Bool → Constant → Option Constant
decided is_or Variable = Some Variable
decided is_or Faulty = Some Faulty
decided is_or (Word w) = if decides is_or w then Some (Word (bit is_or)) else None

abbrev pub held_after : Bool → Option Constant → Constant → Option Constant
held_after is_or None operand = decided is_or operand
held_after is_or (Some held) operand = Some (with_form held operand)

-- what is decided stands where the others are constant by their form
abbrev pub settled : Option Constant → Constant → Constant
settled None last = last
settled (Some held) last = with_form held last
