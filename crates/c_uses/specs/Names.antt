-- The object that an lvalue names, whatever is known of the words of objects.
use Rattle.std.specs.Prelude.{ℕ, Option}
use Rattle.c_meaning.specs.declared.expressions.Lvalue.{Lvalue}
use Rattle.c_meaning.specs.declared.expressions.Lvalue.TheFolds.{fold-Lvalue}
use Rattle.c_meaning.specs.Constants.{Known, Constant, StepConstant, lvalue_name_rule, constant_rule, step_constant_rule, operand_constant_rule}

abbrev pub named_with : Known → Lvalue → Option ℕ
named_with known =
    fold-Lvalue (Option ℕ) Constant StepConstant Constant lvalue_name_rule (constant_rule known) step_constant_rule operand_constant_rule
