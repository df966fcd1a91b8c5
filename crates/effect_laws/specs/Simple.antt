-- Expression statements as a text spells them, and the rules that typed ones keep in an environment.
use Rattle.std.specs.Prelude.{Bool, ◌&&◌, Option}
use Rattle.c_tree.specs.declared.statements.ExpressionStatement.{ExpressionStatement}
use Rattle.c_tree.specs.declared.statements.ExpressionStatement.TheVariants as simple
use Rattle.c_meaning.specs.declared.expressions.TypedExpr.{TypedExpr}
use Rattle.c_meaning.specs.declared.statements.TypedEffect.{TypedEffect}
use Rattle.c_meaning.specs.declared.statements.TypedStep.{TypedStep}
use Rattle.c_meaning.specs.declared.statements.Controlling.{Controlling}
use Rattle.c_meaning.specs.Rules.{IsTypedExpr, IsCondition}
use Rattle.c_meaning.specs.StatementRules.{EffectFits, StepFits, ControllingFits, ControllingWhere}
use Rattle.c_typing.specs.declared.environment.Environment.{Environment}
use Rattle.typing_laws.specs.Passing.{scope_of}
use Rattle.source_laws.specs.Spelled.{is_spelled}

abbrev pub is_spelled_simple : ExpressionStatement → Bool
is_spelled_simple (simple.Assignment target place op value) = is_spelled target && is_spelled value
is_spelled_simple (simple.PostfixStep operand place step) = is_spelled operand
is_spelled_simple (simple.PrefixStep place step operand) = is_spelled operand
is_spelled_simple (simple.Call call) = is_spelled call

abbrev pub EffectIn : Environment → TypedEffect → Type 0
EffectIn env e = EffectFits (scope_of env) e

abbrev pub StepIn : Environment → TypedStep → Type 0
StepIn env step = EffectFits (scope_of env) step.effect

abbrev pub StepWhere : Environment → Option TypedStep → Type 0
StepWhere env step = StepFits (scope_of env) step

abbrev pub ConditionIn : Environment → TypedExpr → Type 0
ConditionIn env e = IsTypedExpr (scope_of env) e × IsCondition (scope_of env) e

abbrev pub ControllingIn : Environment → Controlling → Type 0
ControllingIn env c = ControllingFits (scope_of env) c

abbrev pub ControllingWhereIn : Environment → Option Controlling → Type 0
ControllingWhereIn env c = ControllingWhere (scope_of env) c
