-- Expression statements (C11 6.8.3, 6.5.16, 6.5.2.4, 6.5.3.1): an assignment, a step or a call by what its parts are, or the first rule that is
-- broken. The place comes before the right side.
use Rattle.std.specs.Prelude.{ℕ, Option, None, Some, List}
use Rattle.hy_bits.specs.declared.scalar.Scalar.{Scalar}
use Rattle.hy_bits.specs.declared.scalar.Scalar.TheVariants.{S32}
use Rattle.c_tree.specs.declared.token.Place.{Place}
use Rattle.c_tree.specs.declared.statements.Step.{Step}
use Rattle.c_tree.specs.declared.statements.Step.TheVariants.{Increment, Decrement}
use Rattle.c_tree.specs.declared.statements.ExpressionStatement.{ExpressionStatement}
use Rattle.c_tree.specs.declared.statements.ExpressionStatement.TheVariants as simple
use Rattle.c_meaning.specs.declared.types.CType.{CType}
use Rattle.c_meaning.specs.declared.types.Qualifier.TheVariants.{Unqualified, Const}
use Rattle.c_meaning.specs.declared.operators.ArithmeticOperator.TheVariants as arithmetic
use Rattle.c_meaning.specs.declared.operators.Written.{Written}
use Rattle.c_meaning.specs.declared.operators.Written.TheVariants as written
use Rattle.c_meaning.specs.declared.expressions.TypedExpr.TheVariants as expr
use Rattle.c_meaning.specs.declared.expressions.Lvalue.{Lvalue}
use Rattle.c_meaning.specs.declared.statements.TypedEffect.{TypedEffect}
use Rattle.c_meaning.specs.declared.statements.TypedEffect.TheVariants as effect
use Rattle.c_meaning.specs.Types.{kind_of}
use Rattle.c_conversions.specs.declared.fault.TypeKind.TheVariants.{Mismatch}
use Rattle.c_conversions.specs.declared.operators.Operator.{Operator}
use Rattle.c_conversions.specs.declared.operators.Operator.TheVariants as operator
use Rattle.c_conversions.specs.declared.operators.Change.{Change}
use Rattle.c_conversions.specs.declared.operators.Change.TheVariants as change
use Rattle.c_conversions.specs.Operators.{operator_in, changed}
use Rattle.c_typing.specs.declared.values.TypedValue.{TypedValue}
use Rattle.c_typing.specs.declared.values.Typing.{Typing}
use Rattle.c_typing.specs.declared.values.Typing.TheVariants.{Designates, Gives}
use Rattle.c_typing.specs.Walks.{Breaks, Passes, Walk, after, unless, unless_none}
use Rattle.c_typing.specs.Values.{kind_operand, converted, scalar_of, int_type}
use Rattle.c_typing.specs.Expressions.{valued, assigned_to}
use Rattle.c_expressions.specs.Typing.{types_expr}

-- C11 6.5.16.1: "="
abbrev pub stored : Place → Typing → TypedValue → Walk TypedEffect
stored place (Gives v) value env = Breaks Mismatch place
stored place (Designates of c Const) value env = Breaks Mismatch place
stored place (Designates of c Unqualified) value env =
    after (assigned_to place c value env) (λ e env. Passes (effect.Assignment place of (kind_of c) e) env)

abbrev pub change_of : Written → Place → Lvalue → CType → TypedValue → Change → Walk TypedEffect
change_of form place of c value (change.Integer op conversion) env =
    unless_none Mismatch place (scalar_of c) (λ t env. Passes (effect.Compound form place of t op (converted conversion value.expr)) env) env
change_of form place of c value (change.Advance way t) env = Passes (effect.Advance form place of way t value.expr) env

-- C11 6.5.16.2: "op=", "++" and "--"
abbrev pub changed_by : Written → Place → Operator → Typing → TypedValue → Walk TypedEffect
changed_by form place op (Gives v) value env = Breaks Mismatch place
changed_by form place op (Designates of c Const) value env = Breaks Mismatch place
changed_by form place op (Designates of c Unqualified) value env =
    unless place (changed op (kind_operand (kind_of c)) (kind_operand (kind_of value.ctype))) (λ way env. change_of form place of c value way env) env

abbrev pub assignment : Place → Option Operator → Typing → TypedValue → Walk TypedEffect
assignment place None target value env = stored place target value env
assignment place (Some op) target value env = changed_by written.Assignment place op target value env

-- C11 6.5.2.4p2, 6.5.3.1p2: as "+= 1" and "-= 1"
abbrev pub step_operator : Step → Operator
step_operator Increment = operator.Arithmetic arithmetic.Add
step_operator Decrement = operator.Arithmetic arithmetic.Subtract

abbrev pub one_at : Place → TypedValue
one_at place = record { expr = expr.Constant place S32 1; ctype = int_type }

abbrev pub effect_of : ExpressionStatement → Walk TypedEffect
effect_of (simple.Assignment target place op value) env =
    after ((types_expr target).walk env) (λ t env. after (valued (types_expr value) env) (λ v env. assignment place (operator_in op) t v env))
effect_of (simple.PostfixStep operand place step) env =
    after ((types_expr operand).walk env) (λ t env. changed_by written.Postfix place (step_operator step) t (one_at place) env)
effect_of (simple.PrefixStep place step operand) env =
    after ((types_expr operand).walk env) (λ t env. changed_by written.Prefix place (step_operator step) t (one_at place) env)
effect_of (simple.Call call) env = after (valued (types_expr call) env) (λ v env. Passes (effect.Call v.expr) env)
