-- Conditions and the steps of loops (C11 6.8.4.1p1, 6.8.5p2): where their typing passes, it passes with what keeps the rules of typed programs.
use Rattle.std.proofs.Common.{◌≡◌, true, if◌then◌else◌, Option, None, Some}
use Rattle.c_tree.specs.declared.token.Place.{Place}
use Rattle.c_tree.specs.declared.expressions.Expr.{Expr}
use Rattle.c_tree.specs.declared.statements.ExpressionStatement.{ExpressionStatement}
use Rattle.c_meaning.specs.Types.{kind_of}
use Rattle.c_meaning.specs.Rules.{is_scalar_kind}
use Rattle.c_conversions.specs.declared.fault.TypeKind.TheVariants.{Mismatch}
use Rattle.c_typing.specs.Walks.{Breaks, Passes}
use Rattle.c_typing.specs.Expressions.{valued}
use Rattle.c_expressions.specs.Typing.{types_expr}
use Rattle.c_heads.specs.Tokens.{expr_tokens, simple_tokens}
use Rattle.c_heads.specs.Effects.{effect_of}
use Rattle.c_heads.specs.Loops.{condition_of, controlling_of, controlling_where, step_of, step_where}
use Rattle.typing_laws.specs.Passing.{scope_of}
use Rattle.typing_laws.proofs.Environments.{extends-refl}
use Rattle.expression_laws.specs.Keeping.{Grown, Keeps, ValueIn}
use Rattle.expression_laws.proofs.Steps.{passing-if, grown-after}
use Rattle.expression_laws.proofs.Joined.{condition-is}
use Rattle.expression_laws.proofs.Walked.{valued-keeps}
use Rattle.source_laws.specs.Spelled.{is_spelled}
use Rattle.source_laws.proofs.Sources.{expr-typed}
use Rattle.effect_laws.specs.Simple.{is_spelled_simple, EffectIn, StepIn, StepWhere, ConditionIn, ControllingIn, ControllingWhereIn}
use Rattle.effect_laws.proofs.Effects.{effect-keeps}

pub condition-keeps : (place : Place) (e : Expr) → is_spelled e ≡ true → Keeps ConditionIn (condition_of place e)
condition-keeps place e h = λ env well.
    grown-after ValueIn ConditionIn env (valued (types_expr e) env) (λ v env. if is_scalar_kind (kind_of v.ctype) then Passes v.expr env else Breaks Mismatch place)
    (valued-keeps (types_expr e) (expr-typed e h) env well)
    (λ v new g w r. passing-if (Grown ConditionIn new) (is_scalar_kind (kind_of v.ctype)) (Passes v.expr new) (Breaks Mismatch place)
    (λ scalar. (extends-refl new, w, (r.0.0, condition-is (scope_of new) v r scalar))) (λ e. tt))

pub controlling-keeps : (place : Place) (e : Expr) → is_spelled e ≡ true → Keeps ControllingIn (controlling_of place e)
controlling-keeps place e h = λ env well.
    grown-after ConditionIn ControllingIn env (condition_of place e env) (λ value env. Passes (record { tokens = expr_tokens e; value = value }) env) (condition-keeps place e h env well)
    (λ v new g w r. (extends-refl new, w, r))

abbrev pub SpelledWhere : Option Expr → Type 0
SpelledWhere None = Unit {0}
SpelledWhere (Some e) = is_spelled e ≡ true

pub controlling-where-keeps : (place : Place) (e : Option Expr) → SpelledWhere e → Keeps ControllingWhereIn (controlling_where place e)
controlling-where-keeps place None h = λ env well. (extends-refl env, well, tt)
controlling-where-keeps place (Some e) h = λ env well.
    grown-after ControllingIn ControllingWhereIn env (controlling_of place e env) (λ c env. Passes (Some c) env) (controlling-keeps place e h env well) (λ c new g w r. (extends-refl new, w, r))

pub step-of-keeps : (s : ExpressionStatement) → is_spelled_simple s ≡ true → Keeps StepIn (step_of s)
step-of-keeps s h = λ env well.
    grown-after EffectIn StepIn env (effect_of s env) (λ e env. Passes (record { tokens = simple_tokens s; effect = e }) env) (effect-keeps s h env well) (λ e new g w r. (extends-refl new, w, r))

abbrev pub SpelledStep : Option ExpressionStatement → Type 0
SpelledStep None = Unit {0}
SpelledStep (Some s) = is_spelled_simple s ≡ true

pub step-where-keeps : (s : Option ExpressionStatement) → SpelledStep s → Keeps StepWhere (step_where s)
step-where-keeps None h = λ env well. (extends-refl env, well, tt)
step-where-keeps (Some s) h = λ env well.
    grown-after StepIn StepWhere env (step_of s env) (λ s env. Passes (Some s) env) (step-of-keeps s h env well) (λ t new g w r. (extends-refl new, w, r))
