-- Assignments, steps and calls (C11 6.5.16, 6.5.2.4, 6.5.3.1): where their typing passes, it passes with what keeps the rules of typed programs.
use Rattle.std.proofs.Common.{◌≡◌, ◌&&◌, Bool, true, false, Option, None, Some, ap, subst, ◌∙◌, refl, arith}
use Rattle.hy_bits.specs.declared.scalar.Scalar.TheVariants.{S32}
use Rattle.c_tree.specs.declared.token.Place.{Place}
use Rattle.c_tree.specs.declared.expressions.Expr.{Expr}
use Rattle.c_tree.specs.declared.statements.Step.{Step}
use Rattle.c_tree.specs.declared.statements.ExpressionStatement.{ExpressionStatement}
use Rattle.c_tree.specs.declared.statements.ExpressionStatement.TheVariants as simple
use Rattle.c_meaning.specs.declared.types.CType.{CType}
use Rattle.c_meaning.specs.declared.types.CType.TheVariants as ctype
use Rattle.c_meaning.specs.declared.types.Qualifier.TheVariants.{Unqualified, Const}
use Rattle.c_meaning.specs.declared.operators.Written.{Written}
use Rattle.c_meaning.specs.declared.operators.Written.TheVariants as written
use Rattle.c_meaning.specs.declared.expressions.Lvalue.{Lvalue}
use Rattle.c_meaning.specs.declared.statements.TypedEffect.TheVariants as effect
use Rattle.c_meaning.specs.Types.{kind_of}
use Rattle.c_meaning.specs.Constants.{constant_of}
use Rattle.c_meaning.specs.TypeRules.{Scope, Designated, Typed}
use Rattle.c_meaning.specs.StatementRules.{IsModifiable}
use Rattle.c_conversions.specs.declared.fault.TypeKind.TheVariants.{Mismatch}
use Rattle.c_conversions.specs.declared.operators.Operator.{Operator}
use Rattle.c_conversions.specs.declared.operators.Change.{Change}
use Rattle.c_conversions.specs.declared.operators.Change.TheVariants as change
use Rattle.c_conversions.specs.Operators.{operator_in, changed}
use Rattle.c_typing.specs.declared.environment.Environment.{Environment}
use Rattle.c_typing.specs.declared.values.TypedValue.{TypedValue}
use Rattle.c_typing.specs.declared.values.Typing.{Typing}
use Rattle.c_typing.specs.declared.values.Typing.TheVariants.{Designates, Gives}
use Rattle.c_typing.specs.Walks.{Passes, after}
use Rattle.c_typing.specs.Values.{kind_operand, converted, scalar_of}
use Rattle.c_typing.specs.Expressions.{valued, assigned_to}
use Rattle.c_expressions.specs.Typing.{types_expr}
use Rattle.c_heads.specs.Effects.{stored, change_of, changed_by, assignment, step_operator, one_at, effect_of}
use Rattle.typing_laws.specs.Values.{IsPlace, IsValue, IsTyping}
use Rattle.typing_laws.specs.Passing.{Passing, scope_of}
use Rattle.typing_laws.proofs.Environments.{extends-refl}
use Rattle.typing_laws.proofs.Places.{constant-typed}
use Rattle.typing_laws.proofs.Unary.{int-value}
use Rattle.conversion_laws.proofs.Changes.{ChangeFits, change-fits, scalar-is}
use Rattle.expression_laws.specs.Keeping.{Stays, Keeps, TypingIn, ValueIn, AssignableIn}
use Rattle.expression_laws.proofs.Steps.{passing-unless, passing-some, grown-in, grown-after, stays-after}
use Rattle.expression_laws.proofs.Weakened.{typing-kept}
use Rattle.expression_laws.proofs.Joined.{converted-fits, assigned-passing}
use Rattle.expression_laws.proofs.Walked.{valued-keeps}
use Rattle.source_laws.specs.Spelled.{is_spelled}
use Rattle.source_laws.proofs.Sources.{expr-typed}
use Rattle.effect_laws.specs.Simple.{is_spelled_simple, EffectIn}

both : (a b : Bool) → (a && b) ≡ true → (a ≡ true) × (b ≡ true)
both true b h = (refl, h)
both false b h = absurd (cc)

module _ (scope : Scope) where
  -- C11 6.5.16p2
  pub modifiable : (l : Lvalue) (c : CType) → IsPlace scope l c Unqualified → IsModifiable scope l c
  modifiable l c h = (h.0, ap (λ (d : Designated). d.ctype) h.1, ap (λ (d : Designated). d.qualifier) h.1)

  modifiable-as : (l : Lvalue) (c d : CType) → c ≡ d → IsPlace scope l c Unqualified → IsModifiable scope l d
  modifiable-as l c d same h = modifiable l d (subst (λ (x : CType). IsPlace scope l x Unqualified) same h)

module _ (env : Environment) where
  abbrev scope : Scope
  scope = scope_of env

  -- C11 6.5.16.1
  stored-passing : (place : Place) (t : Typing) (value : TypedValue) → IsTyping scope t → IsValue scope value → Passing (Stays EffectIn env) (stored place t value env)
  stored-passing place (Gives v) value t h = tt
  stored-passing place (Designates of c Const) value t h = tt
  stored-passing place (Designates of c Unqualified) value t h =
      stays-after (AssignableIn c) (Stays EffectIn env) env (assigned_to place c value env) (λ e env. Passes (effect.Assignment place of (kind_of c) e) env)
      (assigned-passing env place c value h)
      (λ e a. (refl, (c, modifiable scope of c t.0, refl, a.0, a.1)))

  -- C11 6.5.16.2
  change-passing : (form : Written) (place : Place) (of : Lvalue) (c : CType) (value : TypedValue) (way : Change) → IsPlace scope of c Unqualified → IsValue scope value
      → ChangeFits c value.ctype (constant_of value.expr) way → Passing (Stays EffectIn env) (change_of form place of c value way env)
  change-passing form place of c value (change.Integer op conversion) p h fit =
      passing-some (Stays EffectIn env) Mismatch place (scalar_of c) (λ t env. Passes (effect.Compound form place of t op (converted conversion value.expr)) env) env
      (λ t e.
      let made = converted-fits scope conversion value.expr (Typed value.ctype) h.0 fit.1.0 in
      (refl, (modifiable-as scope of c (ctype.Int t) (scalar-is c t e) p, made.0, made.1 ∙ fit.1.1, fit.2)))
  change-passing form place of c value (change.Advance way t) p h fit = (refl, (c, modifiable scope of c p, fit.0, h.0.0, h.0.1 ∙ ap Typed fit.1))

  pub changed-passing : (form : Written) (place : Place) (op : Operator) (t : Typing) (value : TypedValue) → IsTyping scope t → IsValue scope value
      → Passing (Stays EffectIn env) (changed_by form place op t value env)
  changed-passing form place op (Gives v) value t h = tt
  changed-passing form place op (Designates of c Const) value t h = tt
  changed-passing form place op (Designates of c Unqualified) value t h =
      passing-unless (Stays EffectIn env) place (changed op (kind_operand (kind_of c)) (kind_operand (kind_of value.ctype))) (λ way env. change_of form place of c value way env) env
      (λ way e. change-passing form place of c value way t.0 h (change-fits op c value.ctype (constant_of value.expr) way e))

  assignment-passing : (place : Place) (op : Option Operator) (t : Typing) (value : TypedValue) → IsTyping scope t → IsValue scope value
      → Passing (Stays EffectIn env) (assignment place op t value env)
  assignment-passing place None t value p h = stored-passing place t value p h
  assignment-passing place (Some op) t value p h = changed-passing written.Assignment place op t value p h

  one-typed : (place : Place) → IsValue scope (one_at place)
  one-typed place = (constant-typed scope place S32 1 (omega arith), int-value env.structs S32)

step-keeps : (form : Written) (place : Place) (step : Step) (operand : Expr) → is_spelled operand ≡ true
    → Keeps EffectIn (λ env. after ((types_expr operand).walk env) (λ t env. changed_by form place (step_operator step) t (one_at place) env))
step-keeps form place step operand h = λ env well.
    grown-after TypingIn EffectIn env ((types_expr operand).walk env) (λ t env. changed_by form place (step_operator step) t (one_at place) env) (expr-typed operand h env well)
    (λ t new g w r. grown-in EffectIn new (changed_by form place (step_operator step) t (one_at place) new) w
    (changed-passing new form place (step_operator step) t (one_at place) r (one-typed new place)))

-- an expression statement
pub effect-keeps : (s : ExpressionStatement) → is_spelled_simple s ≡ true → Keeps EffectIn (effect_of s)
effect-keeps (simple.Assignment target place op value) h = λ env well.
    let b = both (is_spelled target) (is_spelled value) h in
    grown-after TypingIn EffectIn env ((types_expr target).walk env)
    (λ t env. after (valued (types_expr value) env) (λ v env. assignment place (operator_in op) t v env)) (expr-typed target b.0 env well)
    (λ t new g w r. grown-after ValueIn EffectIn new (valued (types_expr value) new) (λ v env. assignment place (operator_in op) t v env)
    (valued-keeps (types_expr value) (expr-typed value b.1) new w)
    (λ v last k u typed. grown-in EffectIn last (assignment place (operator_in op) t v last) u
    (assignment-passing last place (operator_in op) t v (typing-kept new last k w t r) typed)))
effect-keeps (simple.PostfixStep operand place step) h = step-keeps written.Postfix place step operand h
effect-keeps (simple.PrefixStep place step operand) h = step-keeps written.Prefix place step operand h
effect-keeps (simple.Call call) h = λ env well.
    grown-after ValueIn EffectIn env (valued (types_expr call) env) (λ v env. Passes (effect.Call v.expr) env) (valued-keeps (types_expr call) (expr-typed call h) env well)
    (λ v new g w r. (extends-refl new, w, r.0.0))
