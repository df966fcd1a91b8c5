-- Expression statements and conditions keep the rules of typed programs in a scope that grows.
use Rattle.std.proofs.Common.{◌≡◌, Option, None, Some, ap, sym, subst, ◌∙◌}
use Rattle.c_meaning.specs.declared.types.CType.{CType, out-CType}
use Rattle.c_meaning.specs.declared.expressions.TypedExpr.{TypedExpr}
use Rattle.c_meaning.specs.declared.expressions.Lvalue.{Lvalue}
use Rattle.c_meaning.specs.declared.statements.TypedEffect.{TypedEffect}
use Rattle.c_meaning.specs.declared.statements.TypedEffect.TheVariants as effect
use Rattle.c_meaning.specs.declared.statements.TypedStep.{TypedStep}
use Rattle.c_meaning.specs.declared.statements.Controlling.{Controlling}
use Rattle.c_meaning.specs.TypeRules.{Scope, ExprType, Designated, type_of}
use Rattle.c_meaning.specs.Rules.{IsTypedExpr, IsCondition, IsAssignable, layer_admits, is_scalar_kind, kind_of_type}
use Rattle.c_meaning.specs.StatementRules.{IsModifiable, EffectFits, StepFits, ControllingFits, ControllingWhere}
use Rattle.typing_laws.specs.Scopes.{ScopeGrows, ScopeStands}
use Rattle.typing_laws.proofs.Kept.{grown-expr, grown-lvalue}

module _ (old new : Scope) (grows : ScopeGrows old new) (stand : ScopeStands old) where
  pub expr-lasts : (e : TypedExpr) → IsTypedExpr old e → IsTypedExpr new e × (type_of new e ≡ type_of old e)
  expr-lasts e h = let k = grown-expr old new grows stand e h in (k.0, k.1)

  pub assignable-lasts : (e : TypedExpr) (c : CType) → IsTypedExpr old e → IsAssignable old e c → IsAssignable new e c
  assignable-lasts e c h a = subst (λ (t : ExprType). layer_admits t (out-CType c)) (sym (expr-lasts e h).1) a

  modifiable-lasts : (l : Lvalue) (c : CType) → IsModifiable old l c → IsModifiable new l c
  modifiable-lasts l c h =
      let k = grown-lvalue old new grows stand l h.0 in
      (k.0, ap (λ (d : Designated). d.ctype) k.1 ∙ h.1, ap (λ (d : Designated). d.qualifier) k.1 ∙ h.2)

  pub effect-lasts : (e : TypedEffect) → EffectFits old e → EffectFits new e
  effect-lasts (effect.Assignment place target k value) h =
      (h.0, modifiable-lasts target h.0 h.1, h.2, (expr-lasts value h.3).0, assignable-lasts value h.0 h.3 h.4)
  effect-lasts (effect.Compound form place target t op value) h =
      let k = expr-lasts value h.1 in
      (modifiable-lasts target _ h.0, k.0, k.1 ∙ h.2, h.3)
  effect-lasts (effect.Advance form place target way t value) h =
      let k = expr-lasts value h.3 in
      (h.0, modifiable-lasts target h.0 h.1, h.2, k.0, k.1 ∙ h.4)
  effect-lasts (effect.Call call) h = (expr-lasts call h).0

  pub condition-lasts : (e : TypedExpr) → IsTypedExpr old e × IsCondition old e → IsTypedExpr new e × IsCondition new e
  condition-lasts e h =
      let k = expr-lasts e h.0 in
      (k.0, ap (λ (t : ExprType). is_scalar_kind (kind_of_type t)) k.1 ∙ h.1)

  pub controlling-lasts : (c : Controlling) → ControllingFits old c → ControllingFits new c
  controlling-lasts c h = condition-lasts c.value h

  pub controlling-where-lasts : (c : Option Controlling) → ControllingWhere old c → ControllingWhere new c
  controlling-where-lasts None h = h
  controlling-where-lasts (Some c) h = controlling-lasts c h

  pub step-where-lasts : (s : Option TypedStep) → StepFits old s → StepFits new s
  step-where-lasts None h = h
  step-where-lasts (Some s) h = effect-lasts s.effect h
