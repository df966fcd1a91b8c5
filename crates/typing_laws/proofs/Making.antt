-- Typed trees that are made of typed parts.
use Rattle.std.proofs.Common.{◌≡◌, ap, sym, subst, ◌∙◌}
use Rattle.c_meaning.specs.declared.expressions.TypedExpr.{TypedExpr}
use Rattle.c_meaning.specs.declared.expressions.Lvalue.{Lvalue}
use Rattle.c_meaning.specs.declared.expressions.ChainStep.{ChainStep}
use Rattle.c_meaning.specs.declared.expressions.LogicalOperand.{LogicalOperand}
use Rattle.c_meaning.specs.declared.expressions.Lvalue.TheOpen.{Lvalue-F, TypedExpr-F}
use Rattle.c_meaning.specs.declared.expressions.Lvalue.TheViews.{roll-TypedExpr, roll-Lvalue}
use Rattle.c_meaning.specs.TypeRules.{Scope, ExprType, Designated, type_of, designated_by, expr_type_rule, lvalue_type_rule}
use Rattle.c_meaning.specs.Rules.{IsTypedExpr, IsTypedLvalue, ExprFits, LvalueFits}
use Rattle.typing_laws.specs.Values.{HasType}
use Rattle.typing_laws.proofs.Rules.{PartsOfExpr, PartsOfLvalue, typed-expr, typed-lvalue, types_in_expr, types_in_lvalue, type-of-rolled, designated-by-rolled}

module _ (scope : Scope) where
  pub made-expr : (x : TypedExpr-F Lvalue TypedExpr ChainStep LogicalOperand) (e : TypedExpr) (t : ExprType) → roll-TypedExpr x ≡ e
      → ExprFits scope x → PartsOfExpr scope x → expr_type_rule scope (types_in_expr scope x) ≡ t → HasType scope e t
  made-expr x e t is fits parts same = (subst (IsTypedExpr scope) is (typed-expr scope x fits parts), ap (type_of scope) (sym is) ∙ type-of-rolled scope x ∙ same)

  pub made-lvalue : (x : Lvalue-F Lvalue TypedExpr ChainStep LogicalOperand) (l : Lvalue) (d : Designated) → roll-Lvalue x ≡ l
      → LvalueFits scope x → PartsOfLvalue scope x → lvalue_type_rule scope (types_in_lvalue scope x) ≡ d → IsTypedLvalue scope l × (designated_by scope l ≡ d)
  made-lvalue x l d is fits parts same = (subst (IsTypedLvalue scope) is (typed-lvalue scope x fits parts), ap (designated_by scope) (sym is) ∙ designated-by-rolled scope x ∙ same)
