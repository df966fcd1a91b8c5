-- The rules of a typed tree as the rule of its node and those of its parts.
use Rattle.std.proofs.Common.{◌≡◌, refl, subst}
use Rattle.c_meaning.specs.declared.expressions.TypedExpr.{TypedExpr}
use Rattle.c_meaning.specs.declared.expressions.Lvalue.{Lvalue}
use Rattle.c_meaning.specs.declared.expressions.ChainStep.{ChainStep}
use Rattle.c_meaning.specs.declared.expressions.LogicalOperand.{LogicalOperand}
use Rattle.c_meaning.specs.declared.expressions.Lvalue.TheViews.{out-TypedExpr, out-Lvalue, out-ChainStep, out-LogicalOperand, roll-TypedExpr, roll-Lvalue, roll-ChainStep, roll-LogicalOperand, out-roll-TypedExpr, out-roll-Lvalue}
use Rattle.c_meaning.specs.declared.expressions.Lvalue.TheOpen.{Lvalue-F, TypedExpr-F, ChainStep-F, LogicalOperand-F}
use Rattle.c_meaning.specs.declared.expressions.Lvalue.TheFolds as T
use Rattle.c_meaning.specs.TypeRules.{Scope, ExprType, Designated, StepType, type_of, designated_by, lvalue_type_rule, expr_type_rule, step_type_rule, operand_type_rule, combined_type, converted_where}
use Rattle.c_meaning.specs.Rules.{IsTypedExpr, IsTypedLvalue, LvalueFits, ExprFits}
use Rattle.typing_laws.proofs.Parts.{LvalueParts, ExprParts, lvalue-parts, expr-parts, lvalue-beside, expr-beside}

module _ (scope : Scope) where
  abbrev pub NoRule : {A : Type 0} → A → Type 0
  NoRule x = Unit {0}

  abbrev pub IsTypedStep : ChainStep → Type 0
  IsTypedStep = T.every-ChainStep (LvalueFits scope) (ExprFits scope) NoRule NoRule

  abbrev pub IsTypedOperand : LogicalOperand → Type 0
  IsTypedOperand = T.every-LogicalOperand (LvalueFits scope) (ExprFits scope) NoRule NoRule

  abbrev pub PartsOfLvalue : Lvalue-F Lvalue TypedExpr ChainStep LogicalOperand → Type 0
  PartsOfLvalue = LvalueParts (IsTypedLvalue scope) (IsTypedExpr scope) IsTypedStep IsTypedOperand

  abbrev pub PartsOfExpr : TypedExpr-F Lvalue TypedExpr ChainStep LogicalOperand → Type 0
  PartsOfExpr = ExprParts (IsTypedLvalue scope) (IsTypedExpr scope) IsTypedStep IsTypedOperand

  pub typed-lvalue : (x : Lvalue-F Lvalue TypedExpr ChainStep LogicalOperand) → LvalueFits scope x → PartsOfLvalue x → IsTypedLvalue scope (roll-Lvalue x)
  typed-lvalue x fits parts =
      let y = lvalue-beside (IsTypedLvalue scope) (IsTypedExpr scope) IsTypedStep IsTypedOperand x parts in
      T.every_made-Lvalue (LvalueFits scope) (ExprFits scope) NoRule NoRule x y.0 y.1 fits

  pub typed-expr : (x : TypedExpr-F Lvalue TypedExpr ChainStep LogicalOperand) → ExprFits scope x → PartsOfExpr x → IsTypedExpr scope (roll-TypedExpr x)
  typed-expr x fits parts =
      let y = expr-beside (IsTypedLvalue scope) (IsTypedExpr scope) IsTypedStep IsTypedOperand x parts in
      T.every_made-TypedExpr (LvalueFits scope) (ExprFits scope) NoRule NoRule x y.0 y.1 fits

  pub rule-lvalue : (l : Lvalue) → IsTypedLvalue scope l → LvalueFits scope (out-Lvalue l)
  rule-lvalue l h = T.every_here-Lvalue (LvalueFits scope) (ExprFits scope) NoRule NoRule l h

  pub rule-expr : (e : TypedExpr) → IsTypedExpr scope e → ExprFits scope (out-TypedExpr e)
  rule-expr e h = T.every_here-TypedExpr (LvalueFits scope) (ExprFits scope) NoRule NoRule e h

  pub parts-lvalue : (l : Lvalue) → IsTypedLvalue scope l → PartsOfLvalue (out-Lvalue l)
  parts-lvalue l h =
      let y = T.every_held-Lvalue (LvalueFits scope) (ExprFits scope) NoRule NoRule l h in
      subst PartsOfLvalue y.1 (lvalue-parts (IsTypedLvalue scope) (IsTypedExpr scope) IsTypedStep IsTypedOperand y.0)

  pub parts-expr : (e : TypedExpr) → IsTypedExpr scope e → PartsOfExpr (out-TypedExpr e)
  parts-expr e h =
      let y = T.every_held-TypedExpr (LvalueFits scope) (ExprFits scope) NoRule NoRule e h in
      subst PartsOfExpr y.1 (expr-parts (IsTypedLvalue scope) (IsTypedExpr scope) IsTypedStep IsTypedOperand y.0)

  pub right-typed : (s : ChainStep) → IsTypedStep s → IsTypedExpr scope (out-ChainStep s).right
  right-typed s h =
      let y = T.every_held-ChainStep (LvalueFits scope) (ExprFits scope) NoRule NoRule s h in
      subst (λ (z : ChainStep-F Lvalue TypedExpr ChainStep LogicalOperand). IsTypedExpr scope z.right) y.1 y.0.right.1

  pub typed-step : (x : ChainStep-F Lvalue TypedExpr ChainStep LogicalOperand) → IsTypedExpr scope x.right → IsTypedStep (roll-ChainStep x)
  typed-step x h = T.every_made-ChainStep (LvalueFits scope) (ExprFits scope) NoRule NoRule x
      (record { left = x.left; place = x.place; operation = x.operation; right = (x.right, h) }) refl tt

  pub operand-typed : (o : LogicalOperand) → IsTypedOperand o → IsTypedExpr scope (out-LogicalOperand o).operand
  operand-typed o h =
      let y = T.every_held-LogicalOperand (LvalueFits scope) (ExprFits scope) NoRule NoRule o h in
      subst (λ (z : LogicalOperand-F Lvalue TypedExpr ChainStep LogicalOperand). IsTypedExpr scope z.operand) y.1 y.0.operand.1

  pub typed-operand : (x : LogicalOperand-F Lvalue TypedExpr ChainStep LogicalOperand) → IsTypedExpr scope x.operand → IsTypedOperand (roll-LogicalOperand x)
  typed-operand x h = T.every_made-LogicalOperand (LvalueFits scope) (ExprFits scope) NoRule NoRule x
      (record { place = x.place; operand = (x.operand, h) }) refl tt

  -- of a node that is made of its parts
  pub rule-of-lvalue : (x : Lvalue-F Lvalue TypedExpr ChainStep LogicalOperand) → IsTypedLvalue scope (roll-Lvalue x) → LvalueFits scope x
  rule-of-lvalue x h = subst (LvalueFits scope) (out-roll-Lvalue x) (rule-lvalue (roll-Lvalue x) h)

  pub rule-of-expr : (x : TypedExpr-F Lvalue TypedExpr ChainStep LogicalOperand) → IsTypedExpr scope (roll-TypedExpr x) → ExprFits scope x
  rule-of-expr x h = subst (ExprFits scope) (out-roll-TypedExpr x) (rule-expr (roll-TypedExpr x) h)

  pub parts-of-lvalue : (x : Lvalue-F Lvalue TypedExpr ChainStep LogicalOperand) → IsTypedLvalue scope (roll-Lvalue x) → PartsOfLvalue x
  parts-of-lvalue x h = subst PartsOfLvalue (out-roll-Lvalue x) (parts-lvalue (roll-Lvalue x) h)

  pub parts-of-expr : (x : TypedExpr-F Lvalue TypedExpr ChainStep LogicalOperand) → IsTypedExpr scope (roll-TypedExpr x) → PartsOfExpr x
  parts-of-expr x h = subst PartsOfExpr (out-roll-TypedExpr x) (parts-expr (roll-TypedExpr x) h)

  -- ---- types

  abbrev pub step_type : ChainStep → StepType
  step_type = T.fold-ChainStep Designated ExprType StepType ExprType (lvalue_type_rule scope) (expr_type_rule scope) step_type_rule operand_type_rule

  abbrev pub operand_type : LogicalOperand → ExprType
  operand_type = T.fold-LogicalOperand Designated ExprType StepType ExprType (lvalue_type_rule scope) (expr_type_rule scope) step_type_rule operand_type_rule

  abbrev pub types_in_lvalue : Lvalue-F Lvalue TypedExpr ChainStep LogicalOperand → Lvalue-F Designated ExprType StepType ExprType
  types_in_lvalue = T.map-Lvalue Lvalue TypedExpr ChainStep LogicalOperand Designated ExprType StepType ExprType (designated_by scope) (type_of scope) step_type operand_type

  abbrev pub types_in_expr : TypedExpr-F Lvalue TypedExpr ChainStep LogicalOperand → TypedExpr-F Designated ExprType StepType ExprType
  types_in_expr = T.map-TypedExpr Lvalue TypedExpr ChainStep LogicalOperand Designated ExprType StepType ExprType (designated_by scope) (type_of scope) step_type operand_type

  pub type-of-rolled : (x : TypedExpr-F Lvalue TypedExpr ChainStep LogicalOperand) → type_of scope (roll-TypedExpr x) ≡ expr_type_rule scope (types_in_expr x)
  type-of-rolled x = T.fold-roll-TypedExpr Designated ExprType StepType ExprType (lvalue_type_rule scope) (expr_type_rule scope) step_type_rule operand_type_rule x

  pub designated-by-rolled : (x : Lvalue-F Lvalue TypedExpr ChainStep LogicalOperand) → designated_by scope (roll-Lvalue x) ≡ lvalue_type_rule scope (types_in_lvalue x)
  designated-by-rolled x = T.fold-roll-Lvalue Designated ExprType StepType ExprType (lvalue_type_rule scope) (expr_type_rule scope) step_type_rule operand_type_rule x

  -- what a step makes of what stands on its left
  pub step-type-of : (s : ChainStep) → step_type s ≡ (λ (left : ExprType). combined_type (out-ChainStep s).operation (converted_where (out-ChainStep s).left left) (type_of scope (out-ChainStep s).right))
  step-type-of s = T.fold_out-ChainStep Designated ExprType StepType ExprType (lvalue_type_rule scope) (expr_type_rule scope) step_type_rule operand_type_rule s
