-- Chains of operators, and of "&&" and "||", that grow at their end (C11 6.5.5 to 6.5.14).
use Rattle.std.proofs.Common.{◌≡◌, ◌≢◌, ℕ, Option, None, List, [], ◌∷◌, ◌++◌, map, ap, sym, subst, ◌∙◌, refl}
use Rattle.hy_bits.specs.declared.scalar.Scalar.TheVariants.{S32}
use Rattle.c_meaning.specs.declared.expressions.TypedExpr.{TypedExpr}
use Rattle.c_meaning.specs.declared.expressions.TypedExpr.TheVariants as expr
use Rattle.c_meaning.specs.declared.expressions.ChainStep.{ChainStep}
use Rattle.c_meaning.specs.declared.expressions.LogicalOperand.{LogicalOperand}
use Rattle.c_meaning.specs.declared.expressions.Lvalue.TheOpen.{TypedExpr-F}
use Rattle.c_meaning.specs.declared.expressions.Lvalue.TheViews.{out-ChainStep, out-LogicalOperand}
use Rattle.c_meaning.specs.declared.expressions.Lvalue.TheFolds.{fold-roll-TypedExpr}
use Rattle.c_meaning.specs.Constants.{Constant, StepConstant, constant_of, lvalue_name_rule, constant_rule, step_constant_rule, operand_constant_rule}
use Rattle.c_meaning.specs.TypeRules.{Scope, ExprType, StepType, of_scalar, type_of, combined_type, converted_where, along_types}
use Rattle.c_meaning.specs.Rules.{IsTypedExpr, ExprFits, StepsFit, LeftFits, OperationFits, IsCondition, OperandsAreConditions}
use Rattle.typing_laws.specs.Values.{HasType}
use Rattle.typing_laws.proofs.Parts.{Each}
use Rattle.typing_laws.proofs.Rules.{IsTypedStep, IsTypedOperand, PartsOfExpr, step_type, step-type-of, type-of-rolled, rule-expr, parts-expr}
use Rattle.typing_laws.proofs.Making.{made-expr}

append-nil : {A : Type 0} (xs : List A) → xs ++ [] ≡ xs
append-nil [] = refl
append-nil (x ∷ xs) = ap (λ ys. x ∷ ys) (append-nil xs)

append-more : {A : Type 0} (xs : List A) (y : A) (zs : List A) → (xs ++ y ∷ []) ++ zs ≡ xs ++ y ∷ zs
append-more [] y zs = refl
append-more (x ∷ xs) y zs = ap (λ ys. x ∷ ys) (append-more xs y zs)

some-append : {A : Type 0} (xs : List A) (y : A) → (xs ++ y ∷ []) ≢ []
some-append [] y = λ e. absurd (cc)
some-append (x ∷ xs) y = λ e. absurd (cc)

each-append : {A : Type 0} (P : A → Type 0) (xs : List A) (y : A) → Each P xs → P y → Each P (xs ++ y ∷ [])
each-append P [] y h p = (p, tt)
each-append P (x ∷ xs) y h p = (h.0, each-append P xs y h.1 p)

along-append : (f : ChainStep → StepType) (ss : List ChainStep) (s : ChainStep) (left : ExprType) → along_types (map f (ss ++ s ∷ [])) left ≡ f s (along_types (map f ss) left)
along-append f [] s left = refl
along-append f (x ∷ ss) s left = along-append f ss s (f x left)

-- a chain without a step is its operand
pub constant-alone : (first : TypedExpr) → constant_of (expr.Chain first []) ≡ constant_of first
constant-alone first =
    ap constant_of (sym (expr.rolls-Chain first []))
    ∙ fold-roll-TypedExpr (Option ℕ) Constant StepConstant Constant lvalue_name_rule (constant_rule (λ k. None)) step_constant_rule operand_constant_rule (TypedExpr-F.Chain first [])

module _ (scope : Scope) where
  steps-more : (first : TypedExpr) (before ss : List ChainStep) (s : ChainStep) (left at : ExprType) (c : Constant)
      → along_types (map (step_type scope) ss) left ≡ at
      → constant_of (expr.Chain first (before ++ ss)) ≡ c
      → LeftFits (out-ChainStep s).left at c
      → OperationFits (out-ChainStep s).operation (converted_where (out-ChainStep s).left at) (type_of scope (out-ChainStep s).right)
      → StepsFit scope first before ss left → StepsFit scope first before (ss ++ s ∷ []) left
  steps-more first before [] s left at c is constant l o f =
      let word : c ≡ constant_of (expr.Chain first before) = sym constant ∙ ap (λ (xs : List ChainStep). constant_of (expr.Chain first xs)) (append-nil before) in (
        subst (λ (w : Constant). LeftFits (out-ChainStep s).left left w) word (subst (λ (t : ExprType). LeftFits (out-ChainStep s).left t c) (sym is) l),
        subst (λ (t : ExprType). OperationFits (out-ChainStep s).operation (converted_where (out-ChainStep s).left t) (type_of scope (out-ChainStep s).right)) (sym is) o,
        tt,
      )
  steps-more first before (x ∷ ss) s left at c is constant l o f =
      let next = combined_type (out-ChainStep x).operation (converted_where (out-ChainStep x).left left) (type_of scope (out-ChainStep x).right) in
      let same : step_type scope x left ≡ next = ap (λ (g : StepType). g left) (step-type-of scope x) in (
        f.0,
        f.1,
        steps-more first (before ++ x ∷ []) ss s next at c
            (ap (λ (t : ExprType). along_types (map (step_type scope) ss) t) (sym same) ∙ is)
            (ap (λ (xs : List ChainStep). constant_of (expr.Chain first xs)) (append-more before x ss) ∙ constant) l o f.2,
      )

  type-of-chain : (first : TypedExpr) (ss : List ChainStep) → type_of scope (expr.Chain first ss) ≡ along_types (map (step_type scope) ss) (type_of scope first)
  type-of-chain first ss = ap (type_of scope) (sym (expr.rolls-Chain first ss)) ∙ type-of-rolled scope (TypedExpr-F.Chain first ss)

  -- what a step makes of what stands on its left
  abbrev pub stepped : ChainStep → ExprType → ExprType
  stepped s t = combined_type (out-ChainStep s).operation (converted_where (out-ChainStep s).left t) (type_of scope (out-ChainStep s).right)

  chain-with : (first : TypedExpr) (ss : List ChainStep) (s : ChainStep) (t : ExprType)
      → along_types (map (step_type scope) ss) (type_of scope first) ≡ t → IsTypedExpr scope first → Each (IsTypedStep scope) ss → IsTypedStep scope s
      → StepsFit scope first [] (ss ++ s ∷ []) (type_of scope first)
      → HasType scope (expr.Chain first (ss ++ s ∷ [])) (stepped s t)
  chain-with first ss s t is h steps step fit =
      made-expr scope (TypedExpr-F.Chain first (ss ++ s ∷ [])) (expr.Chain first (ss ++ s ∷ [])) (stepped s t) (expr.rolls-Chain first (ss ++ s ∷ []))
      (some-append ss s, fit) (h, each-append (IsTypedStep scope) ss s steps step)
      (along-append (step_type scope) ss s (type_of scope first) ∙ ap (step_type scope s) is ∙ ap (λ (g : StepType). g t) (step-type-of scope s))

  -- the first step
  pub chain-begun : (first : TypedExpr) (s : ChainStep) (t : ExprType) → HasType scope first t → IsTypedStep scope s
      → LeftFits (out-ChainStep s).left t (constant_of first)
      → OperationFits (out-ChainStep s).operation (converted_where (out-ChainStep s).left t) (type_of scope (out-ChainStep s).right)
      → HasType scope (expr.Chain first (s ∷ [])) (stepped s t)
  chain-begun first s t h step l o =
      chain-with first [] s t h.1 h.0 tt step (steps-more first [] [] s (type_of scope first) t (constant_of first) h.1 (constant-alone first) l o tt)

  -- one more
  pub chain-grown : (first : TypedExpr) (ss : List ChainStep) (s : ChainStep) (t : ExprType) → HasType scope (expr.Chain first ss) t → IsTypedStep scope s
      → LeftFits (out-ChainStep s).left t (constant_of (expr.Chain first ss))
      → OperationFits (out-ChainStep s).operation (converted_where (out-ChainStep s).left t) (type_of scope (out-ChainStep s).right)
      → HasType scope (expr.Chain first (ss ++ s ∷ [])) (stepped s t)
  chain-grown first ss s t h step l o =
      let fits = subst (ExprFits scope) (expr.outs-Chain first ss) (rule-expr scope (expr.Chain first ss) h.0) in
      let parts = subst (PartsOfExpr scope) (expr.outs-Chain first ss) (parts-expr scope (expr.Chain first ss) h.0) in
      let is = sym (type-of-chain first ss) ∙ h.1 in
      chain-with first ss s t is parts.0 parts.1 step (steps-more first [] ss s (type_of scope first) t (constant_of (expr.Chain first ss)) is refl l o fits.1)

  -- ---- "&&" and "||" (C11 6.5.13, 6.5.14)

  conditions-more : (os : List LogicalOperand) (o : LogicalOperand) → OperandsAreConditions scope os → IsCondition scope (out-LogicalOperand o).operand → OperandsAreConditions scope (os ++ o ∷ [])
  conditions-more [] o h c = (c, tt)
  conditions-more (x ∷ os) o h c = (h.0, conditions-more os o h.1 c)

  pub or-begun : (first : TypedExpr) (o : LogicalOperand) → IsTypedExpr scope first → IsCondition scope first → IsTypedOperand scope o → IsCondition scope (out-LogicalOperand o).operand
      → HasType scope (expr.LogicalOr first (o ∷ [])) (of_scalar S32)
  or-begun first o h c typed d =
      made-expr scope (TypedExpr-F.LogicalOr first (o ∷ [])) (expr.LogicalOr first (o ∷ [])) (of_scalar S32) (expr.rolls-LogicalOr first (o ∷ []))
      (some-append [] o, c, (d, tt)) (h, (typed, tt)) refl

  pub and-begun : (first : TypedExpr) (o : LogicalOperand) → IsTypedExpr scope first → IsCondition scope first → IsTypedOperand scope o → IsCondition scope (out-LogicalOperand o).operand
      → HasType scope (expr.LogicalAnd first (o ∷ [])) (of_scalar S32)
  and-begun first o h c typed d =
      made-expr scope (TypedExpr-F.LogicalAnd first (o ∷ [])) (expr.LogicalAnd first (o ∷ [])) (of_scalar S32) (expr.rolls-LogicalAnd first (o ∷ []))
      (some-append [] o, c, (d, tt)) (h, (typed, tt)) refl

  pub or-grown : (first : TypedExpr) (os : List LogicalOperand) (o : LogicalOperand) → IsTypedExpr scope (expr.LogicalOr first os) → IsTypedOperand scope o → IsCondition scope (out-LogicalOperand o).operand
      → HasType scope (expr.LogicalOr first (os ++ o ∷ [])) (of_scalar S32)
  or-grown first os o h typed d =
      let fits = subst (ExprFits scope) (expr.outs-LogicalOr first os) (rule-expr scope (expr.LogicalOr first os) h) in
      let parts = subst (PartsOfExpr scope) (expr.outs-LogicalOr first os) (parts-expr scope (expr.LogicalOr first os) h) in
      made-expr scope (TypedExpr-F.LogicalOr first (os ++ o ∷ [])) (expr.LogicalOr first (os ++ o ∷ [])) (of_scalar S32) (expr.rolls-LogicalOr first (os ++ o ∷ []))
      (some-append os o, fits.1, conditions-more os o fits.2 d) (parts.0, each-append (IsTypedOperand scope) os o parts.1 typed) refl

  pub and-grown : (first : TypedExpr) (os : List LogicalOperand) (o : LogicalOperand) → IsTypedExpr scope (expr.LogicalAnd first os) → IsTypedOperand scope o → IsCondition scope (out-LogicalOperand o).operand
      → HasType scope (expr.LogicalAnd first (os ++ o ∷ [])) (of_scalar S32)
  and-grown first os o h typed d =
      let fits = subst (ExprFits scope) (expr.outs-LogicalAnd first os) (rule-expr scope (expr.LogicalAnd first os) h) in
      let parts = subst (PartsOfExpr scope) (expr.outs-LogicalAnd first os) (parts-expr scope (expr.LogicalAnd first os) h) in
      made-expr scope (TypedExpr-F.LogicalAnd first (os ++ o ∷ [])) (expr.LogicalAnd first (os ++ o ∷ [])) (of_scalar S32) (expr.rolls-LogicalAnd first (os ++ o ∷ []))
      (some-append os o, fits.1, conditions-more os o fits.2 d) (parts.0, each-append (IsTypedOperand scope) os o parts.1 typed) refl
