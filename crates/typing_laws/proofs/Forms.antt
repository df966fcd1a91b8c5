-- Operands that stand on the left of an operator, with one more, by the form of what stands there; choices and calls.
use Rattle.std.proofs.Common.{◌≡◌, ℕ, true, Some, List, [], ◌∷◌, ◌++◌, slice_get, ap, sym, subst, ◌∙◌, refl}
use Rattle.hy_bits.specs.declared.scalar.Scalar.{Scalar}
use Rattle.hy_bits.specs.declared.scalar.Scalar.TheVariants.{S32}
use Rattle.c_tree.specs.declared.token.Place.{Place}
use Rattle.c_meaning.specs.declared.types.CType.TheVariants as ctype
use Rattle.c_meaning.specs.declared.types.ValueKind.TheVariants as kind
use Rattle.c_meaning.specs.declared.programs.TypedFunction.{TypedFunction}
use Rattle.c_meaning.specs.declared.expressions.TypedExpr.{TypedExpr}
use Rattle.c_meaning.specs.declared.expressions.TypedExpr.TheVariants as expr
use Rattle.c_meaning.specs.declared.expressions.Lvalue.{Lvalue}
use Rattle.c_meaning.specs.declared.expressions.ChainStep.{ChainStep}
use Rattle.c_meaning.specs.declared.expressions.LogicalOperand.{LogicalOperand}
use Rattle.c_meaning.specs.declared.expressions.Lvalue.TheOpen.{TypedExpr-F}
use Rattle.c_meaning.specs.declared.expressions.Lvalue.TheViews.{out-TypedExpr, roll-TypedExpr, roll-out-TypedExpr, out-ChainStep, out-LogicalOperand}
use Rattle.c_meaning.specs.Constants.{constant_of}
use Rattle.c_meaning.specs.Types.{kind_of}
use Rattle.c_meaning.specs.TypeRules.{Scope, ExprType, Typed, of_scalar, type_of, pointee, converted_where, chosen_type, layer_with, returned_type}
use Rattle.c_meaning.specs.Rules.{IsTypedExpr, LeftFits, OperationFits, IsCondition, ArePointersAlike, ArgumentsFit, is_scalar_kind, kind_of_type}
use Rattle.c_typing.specs.declared.chains.Form.{Form}
use Rattle.c_typing.specs.declared.chains.Form.TheVariants as form
use Rattle.c_typing.specs.Expressions.{chain, conjunction, disjunction}
use Rattle.typing_laws.specs.Values.{HasType}
use Rattle.typing_laws.proofs.Parts.{Each}
use Rattle.typing_laws.proofs.Rules.{IsTypedStep, IsTypedOperand}
use Rattle.typing_laws.proofs.Making.{made-expr}
use Rattle.typing_laws.proofs.Chains.{stepped, chain-begun, chain-grown, or-begun, or-grown, and-begun, and-grown}

module _ (scope : Scope) where
  is-made : (e : TypedExpr) (y : TypedExpr-F Lvalue TypedExpr ChainStep LogicalOperand) (made : TypedExpr) → out-TypedExpr e ≡ y → roll-TypedExpr y ≡ made → e ≡ made
  is-made e y made is rolls = sym (roll-out-TypedExpr e) ∙ ap roll-TypedExpr is ∙ rolls

  module _ (left : TypedExpr) (s : ChainStep) (t : ExprType) (h : HasType scope left t) (step : IsTypedStep scope s)
      (l : LeftFits (out-ChainStep s).left t (constant_of left))
      (o : OperationFits (out-ChainStep s).operation (converted_where (out-ChainStep s).left t) (type_of scope (out-ChainStep s).right)) where
    begun : HasType scope (expr.Chain left (s ∷ [])) (stepped scope s t)
    begun = chain-begun scope left s t h step l o

    grown : (first : TypedExpr) (ss : List ChainStep) → left ≡ expr.Chain first ss → HasType scope (expr.Chain first (ss ++ s ∷ [])) (stepped scope s t)
    grown first ss is =
        chain-grown scope first ss s t (subst (λ (e : TypedExpr). HasType scope e t) is h) step
        (subst (λ (e : TypedExpr). LeftFits (out-ChainStep s).left t (constant_of e)) is l) o

    chain-in : (f : Form) (y : TypedExpr-F Lvalue TypedExpr ChainStep LogicalOperand) → out-TypedExpr left ≡ y → HasType scope (chain f left s y) (stepped scope s t)
    chain-in form.Operand y e = begun
    chain-in form.Conjunction y e = begun
    chain-in form.Disjunction y e = begun
    chain-in form.Chain (TypedExpr-F.Constant place t w) e = begun
    chain-in form.Chain (TypedExpr-F.Load k from) e = begun
    chain-in form.Chain (TypedExpr-F.Decay cells count from) e = begun
    chain-in form.Chain (TypedExpr-F.Address place of) e = begun
    chain-in form.Chain (TypedExpr-F.Converted conversion operand) e = begun
    chain-in form.Chain (TypedExpr-F.Cast place from to operand) e = begun
    chain-in form.Chain (TypedExpr-F.Unary place sign t operand) e = begun
    chain-in form.Chain (TypedExpr-F.Not place k operand) e = begun
    chain-in form.Chain (TypedExpr-F.Chain first steps) e = grown first steps (is-made left (TypedExpr-F.Chain first steps) (expr.Chain first steps) e (expr.rolls-Chain first steps))
    chain-in form.Chain (TypedExpr-F.LogicalAnd first rest) e = begun
    chain-in form.Chain (TypedExpr-F.LogicalOr first rest) e = begun
    chain-in form.Chain (TypedExpr-F.Conditional condition place k second third) e = begun
    chain-in form.Chain (TypedExpr-F.Call place function k arguments) e = begun

    pub chain-typed : (f : Form) → HasType scope (chain f left s (out-TypedExpr left)) (stepped scope s t)
    chain-typed f = chain-in f (out-TypedExpr left) refl

  module _ (left : TypedExpr) (o : LogicalOperand) (h : IsTypedExpr scope left) (c : IsCondition scope left) (typed : IsTypedOperand scope o) (d : IsCondition scope (out-LogicalOperand o).operand) where
    disjunction-in : (f : Form) (y : TypedExpr-F Lvalue TypedExpr ChainStep LogicalOperand) → out-TypedExpr left ≡ y → HasType scope (disjunction f left o y) (of_scalar S32)
    disjunction-in form.Operand y e = or-begun scope left o h c typed d
    disjunction-in form.Conjunction y e = or-begun scope left o h c typed d
    disjunction-in form.Chain y e = or-begun scope left o h c typed d
    disjunction-in form.Disjunction (TypedExpr-F.Constant place t w) e = or-begun scope left o h c typed d
    disjunction-in form.Disjunction (TypedExpr-F.Load k from) e = or-begun scope left o h c typed d
    disjunction-in form.Disjunction (TypedExpr-F.Decay cells count from) e = or-begun scope left o h c typed d
    disjunction-in form.Disjunction (TypedExpr-F.Address place of) e = or-begun scope left o h c typed d
    disjunction-in form.Disjunction (TypedExpr-F.Converted conversion operand) e = or-begun scope left o h c typed d
    disjunction-in form.Disjunction (TypedExpr-F.Cast place from to operand) e = or-begun scope left o h c typed d
    disjunction-in form.Disjunction (TypedExpr-F.Unary place sign t operand) e = or-begun scope left o h c typed d
    disjunction-in form.Disjunction (TypedExpr-F.Not place k operand) e = or-begun scope left o h c typed d
    disjunction-in form.Disjunction (TypedExpr-F.Chain first steps) e = or-begun scope left o h c typed d
    disjunction-in form.Disjunction (TypedExpr-F.LogicalAnd first rest) e = or-begun scope left o h c typed d
    disjunction-in form.Disjunction (TypedExpr-F.LogicalOr first rest) e =
        or-grown scope first rest o (subst (IsTypedExpr scope) (is-made left (TypedExpr-F.LogicalOr first rest) (expr.LogicalOr first rest) e (expr.rolls-LogicalOr first rest)) h) typed d
    disjunction-in form.Disjunction (TypedExpr-F.Conditional condition place k second third) e = or-begun scope left o h c typed d
    disjunction-in form.Disjunction (TypedExpr-F.Call place function k arguments) e = or-begun scope left o h c typed d

    pub disjunction-typed : (f : Form) → HasType scope (disjunction f left o (out-TypedExpr left)) (of_scalar S32)
    disjunction-typed f = disjunction-in f (out-TypedExpr left) refl

    conjunction-in : (f : Form) (y : TypedExpr-F Lvalue TypedExpr ChainStep LogicalOperand) → out-TypedExpr left ≡ y → HasType scope (conjunction f left o y) (of_scalar S32)
    conjunction-in form.Operand y e = and-begun scope left o h c typed d
    conjunction-in form.Disjunction y e = and-begun scope left o h c typed d
    conjunction-in form.Chain y e = and-begun scope left o h c typed d
    conjunction-in form.Conjunction (TypedExpr-F.Constant place t w) e = and-begun scope left o h c typed d
    conjunction-in form.Conjunction (TypedExpr-F.Load k from) e = and-begun scope left o h c typed d
    conjunction-in form.Conjunction (TypedExpr-F.Decay cells count from) e = and-begun scope left o h c typed d
    conjunction-in form.Conjunction (TypedExpr-F.Address place of) e = and-begun scope left o h c typed d
    conjunction-in form.Conjunction (TypedExpr-F.Converted conversion operand) e = and-begun scope left o h c typed d
    conjunction-in form.Conjunction (TypedExpr-F.Cast place from to operand) e = and-begun scope left o h c typed d
    conjunction-in form.Conjunction (TypedExpr-F.Unary place sign t operand) e = and-begun scope left o h c typed d
    conjunction-in form.Conjunction (TypedExpr-F.Not place k operand) e = and-begun scope left o h c typed d
    conjunction-in form.Conjunction (TypedExpr-F.Chain first steps) e = and-begun scope left o h c typed d
    conjunction-in form.Conjunction (TypedExpr-F.LogicalAnd first rest) e =
        and-grown scope first rest o (subst (IsTypedExpr scope) (is-made left (TypedExpr-F.LogicalAnd first rest) (expr.LogicalAnd first rest) e (expr.rolls-LogicalAnd first rest)) h) typed d
    conjunction-in form.Conjunction (TypedExpr-F.LogicalOr first rest) e = and-begun scope left o h c typed d
    conjunction-in form.Conjunction (TypedExpr-F.Conditional condition place k second third) e = and-begun scope left o h c typed d
    conjunction-in form.Conjunction (TypedExpr-F.Call place function k arguments) e = and-begun scope left o h c typed d

    pub conjunction-typed : (f : Form) → HasType scope (conjunction f left o (out-TypedExpr left)) (of_scalar S32)
    conjunction-typed f = conjunction-in f (out-TypedExpr left) refl

  -- ---- "?:" (C11 6.5.15)

  condition-of : (e : TypedExpr) (t : ExprType) → HasType scope e t → is_scalar_kind (kind_of_type t) ≡ true → IsCondition scope e
  condition-of e t h scalar = ap (λ (u : ExprType). is_scalar_kind (kind_of_type u)) h.1 ∙ scalar

  pub integers-chosen : (condition : TypedExpr) (place : Place) (second third : TypedExpr) (t : ExprType) (u : Scalar) → HasType scope condition t → is_scalar_kind (kind_of_type t) ≡ true
      → HasType scope second (of_scalar u) → HasType scope third (of_scalar u) → HasType scope (expr.Conditional condition place (kind.Integer u) second third) (of_scalar u)
  integers-chosen condition place second third t u h scalar a b =
      made-expr scope (TypedExpr-F.Conditional condition place (kind.Integer u) second third) (expr.Conditional condition place (kind.Integer u) second third) (of_scalar u)
      (expr.rolls-Conditional condition place (kind.Integer u) second third) (condition-of condition t h scalar, (a.1, b.1)) (h.0, a.0, b.0)
      (ap (λ (x : ExprType). chosen_type x (type_of scope third)) a.1 ∙ ap (layer_with (pointee (type_of scope third)).qualifier (ctype.Int u)) (ctype.outs-Int u))

  pub pointers-chosen : (condition : TypedExpr) (place : Place) (second third : TypedExpr) (t u v : ExprType) → HasType scope condition t → is_scalar_kind (kind_of_type t) ≡ true
      → HasType scope second u → HasType scope third v → ArePointersAlike u v → HasType scope (expr.Conditional condition place kind.Pointer second third) (chosen_type u v)
  pointers-chosen condition place second third t u v h scalar a b alike =
      made-expr scope (TypedExpr-F.Conditional condition place kind.Pointer second third) (expr.Conditional condition place kind.Pointer second third) (chosen_type u v)
      (expr.rolls-Conditional condition place kind.Pointer second third)
      (condition-of condition t h scalar, subst (λ (x : ExprType). ArePointersAlike x (type_of scope third)) (sym a.1) (subst (λ (x : ExprType). ArePointersAlike u x) (sym b.1) alike)) (h.0, a.0, b.0)
      (ap (λ (x : ExprType). chosen_type x (type_of scope third)) a.1 ∙ ap (chosen_type u) b.1)

  -- ---- calls (C11 6.5.2.2p2)

  pub call-typed : (place : Place) (k : ℕ) (f : TypedFunction) (arguments : List TypedExpr) → slice_get scope.functions k ≡ Some f → ArgumentsFit scope f.params arguments → Each (IsTypedExpr scope) arguments
      → HasType scope (expr.Call place k (kind_of f.result) arguments) (Typed f.result)
  call-typed place k f arguments found fit typed =
      made-expr scope (TypedExpr-F.Call place k (kind_of f.result) arguments) (expr.Call place k (kind_of f.result) arguments) (Typed f.result)
      (expr.rolls-Call place k (kind_of f.result) arguments) (f, found, refl, fit) typed (ap returned_type found)
