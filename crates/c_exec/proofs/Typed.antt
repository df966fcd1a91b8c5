-- The rules of a typed expression as the rule of its node and those of its parts, and values that have its type.
use Rattle.std.proofs.Common.{◌≡◌, ℕ, zero, suc, ◌+◌, ◌<◌, ◌≤◌, List, [], ◌∷◌, get_or, length, map, sym, ap, ◌∙◌, subst, arith}
use Rattle.std.specs.List.{All}
use Rattle.hy_bits.specs.declared.scalar.Scalar.{Scalar}
use Rattle.hy_bits.specs.Scalar.{scalar_width}
use Rattle.word_graph.specs.declared.entry.Entry.{Entry}
use Rattle.c_meaning.specs.declared.expressions.TypedExpr.{TypedExpr}
use Rattle.c_meaning.specs.declared.expressions.Lvalue.{Lvalue}
use Rattle.c_meaning.specs.declared.expressions.ChainStep.{ChainStep}
use Rattle.c_meaning.specs.declared.expressions.LogicalOperand.{LogicalOperand}
use Rattle.c_meaning.specs.declared.expressions.Lvalue.TheViews.{out-TypedExpr, out-LogicalOperand, roll-TypedExpr, out-roll-TypedExpr}
use Rattle.c_meaning.specs.declared.expressions.Lvalue.TheOpen.{TypedExpr-F, LogicalOperand-F}
use Rattle.c_meaning.specs.declared.expressions.Lvalue.TheFolds as T
use Rattle.c_meaning.specs.declared.operators.Conversion.{Conversion}
use Rattle.c_meaning.specs.declared.operators.Conversion.TheVariants as conversion
use Rattle.c_meaning.specs.declared.types.CType as X
use Rattle.c_meaning.specs.Constants.{Constant}
use Rattle.c_meaning.specs.TypeRules.{Designated, Scope, StepType, ExprType, of_scalar, converted_type, designated_by, expr_type_rule, lvalue_type_rule, operand_type_rule, step_type_rule, type_of}
use Rattle.c_meaning.specs.Rules.{ConversionFits, ExprFits, IsTypedExpr, IsTypedLvalue, LvalueFits}
use Rattle.exec_values.specs.declared.values.WordValue.{WordValue}
use Rattle.exec_values.specs.Makes.{GivenBy, HasWord, TakenBy}
use Rattle.c_meaning.specs.Expressions.{Eval, Locate, World}
use Rattle.c_meaning.specs.ExpressionFolds.{Step, combines, evaluates, expr_rule, locates, lvalue_rule, operand_evaluates, operand_rule, step_rule}
use Rattle.c_exec.proofs.Parts.{Each, ExprParts, expr-parts}
use Rattle.c_exec.specs.Expressions.{IsTypedOperand, ValueFits}
use Rattle.c_exec.specs.Weights.{total, expr_weight, lvalue_weight, operand_weight, step_weight, lvalue_layer, expr_layer, step_layer, operand_layer}

-- ---- values of types

pub word_of_type : (es : List Entry) (t : Scalar) (type : ExprType) (v : WordValue) → type ≡ of_scalar t → ValueFits es type v → HasWord es (scalar_width t) v
unfolding X.out-CType denote.Hole.Carrier.out
word_of_type es t type v is fits = subst (λ (x : ExprType). ValueFits es x v) is fits

pub taken_of_type : (es : List Entry) (c : Conversion) (type : ExprType) (constant : Constant) (v : WordValue) → ConversionFits c type constant → ValueFits es type v → TakenBy es c v
taken_of_type es (conversion.Integer from to) type constant v is fits = word_of_type es from type v is fits
taken_of_type es conversion.NullPointer type constant v is fits = tt

pub given_type : (es : List Entry) (c : Conversion) (v : WordValue) → GivenBy es c v → ValueFits es (converted_type c) v
unfolding X.out-CType denote.Hole.Carrier.out
given_type es (conversion.Integer from to) v given = given
given_type es conversion.NullPointer v given = given

pub word_fits : (es : List Entry) (t : Scalar) (v : WordValue) → HasWord es (scalar_width t) v → ValueFits es (of_scalar t) v
unfolding X.out-CType denote.Hole.Carrier.out
word_fits es t v has = has

-- ---- parts of trees

each_all : {A : Type 0} (P : A → Type 0) (xs : List A) → Each P xs → All P xs
each_all P [] h = λ k d within. absurd (omega arith)
each_all {A = A} P (x ∷ xs) h = by_place (each_all P xs h.1)
  where
    by_place : All P xs → (k : ℕ) (d : A) → k < length (x ∷ xs) → P (get_or (x ∷ xs) k d)
    by_place more zero d within = h.0
    by_place more (suc k) d within = more k d (omega arith)

module _ (scope : Scope) where
  abbrev NoRule : {A : Type 0} → A → Type 0
  NoRule x = Unit {0}

  pub operand-typed : (o : LogicalOperand) → IsTypedOperand scope o → IsTypedExpr scope (out-LogicalOperand o).operand
  operand-typed o h =
      let y = T.every_held-LogicalOperand (LvalueFits scope) (ExprFits scope) NoRule NoRule o h in
      subst (λ (z : LogicalOperand-F Lvalue TypedExpr ChainStep LogicalOperand). IsTypedExpr scope z.operand) y.1 y.0.operand.1

  abbrev IsTypedStep : ChainStep → Type 0
  IsTypedStep = T.every-ChainStep (LvalueFits scope) (ExprFits scope) NoRule NoRule

  abbrev pub PartsOfExpr : TypedExpr-F Lvalue TypedExpr ChainStep LogicalOperand → Type 0
  PartsOfExpr = ExprParts (IsTypedLvalue scope) (IsTypedExpr scope) IsTypedStep (IsTypedOperand scope)

  abbrev step_type : ChainStep → StepType
  step_type = T.fold-ChainStep Designated ExprType StepType ExprType (lvalue_type_rule scope) (expr_type_rule scope) step_type_rule operand_type_rule

  abbrev operand_type : LogicalOperand → ExprType
  operand_type = T.fold-LogicalOperand Designated ExprType StepType ExprType (lvalue_type_rule scope) (expr_type_rule scope) step_type_rule operand_type_rule

  -- an expression that is a node
  module _ (x : TypedExpr-F Lvalue TypedExpr ChainStep LogicalOperand) (e : TypedExpr) (is : e ≡ roll-TypedExpr x) where
    pub rule-at : IsTypedExpr scope e → ExprFits scope x
    rule-at h = subst (ExprFits scope) (ap out-TypedExpr is ∙ out-roll-TypedExpr x) (T.every_here-TypedExpr (LvalueFits scope) (ExprFits scope) NoRule NoRule e h)

    pub parts-at : IsTypedExpr scope e → PartsOfExpr x
    parts-at h =
        let y = T.every_held-TypedExpr (LvalueFits scope) (ExprFits scope) NoRule NoRule e h in
        subst PartsOfExpr (y.1 ∙ ap out-TypedExpr is ∙ out-roll-TypedExpr x) (expr-parts (IsTypedLvalue scope) (IsTypedExpr scope) IsTypedStep (IsTypedOperand scope) y.0)

    pub type-at : type_of scope e ≡ expr_type_rule scope (T.map-TypedExpr Lvalue TypedExpr ChainStep LogicalOperand Designated ExprType StepType ExprType (designated_by scope) (type_of scope) step_type operand_type x)
    type-at = ap (type_of scope) is ∙ T.fold-roll-TypedExpr Designated ExprType StepType ExprType (lvalue_type_rule scope) (expr_type_rule scope) step_type_rule operand_type_rule x

pub weight-at : (x : TypedExpr-F Lvalue TypedExpr ChainStep LogicalOperand) (e : TypedExpr) → e ≡ roll-TypedExpr x →
    expr_weight e ≡ expr_layer (T.map-TypedExpr Lvalue TypedExpr ChainStep LogicalOperand ℕ ℕ ℕ ℕ lvalue_weight expr_weight step_weight operand_weight x)
weight-at x e is = ap expr_weight is ∙ T.fold-roll-TypedExpr ℕ ℕ ℕ ℕ lvalue_layer expr_layer step_layer operand_layer x

pub means-at : (world : World) (x : TypedExpr-F Lvalue TypedExpr ChainStep LogicalOperand) (e : TypedExpr) → e ≡ roll-TypedExpr x →
    evaluates world e ≡ expr_rule world (T.map-TypedExpr Lvalue TypedExpr ChainStep LogicalOperand Locate Eval Step Eval (locates world) (evaluates world) (combines world) (operand_evaluates world) x)
means-at world x e is = ap (evaluates world) is ∙ T.fold-roll-TypedExpr Locate Eval Step Eval (lvalue_rule world) (expr_rule world) step_rule operand_rule x

pub operand_means : (world : World) (o : LogicalOperand) → operand_evaluates world o ≡ evaluates world (out-LogicalOperand o).operand
operand_means world o = T.fold_out-LogicalOperand Locate Eval Step Eval (lvalue_rule world) (expr_rule world) step_rule operand_rule o

pub operands_typed : (scope : Scope) (rest : List LogicalOperand) → Each (IsTypedOperand scope) rest → All (IsTypedOperand scope) rest
operands_typed scope rest h = each_all (IsTypedOperand scope) rest h

-- ---- how much trees weigh

pub operand_weighs : (o : LogicalOperand) → operand_weight o ≡ 4 + expr_weight (out-LogicalOperand o).operand
operand_weighs o = T.fold_out-LogicalOperand ℕ ℕ ℕ ℕ lvalue_layer expr_layer step_layer operand_layer o

weighs_at : {A : Type 0} (f : A → ℕ) (xs : List A) (i : ℕ) (d : A) → i < length xs → f (get_or xs i d) ≤ total (map f xs)
weighs_at f [] i d h = absurd (omega arith)
weighs_at f (x ∷ xs) zero d h = omega arith
weighs_at f (x ∷ xs) (suc i) d h = let below : f (get_or xs i d) ≤ total (map f xs) = weighs_at f xs i d (omega arith) in omega arith

-- an element weighs no more than the list
pub weighs : {A : Type 0} (f : A → ℕ) (xs : List A) (i : ℕ) (x : A) → i < length xs → x ≡ get_or xs i x → f x ≤ total (map f xs)
weighs f xs i x h is = let P : ℕ → Type 0 = λ n. n ≤ total (map f xs) in subst P (ap f (sym is)) (weighs_at f xs i x h)
