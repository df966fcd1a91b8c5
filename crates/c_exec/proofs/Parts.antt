-- What the parts of a node of a typed tree have.
use Rattle.std.proofs.Common.{List, [], ◌∷◌, map}
use Rattle.c_meaning.specs.declared.expressions.TypedExpr.{TypedExpr}
use Rattle.c_meaning.specs.declared.expressions.Lvalue.{Lvalue}
use Rattle.c_meaning.specs.declared.expressions.ChainStep.{ChainStep}
use Rattle.c_meaning.specs.declared.expressions.LogicalOperand.{LogicalOperand}
use Rattle.c_meaning.specs.declared.expressions.Lvalue.TheOpen.{Lvalue-F, TypedExpr-F}
use Rattle.c_meaning.specs.declared.expressions.Lvalue.TheFolds as T

-- each element has it
abbrev pub Each : {A : Type 0} → (A → Type 0) → List A → Type 0
Each P [] = Unit {0}
Each P (x ∷ xs) = P x × Each P xs

pub each-firsts : {A : Type 0} (P : A → Type 0) (ys : List ((x : A) × P x)) → Each P (map (λ y. y.0) ys)
each-firsts P [] = tt
each-firsts P (y ∷ ys) = (y.1, each-firsts P ys)

module _ (PL : Lvalue → Type 0) (PE : TypedExpr → Type 0) (PS : ChainStep → Type 0) (PO : LogicalOperand → Type 0) where
  abbrev pub LvalueParts : Lvalue-F Lvalue TypedExpr ChainStep LogicalOperand → Type 0
  LvalueParts (Lvalue-F.Object place object cells) = Unit {0}
  LvalueParts (Lvalue-F.Indirection place pointer) = PE pointer
  LvalueParts (Lvalue-F.Subscript place pointer t index) = PE pointer × PE index
  LvalueParts (Lvalue-F.Member place of member offset cells) = PL of
  LvalueParts (Lvalue-F.Arrow place pointer member offset cells) = PE pointer

  abbrev pub ExprParts : TypedExpr-F Lvalue TypedExpr ChainStep LogicalOperand → Type 0
  ExprParts (TypedExpr-F.Constant place t w) = Unit {0}
  ExprParts (TypedExpr-F.Load k from) = PL from
  ExprParts (TypedExpr-F.Decay cells count from) = PL from
  ExprParts (TypedExpr-F.Address place of) = PL of
  ExprParts (TypedExpr-F.Converted conversion operand) = PE operand
  ExprParts (TypedExpr-F.Cast place from to operand) = PE operand
  ExprParts (TypedExpr-F.Unary place sign t operand) = PE operand
  ExprParts (TypedExpr-F.Not place k operand) = PE operand
  ExprParts (TypedExpr-F.Chain first steps) = PE first × Each PS steps
  ExprParts (TypedExpr-F.LogicalAnd first rest) = PE first × Each PO rest
  ExprParts (TypedExpr-F.LogicalOr first rest) = PE first × Each PO rest
  ExprParts (TypedExpr-F.Conditional condition place k second third) = PE condition × PE second × PE third
  ExprParts (TypedExpr-F.Call place function k arguments) = Each PE arguments

  abbrev VL : Type 0
  VL = (l : Lvalue) × PL l

  abbrev VE : Type 0
  VE = (e : TypedExpr) × PE e

  abbrev VS : Type 0
  VS = (s : ChainStep) × PS s

  abbrev VO : Type 0
  VO = (o : LogicalOperand) × PO o

  abbrev bare-lvalue : Lvalue-F VL VE VS VO → Lvalue-F Lvalue TypedExpr ChainStep LogicalOperand
  bare-lvalue = T.map-Lvalue VL VE VS VO Lvalue TypedExpr ChainStep LogicalOperand (λ v. v.0) (λ v. v.0) (λ v. v.0) (λ v. v.0)

  abbrev bare-expr : TypedExpr-F VL VE VS VO → TypedExpr-F Lvalue TypedExpr ChainStep LogicalOperand
  bare-expr = T.map-TypedExpr VL VE VS VO Lvalue TypedExpr ChainStep LogicalOperand (λ v. v.0) (λ v. v.0) (λ v. v.0) (λ v. v.0)

  -- parts beside their proofs
  pub lvalue-parts : (y : Lvalue-F VL VE VS VO) → LvalueParts (bare-lvalue y)
  lvalue-parts (Lvalue-F.Object place object cells) = tt
  lvalue-parts (Lvalue-F.Indirection place pointer) = pointer.1
  lvalue-parts (Lvalue-F.Subscript place pointer t index) = (pointer.1, index.1)
  lvalue-parts (Lvalue-F.Member place of member offset cells) = of.1
  lvalue-parts (Lvalue-F.Arrow place pointer member offset cells) = pointer.1

  pub expr-parts : (y : TypedExpr-F VL VE VS VO) → ExprParts (bare-expr y)
  expr-parts (TypedExpr-F.Constant place t w) = tt
  expr-parts (TypedExpr-F.Load k from) = from.1
  expr-parts (TypedExpr-F.Decay cells count from) = from.1
  expr-parts (TypedExpr-F.Address place of) = of.1
  expr-parts (TypedExpr-F.Converted conversion operand) = operand.1
  expr-parts (TypedExpr-F.Cast place from to operand) = operand.1
  expr-parts (TypedExpr-F.Unary place sign t operand) = operand.1
  expr-parts (TypedExpr-F.Not place k operand) = operand.1
  expr-parts (TypedExpr-F.Chain first steps) = (first.1, each-firsts PS steps)
  expr-parts (TypedExpr-F.LogicalAnd first rest) = (first.1, each-firsts PO rest)
  expr-parts (TypedExpr-F.LogicalOr first rest) = (first.1, each-firsts PO rest)
  expr-parts (TypedExpr-F.Conditional condition place k second third) = (condition.1, second.1, third.1)
  expr-parts (TypedExpr-F.Call place function k arguments) = each-firsts PE arguments
