-- Induction over typed trees by what a node's parts have, and rules of nodes as rules of a node and of its parts.
use Rattle.std.proofs.Common.{◌≡◌, List, [], ◌∷◌, map, refl, ap, subst}
use Rattle.c_meaning.specs.declared.expressions.TypedExpr.{TypedExpr}
use Rattle.c_meaning.specs.declared.expressions.Lvalue.{Lvalue}
use Rattle.c_meaning.specs.declared.expressions.ChainStep.{ChainStep}
use Rattle.c_meaning.specs.declared.expressions.LogicalOperand.{LogicalOperand}
use Rattle.c_meaning.specs.declared.expressions.Lvalue.TheViews.{roll-TypedExpr, roll-Lvalue, roll-ChainStep, roll-LogicalOperand}
use Rattle.c_meaning.specs.declared.expressions.Lvalue.TheOpen.{Lvalue-F, TypedExpr-F, ChainStep-F, LogicalOperand-F}
use Rattle.c_meaning.specs.declared.expressions.Lvalue.TheFolds as T

-- each element has it
abbrev pub Each : {A : Type 0} → (A → Type 0) → List A → Type 0
Each P [] = Unit {0}
Each P (x ∷ xs) = P x × Each P xs

pub each-firsts : {A : Type 0} (P : A → Type 0) (ys : List ((x : A) × P x)) → Each P (map (λ y. y.0) ys)
each-firsts P [] = tt
each-firsts P (y ∷ ys) = (y.1, each-firsts P ys)

pub each-pairs : {A : Type 0} (P : A → Type 0) (xs : List A) → Each P xs → (ys : List ((x : A) × P x)) × (map (λ y. y.0) ys ≡ xs)
each-pairs P [] h = ([], refl)
each-pairs P (x ∷ xs) h = let rest = each-pairs P xs h.1 in ((x, h.0) ∷ rest.0, ap (λ zs. x ∷ zs) rest.1)

pub each-with : {A : Type 0} (P Q R : A → Type 0) (xs : List A) → ((x : A) → P x → Q x → R x) → Each P xs → Each Q xs → Each R xs
each-with P Q R [] f p q = tt
each-with P Q R (x ∷ xs) f p q = (f x p.0 q.0, each-with P Q R xs f p.1 q.1)

module _ (PL : Lvalue → Type 0) (PE : TypedExpr → Type 0) (PS : ChainStep → Type 0) (PO : LogicalOperand → Type 0) where
  abbrev pub LvalueParts : Lvalue-F Lvalue TypedExpr ChainStep LogicalOperand → Type 0
  LvalueParts (Lvalue-F.Object place object cells) = Unit {0}
  LvalueParts (Lvalue-F.Indirection place pointer) = PE pointer
  LvalueParts (Lvalue-F.Subscript place pointer t index) = PE pointer × PE index
  LvalueParts (Lvalue-F.Member place of member offset cells) = PL of
  LvalueParts (Lvalue-F.Arrow place pointer member offset cells) = PE pointer

  abbrev pub ExprParts : TypedExpr-F Lvalue TypedExpr ChainStep LogicalOperand → Type 0
  ExprParts (TypedExpr-F.Constant place t w) = Unit {0}
  ExprParts (TypedExpr-F.Load k from) = PL from
  ExprParts (TypedExpr-F.Decay cells count from) = PL from
  ExprParts (TypedExpr-F.Address place of) = PL of
  ExprParts (TypedExpr-F.Converted conversion operand) = PE operand
  ExprParts (TypedExpr-F.Cast place from to operand) = PE operand
  ExprParts (TypedExpr-F.Unary place sign t operand) = PE operand
  ExprParts (TypedExpr-F.Not place k operand) = PE operand
  ExprParts (TypedExpr-F.Chain first steps) = PE first × Each PS steps
  ExprParts (TypedExpr-F.LogicalAnd first rest) = PE first × Each PO rest
  ExprParts (TypedExpr-F.LogicalOr first rest) = PE first × Each PO rest
  ExprParts (TypedExpr-F.Conditional condition place k second third) = PE condition × PE second × PE third
  ExprParts (TypedExpr-F.Call place function k arguments) = Each PE arguments

  abbrev VL : Type 0
  VL = (l : Lvalue) × PL l

  abbrev VE : Type 0
  VE = (e : TypedExpr) × PE e

  abbrev VS : Type 0
  VS = (s : ChainStep) × PS s

  abbrev VO : Type 0
  VO = (o : LogicalOperand) × PO o

  abbrev bare-lvalue : Lvalue-F VL VE VS VO → Lvalue-F Lvalue TypedExpr ChainStep LogicalOperand
  bare-lvalue = T.map-Lvalue VL VE VS VO Lvalue TypedExpr ChainStep LogicalOperand (λ v. v.0) (λ v. v.0) (λ v. v.0) (λ v. v.0)

  abbrev bare-expr : TypedExpr-F VL VE VS VO → TypedExpr-F Lvalue TypedExpr ChainStep LogicalOperand
  bare-expr = T.map-TypedExpr VL VE VS VO Lvalue TypedExpr ChainStep LogicalOperand (λ v. v.0) (λ v. v.0) (λ v. v.0) (λ v. v.0)

  -- parts beside their proofs
  pub lvalue-parts : (y : Lvalue-F VL VE VS VO) → LvalueParts (bare-lvalue y)
  lvalue-parts (Lvalue-F.Object place object cells) = tt
  lvalue-parts (Lvalue-F.Indirection place pointer) = pointer.1
  lvalue-parts (Lvalue-F.Subscript place pointer t index) = (pointer.1, index.1)
  lvalue-parts (Lvalue-F.Member place of member offset cells) = of.1
  lvalue-parts (Lvalue-F.Arrow place pointer member offset cells) = pointer.1

  pub expr-parts : (y : TypedExpr-F VL VE VS VO) → ExprParts (bare-expr y)
  expr-parts (TypedExpr-F.Constant place t w) = tt
  expr-parts (TypedExpr-F.Load k from) = from.1
  expr-parts (TypedExpr-F.Decay cells count from) = from.1
  expr-parts (TypedExpr-F.Address place of) = of.1
  expr-parts (TypedExpr-F.Converted conversion operand) = operand.1
  expr-parts (TypedExpr-F.Cast place from to operand) = operand.1
  expr-parts (TypedExpr-F.Unary place sign t operand) = operand.1
  expr-parts (TypedExpr-F.Not place k operand) = operand.1
  expr-parts (TypedExpr-F.Chain first steps) = (first.1, each-firsts PS steps)
  expr-parts (TypedExpr-F.LogicalAnd first rest) = (first.1, each-firsts PO rest)
  expr-parts (TypedExpr-F.LogicalOr first rest) = (first.1, each-firsts PO rest)
  expr-parts (TypedExpr-F.Conditional condition place k second third) = (condition.1, second.1, third.1)
  expr-parts (TypedExpr-F.Call place function k arguments) = each-firsts PE arguments

  -- and back
  pub lvalue-beside : (x : Lvalue-F Lvalue TypedExpr ChainStep LogicalOperand) → LvalueParts x → (y : Lvalue-F VL VE VS VO) × (bare-lvalue y ≡ x)
  lvalue-beside (Lvalue-F.Object place object cells) h = (Lvalue-F.Object place object cells, refl)
  lvalue-beside (Lvalue-F.Indirection place pointer) h = (Lvalue-F.Indirection place (pointer, h), refl)
  lvalue-beside (Lvalue-F.Subscript place pointer t index) h = (Lvalue-F.Subscript place (pointer, h.0) t (index, h.1), refl)
  lvalue-beside (Lvalue-F.Member place of member offset cells) h = (Lvalue-F.Member place (of, h) member offset cells, refl)
  lvalue-beside (Lvalue-F.Arrow place pointer member offset cells) h = (Lvalue-F.Arrow place (pointer, h) member offset cells, refl)

  pub expr-beside : (x : TypedExpr-F Lvalue TypedExpr ChainStep LogicalOperand) → ExprParts x → (y : TypedExpr-F VL VE VS VO) × (bare-expr y ≡ x)
  expr-beside (TypedExpr-F.Constant place t w) h = (TypedExpr-F.Constant place t w, refl)
  expr-beside (TypedExpr-F.Load k from) h = (TypedExpr-F.Load k (from, h), refl)
  expr-beside (TypedExpr-F.Decay cells count from) h = (TypedExpr-F.Decay cells count (from, h), refl)
  expr-beside (TypedExpr-F.Address place of) h = (TypedExpr-F.Address place (of, h), refl)
  expr-beside (TypedExpr-F.Converted conversion operand) h = (TypedExpr-F.Converted conversion (operand, h), refl)
  expr-beside (TypedExpr-F.Cast place from to operand) h = (TypedExpr-F.Cast place from to (operand, h), refl)
  expr-beside (TypedExpr-F.Unary place sign t operand) h = (TypedExpr-F.Unary place sign t (operand, h), refl)
  expr-beside (TypedExpr-F.Not place k operand) h = (TypedExpr-F.Not place k (operand, h), refl)
  expr-beside (TypedExpr-F.Chain first steps) h =
      let ys = each-pairs PS steps h.1 in (TypedExpr-F.Chain (first, h.0) ys.0, ap (λ (zs : List ChainStep). TypedExpr-F.Chain first zs) ys.1)
  expr-beside (TypedExpr-F.LogicalAnd first rest) h =
      let ys = each-pairs PO rest h.1 in (TypedExpr-F.LogicalAnd (first, h.0) ys.0, ap (λ (zs : List LogicalOperand). TypedExpr-F.LogicalAnd first zs) ys.1)
  expr-beside (TypedExpr-F.LogicalOr first rest) h =
      let ys = each-pairs PO rest h.1 in (TypedExpr-F.LogicalOr (first, h.0) ys.0, ap (λ (zs : List LogicalOperand). TypedExpr-F.LogicalOr first zs) ys.1)
  expr-beside (TypedExpr-F.Conditional condition place k second third) h =
      (TypedExpr-F.Conditional (condition, h.0) place k (second, h.1) (third, h.2), refl)
  expr-beside (TypedExpr-F.Call place function k arguments) h =
      let ys = each-pairs PE arguments h in (TypedExpr-F.Call place function k ys.0, ap (λ (zs : List TypedExpr). TypedExpr-F.Call place function k zs) ys.1)

  abbrev Step-F : Type 0
  Step-F = ChainStep-F Lvalue TypedExpr ChainStep LogicalOperand

  abbrev Operand-F : Type 0
  Operand-F = LogicalOperand-F Lvalue TypedExpr ChainStep LogicalOperand

  -- ---- induction

  module _
      (lvalues : (x : Lvalue-F Lvalue TypedExpr ChainStep LogicalOperand) → LvalueParts x → PL (roll-Lvalue x))
      (exprs : (x : TypedExpr-F Lvalue TypedExpr ChainStep LogicalOperand) → ExprParts x → PE (roll-TypedExpr x))
      (steps : (x : Step-F) → PE x.right → PS (roll-ChainStep x))
      (operands : (x : Operand-F) → PE x.operand → PO (roll-LogicalOperand x)) where
    pub by_expr-parts : (e : TypedExpr) → PE e
    by_expr-parts = T.ind-TypedExpr PL PE PS PO
        (λ x y is. lvalues x (subst LvalueParts is (lvalue-parts y)))
        (λ x y is. exprs x (subst ExprParts is (expr-parts y)))
        (λ x y is. steps x (subst (λ (z : Step-F). PE z.right) is y.right.1))
        (λ x y is. operands x (subst (λ (z : Operand-F). PE z.operand) is y.operand.1))

    pub by_lvalue-parts : (l : Lvalue) → PL l
    by_lvalue-parts = T.ind-Lvalue PL PE PS PO
        (λ x y is. lvalues x (subst LvalueParts is (lvalue-parts y)))
        (λ x y is. exprs x (subst ExprParts is (expr-parts y)))
        (λ x y is. steps x (subst (λ (z : Step-F). PE z.right) is y.right.1))
        (λ x y is. operands x (subst (λ (z : Operand-F). PE z.operand) is y.operand.1))

-- ---- parts that have two things have a third

module _
    (PL QL RL : Lvalue → Type 0) (PE QE RE : TypedExpr → Type 0) (PS QS RS : ChainStep → Type 0) (PO QO RO : LogicalOperand → Type 0)
    (lvalues : (l : Lvalue) → PL l → QL l → RL l)
    (exprs : (e : TypedExpr) → PE e → QE e → RE e)
    (steps : (s : ChainStep) → PS s → QS s → RS s)
    (operands : (o : LogicalOperand) → PO o → QO o → RO o) where
  pub lvalue-parts-with : (x : Lvalue-F Lvalue TypedExpr ChainStep LogicalOperand) → LvalueParts PL PE PS PO x → LvalueParts QL QE QS QO x → LvalueParts RL RE RS RO x
  lvalue-parts-with (Lvalue-F.Object place object cells) p q = tt
  lvalue-parts-with (Lvalue-F.Indirection place pointer) p q = exprs pointer p q
  lvalue-parts-with (Lvalue-F.Subscript place pointer t index) p q = (exprs pointer p.0 q.0, exprs index p.1 q.1)
  lvalue-parts-with (Lvalue-F.Member place of member offset cells) p q = lvalues of p q
  lvalue-parts-with (Lvalue-F.Arrow place pointer member offset cells) p q = exprs pointer p q

  pub expr-parts-with : (x : TypedExpr-F Lvalue TypedExpr ChainStep LogicalOperand) → ExprParts PL PE PS PO x → ExprParts QL QE QS QO x → ExprParts RL RE RS RO x
  expr-parts-with (TypedExpr-F.Constant place t w) p q = tt
  expr-parts-with (TypedExpr-F.Load k from) p q = lvalues from p q
  expr-parts-with (TypedExpr-F.Decay cells count from) p q = lvalues from p q
  expr-parts-with (TypedExpr-F.Address place of) p q = lvalues of p q
  expr-parts-with (TypedExpr-F.Converted conversion operand) p q = exprs operand p q
  expr-parts-with (TypedExpr-F.Cast place from to operand) p q = exprs operand p q
  expr-parts-with (TypedExpr-F.Unary place sign t operand) p q = exprs operand p q
  expr-parts-with (TypedExpr-F.Not place k operand) p q = exprs operand p q
  expr-parts-with (TypedExpr-F.Chain first rest) p q = (exprs first p.0 q.0, each-with PS QS RS rest steps p.1 q.1)
  expr-parts-with (TypedExpr-F.LogicalAnd first rest) p q = (exprs first p.0 q.0, each-with PO QO RO rest operands p.1 q.1)
  expr-parts-with (TypedExpr-F.LogicalOr first rest) p q = (exprs first p.0 q.0, each-with PO QO RO rest operands p.1 q.1)
  expr-parts-with (TypedExpr-F.Conditional condition place k second third) p q = (exprs condition p.0 q.0, exprs second p.1 q.1, exprs third p.2 q.2)
  expr-parts-with (TypedExpr-F.Call place function k arguments) p q = each-with PE QE RE arguments exprs p q
