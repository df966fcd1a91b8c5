-- What is typed in a scope is typed, with the same type, in a scope that grows from it, and its type is of structs that stand.
use Rattle.std.proofs.Common.{◌≡◌, ℕ, ◌++◌, true, Option, Some, List, [], ◌∷◌, map, length, slice_get, IsSome, ap, sym, subst, ◌∙◌, refl}
use Rattle.hy_bits.specs.declared.scalar.Scalar.TheVariants.{S32}
use Rattle.c_meaning.specs.declared.types.CType.{CType, out-CType}
use Rattle.c_meaning.specs.declared.types.CType.TheVariants as ctype
use Rattle.c_meaning.specs.declared.types.Object.{Object}
use Rattle.c_meaning.specs.declared.types.Member.{Member}
use Rattle.c_meaning.specs.declared.types.ValueKind.{ValueKind}
use Rattle.c_meaning.specs.declared.types.ValueKind.TheVariants as kind
use Rattle.c_meaning.specs.declared.operators.Conversion.TheVariants as conversion
use Rattle.c_meaning.specs.declared.programs.TypedFunction.{TypedFunction}
use Rattle.c_meaning.specs.declared.expressions.TypedExpr.{TypedExpr}
use Rattle.c_meaning.specs.declared.expressions.Lvalue.{Lvalue}
use Rattle.c_meaning.specs.declared.expressions.ChainStep.{ChainStep}
use Rattle.c_meaning.specs.declared.expressions.LogicalOperand.{LogicalOperand}
use Rattle.c_meaning.specs.declared.expressions.Lvalue.TheOpen.{Lvalue-F, TypedExpr-F, ChainStep-F, LogicalOperand-F}
use Rattle.c_meaning.specs.declared.expressions.Lvalue.TheViews.{out-ChainStep, out-LogicalOperand, roll-TypedExpr, roll-Lvalue, roll-ChainStep, roll-LogicalOperand, out-roll-ChainStep, out-roll-LogicalOperand}
use Rattle.c_meaning.specs.Constants.{constant_of}
use Rattle.c_meaning.specs.TypeRules.{Scope, ExprType, Designated, StepType, pointee, members_of, member_designated, member_in, loaded, decayed_as, pointer_at, chosen_type, returned_type, converted_where, combined_type, along_types, object_designated, expr_type_rule, lvalue_type_rule, type_of, designated_by}
use Rattle.c_meaning.specs.Rules.{IsTypedExpr, IsTypedLvalue, LvalueFits, ExprFits, StepsFit, ArgumentsFit, OperandsAreConditions, BranchesFit, ConversionFits, OperationFits, IsCondition, ArePointersAlike, layer_admits, is_scalar_kind, kind_of_type}
use Rattle.typing_laws.specs.Scopes.{ScopeGrows, ScopeStands, TypeStands, CTypeStands, is_standing}
use Rattle.typing_laws.proofs.Parts.{Each, LvalueParts, ExprParts, lvalue-parts-with, expr-parts-with, by_expr-parts, by_lvalue-parts}
use Rattle.typing_laws.proofs.Rules.{IsTypedStep, IsTypedOperand, step_type, types_in_expr, types_in_lvalue, step-type-of, type-of-rolled, designated-by-rolled, rule-of-lvalue, rule-of-expr, parts-of-lvalue, parts-of-expr, typed-lvalue, typed-expr, right-typed, typed-step, operand-typed, typed-operand}
use Rattle.typing_laws.proofs.Standing.{array-stands, int-stands}
use Rattle.typing_laws.proofs.Growth.{pointee-stands, loaded-stands, decayed-stands, pointer-at-stands, chosen-stands, converted-stands, combined-stands, object-kept, function-kept, cells-kept, members-kept, member-stands}

module _ (old new : Scope) (grows : ScopeGrows old new) (stand : ScopeStands old) where
  abbrev n : ℕ
  n = length old.structs

  abbrev L : Type 0
  L = Lvalue-F Lvalue TypedExpr ChainStep LogicalOperand

  abbrev E : Type 0
  E = TypedExpr-F Lvalue TypedExpr ChainStep LogicalOperand

  abbrev pub KeptExpr : TypedExpr → Type 0
  KeptExpr e = IsTypedExpr new e × (type_of new e ≡ type_of old e) × TypeStands n (type_of old e)

  abbrev pub KeptLvalue : Lvalue → Type 0
  KeptLvalue l = IsTypedLvalue new l × (designated_by new l ≡ designated_by old l) × CTypeStands n (designated_by old l).ctype

  abbrev pub KeptStep : ChainStep → Type 0
  KeptStep s = IsTypedStep new s × (type_of new (out-ChainStep s).right ≡ type_of old (out-ChainStep s).right) × TypeStands n (type_of old (out-ChainStep s).right)

  abbrev pub KeptOperand : LogicalOperand → Type 0
  KeptOperand o = IsTypedOperand new o × (type_of new (out-LogicalOperand o).operand ≡ type_of old (out-LogicalOperand o).operand)

  abbrev KeptInLvalue : L → Type 0
  KeptInLvalue = LvalueParts KeptLvalue KeptExpr KeptStep KeptOperand

  abbrev KeptInExpr : E → Type 0
  KeptInExpr = ExprParts KeptLvalue KeptExpr KeptStep KeptOperand

  -- ---- types of nodes

  abbrev IsMemberAt : Designated → ℕ → Type 0
  IsMemberAt of m = (member : Member) × (slice_get (members_of old.structs of.ctype) m ≡ Some member)

  member-at : (of : Designated) (m : ℕ) → IsMemberAt of m → member_in new.structs of m ≡ member_in old.structs of m
  member-at of m found =
      ap (member_designated of.qualifier) (members-kept old new grows stand of.ctype m found.0 found.1 ∙ sym found.1)

  lvalue-same : (x : L) → LvalueFits old x → KeptInLvalue x → lvalue_type_rule new (types_in_lvalue new x) ≡ lvalue_type_rule old (types_in_lvalue old x)
  lvalue-same (Lvalue-F.Object place object cells) f k = ap object_designated (object-kept old new grows stand object f.0 f.1 ∙ sym f.1)
  lvalue-same (Lvalue-F.Indirection place pointer) f k = ap pointee k.1
  lvalue-same (Lvalue-F.Subscript place pointer t index) f k = ap pointee k.0.1
  lvalue-same (Lvalue-F.Member place of member offset cells) f k =
      ap (λ (d : Designated). member_in new.structs d member) k.1 ∙ member-at (designated_by old of) member (f.0, f.1)
  lvalue-same (Lvalue-F.Arrow place pointer member offset cells) f k =
      ap (λ (t : ExprType). member_in new.structs (pointee t) member) k.1 ∙ member-at (pointee (type_of old pointer)) member (f.0, f.1)

  object-designated-stands : (k : ℕ) (object : Object) → slice_get old.objects k ≡ Some object → CTypeStands n (object_designated (slice_get old.objects k)).ctype
  object-designated-stands k object e = subst (λ (o : Option Object). CTypeStands n (object_designated o).ctype) (sym e) (stand.objects k object e)

  member-designated-stands : (of : Designated) (m : ℕ) (found : IsMemberAt of m) → CTypeStands n (member_in old.structs of m).ctype
  member-designated-stands of m found =
      subst (λ (o : Option Member). CTypeStands n (member_designated of.qualifier o).ctype) (sym found.1) (member-stands old new grows stand of.ctype m found.0 found.1)

  lvalue-stands : (x : L) → LvalueFits old x → KeptInLvalue x → CTypeStands n (lvalue_type_rule old (types_in_lvalue old x)).ctype
  lvalue-stands (Lvalue-F.Object place object cells) f k = object-designated-stands object f.0 f.1
  lvalue-stands (Lvalue-F.Indirection place pointer) f k = pointee-stands n (type_of old pointer) k.2
  lvalue-stands (Lvalue-F.Subscript place pointer t index) f k = pointee-stands n (type_of old pointer) k.0.2
  lvalue-stands (Lvalue-F.Member place of member offset cells) f k = member-designated-stands (designated_by old of) member (f.0, f.1)
  lvalue-stands (Lvalue-F.Arrow place pointer member offset cells) f k = member-designated-stands (pointee (type_of old pointer)) member (f.0, f.1)

  -- ---- chains

  step-same : (s : ChainStep) → KeptStep s → step_type new s ≡ step_type old s
  step-same s k =
      step-type-of new s
      ∙ ap (λ (t : ExprType). λ (left : ExprType). combined_type (out-ChainStep s).operation (converted_where (out-ChainStep s).left left) t) k.1
      ∙ sym (step-type-of old s)

  steps-same : (ss : List ChainStep) → Each KeptStep ss → map (step_type new) ss ≡ map (step_type old) ss
  steps-same [] k = refl
  steps-same (s ∷ ss) k = ap (λ (f : StepType). f ∷ map (step_type new) ss) (step-same s k.0) ∙ ap (λ (fs : List StepType). step_type old s ∷ fs) (steps-same ss k.1)

  step-stands : (s : ChainStep) (left : ExprType) → KeptStep s → TypeStands n left → TypeStands n (step_type old s left)
  step-stands s left k h =
      subst (λ (f : StepType). TypeStands n (f left)) (sym (step-type-of old s))
      (combined-stands n (out-ChainStep s).operation (converted_where (out-ChainStep s).left left) (type_of old (out-ChainStep s).right) (converted-stands n (out-ChainStep s).left left h) k.2)

  along-stands : (ss : List ChainStep) (left : ExprType) → Each KeptStep ss → TypeStands n left → TypeStands n (along_types (map (step_type old) ss) left)
  along-stands [] left k h = h
  along-stands (s ∷ ss) left k h = along-stands ss (step_type old s left) k.1 (step-stands s left k.0 h)

  -- ---- types of expressions

  expr-same : (x : E) → ExprFits old x → KeptInExpr x → expr_type_rule new (types_in_expr new x) ≡ expr_type_rule old (types_in_expr old x)
  expr-same (TypedExpr-F.Constant place t w) f k = refl
  expr-same (TypedExpr-F.Load kind from) f k = ap (λ (d : Designated). loaded d.ctype) k.1
  expr-same (TypedExpr-F.Decay cells count from) f k = ap (λ (d : Designated). decayed_as d.qualifier d.ctype) k.1
  expr-same (TypedExpr-F.Address place of) f k = ap (λ (d : Designated). pointer_at d.qualifier d.ctype) k.1
  expr-same (TypedExpr-F.Converted conversion operand) f k = refl
  expr-same (TypedExpr-F.Cast place from to operand) f k = refl
  expr-same (TypedExpr-F.Unary place sign t operand) f k = refl
  expr-same (TypedExpr-F.Not place kind operand) f k = refl
  expr-same (TypedExpr-F.Chain first steps) f k =
      ap (λ (fs : List StepType). along_types fs (type_of new first)) (steps-same steps k.1) ∙ ap (λ (t : ExprType). along_types (map (step_type old) steps) t) k.0.1
  expr-same (TypedExpr-F.LogicalAnd first rest) f k = refl
  expr-same (TypedExpr-F.LogicalOr first rest) f k = refl
  expr-same (TypedExpr-F.Conditional condition place kind second third) f k =
      ap (λ (t : ExprType). chosen_type t (type_of new third)) k.1.1 ∙ ap (λ (t : ExprType). chosen_type (type_of old second) t) k.2.1
  expr-same (TypedExpr-F.Call place function kind arguments) f k = ap returned_type (function-kept old new grows stand function f.0 f.1 ∙ sym f.1)

  expr-stands : (x : E) → ExprFits old x → KeptInExpr x → TypeStands n (expr_type_rule old (types_in_expr old x))
  expr-stands (TypedExpr-F.Constant place t w) f k = int-stands n t
  expr-stands (TypedExpr-F.Load kind from) f k = loaded-stands n (designated_by old from).ctype k.2
  expr-stands (TypedExpr-F.Decay cells count from) f k = decayed-stands n (designated_by old from).qualifier (designated_by old from).ctype k.2
  expr-stands (TypedExpr-F.Address place of) f k = pointer-at-stands n (designated_by old of).qualifier (designated_by old of).ctype k.2
  expr-stands (TypedExpr-F.Converted (conversion.Integer from to) operand) f k = int-stands n to
  expr-stands (TypedExpr-F.Converted conversion.NullPointer operand) f k = tt
  expr-stands (TypedExpr-F.Cast place from to operand) f k = int-stands n to
  expr-stands (TypedExpr-F.Unary place sign t operand) f k = int-stands n t
  expr-stands (TypedExpr-F.Not place kind operand) f k = int-stands n S32
  expr-stands (TypedExpr-F.Chain first steps) f k = along-stands steps (type_of old first) k.1 k.0.2
  expr-stands (TypedExpr-F.LogicalAnd first rest) f k = int-stands n S32
  expr-stands (TypedExpr-F.LogicalOr first rest) f k = int-stands n S32
  expr-stands (TypedExpr-F.Conditional condition place kind second third) f k = chosen-stands n (type_of old second) (type_of old third) k.1.2 k.2.2
  expr-stands (TypedExpr-F.Call place function kind arguments) f k =
      subst (λ (o : Option TypedFunction). TypeStands n (returned_type o)) (sym f.1) (stand.functions function f.0 f.1)

  -- ---- rules of nodes

  ctype-same : (from : Lvalue) → KeptLvalue from → (designated_by new from).ctype ≡ (designated_by old from).ctype
  ctype-same from k = ap (λ (d : Designated). d.ctype) k.1

  lvalue-fits : (x : L) → LvalueFits old x → KeptInLvalue x → LvalueFits new x
  lvalue-fits (Lvalue-F.Object place object cells) f k = (f.0, object-kept old new grows stand object f.0 f.1, f.2)
  lvalue-fits (Lvalue-F.Indirection place pointer) f k = subst (λ (t : ExprType). IsSome (pointee t).ctype) (sym k.1) f
  lvalue-fits (Lvalue-F.Subscript place pointer t index) f k = (subst (λ (t : ExprType). IsSome (pointee t).ctype) (sym k.0.1) f.0, k.1.1 ∙ f.1)
  lvalue-fits (Lvalue-F.Member place of member offset cells) f k =
      (f.0, ap (λ (d : Designated). slice_get (members_of new.structs d.ctype) member) k.1 ∙ members-kept old new grows stand (designated_by old of).ctype member f.0 f.1, f.2, f.3)
  lvalue-fits (Lvalue-F.Arrow place pointer member offset cells) f k =
      (f.0, ap (λ (t : ExprType). slice_get (members_of new.structs (pointee t).ctype) member) k.1 ∙ members-kept old new grows stand (pointee (type_of old pointer)).ctype member f.0 f.1, f.2, f.3)

  element-stands : (from : Lvalue) (count : ℕ) (element : CType) → CTypeStands n (designated_by old from).ctype → (designated_by old from).ctype ≡ Some (ctype.Array count element) → is_standing n element ≡ true
  element-stands from count element h e = sym (array-stands n count element) ∙ subst (CTypeStands n) e h

  condition-kept : (e : TypedExpr) → KeptExpr e → IsCondition old e → IsCondition new e
  condition-kept e k f = ap (λ (t : ExprType). is_scalar_kind (kind_of_type t)) k.1 ∙ f

  steps-fit : (first : TypedExpr) (before ss : List ChainStep) (left : ExprType) → Each KeptStep ss → StepsFit old first before ss left → StepsFit new first before ss left
  steps-fit first before [] left k f = tt
  steps-fit first before (s ∷ ss) left k f =
      let op = (out-ChainStep s).operation in
      let converted = converted_where (out-ChainStep s).left left in
      let same = sym k.0.1 in (
        f.0,
        subst (λ (t : ExprType). OperationFits op converted t) same f.1,
        subst (λ (t : ExprType). StepsFit new first (before ++ s ∷ []) ss (combined_type op converted t)) same
            (steps-fit first (before ++ s ∷ []) ss (combined_type op converted (type_of old (out-ChainStep s).right)) k.1 f.2),
      )

  operands-fit : (os : List LogicalOperand) → Each KeptOperand os → OperandsAreConditions old os → OperandsAreConditions new os
  operands-fit [] k f = tt
  operands-fit (o ∷ os) k f = (ap (λ (t : ExprType). is_scalar_kind (kind_of_type t)) k.0.1 ∙ f.0, operands-fit os k.1 f.1)

  branches-fit : (by : ValueKind) (second third : TypedExpr) → KeptExpr second → KeptExpr third → BranchesFit old by second third → BranchesFit new by second third
  branches-fit kind.Void second third k l f = f
  branches-fit (kind.Integer t) second third k l f = (k.1 ∙ f.0, l.1 ∙ f.1)
  branches-fit kind.Pointer second third k l f =
      subst (λ (t : ExprType). ArePointersAlike t (type_of new third)) (sym k.1) (subst (λ (t : ExprType). ArePointersAlike (type_of old second) t) (sym l.1) f)
  branches-fit (kind.Struct number) second third k l f = f

  arguments-fit : (ks : List ℕ) (es : List TypedExpr) → Each KeptExpr es → ArgumentsFit old ks es → ArgumentsFit new ks es
  arguments-fit [] [] k f = tt
  arguments-fit [] (e ∷ es) k f = f
  arguments-fit (j ∷ ks) [] k f = f
  arguments-fit (j ∷ ks) (e ∷ es) k f =
      ((f.0.0, object-kept old new grows stand j f.0.0 f.0.1, subst (λ (t : ExprType). layer_admits t (out-CType f.0.0.ctype)) (sym k.0.1) f.0.2), arguments-fit ks es k.1 f.1)

  expr-fits : (x : E) → ExprFits old x → KeptInExpr x → ExprFits new x
  expr-fits (TypedExpr-F.Constant place t w) f k = f
  expr-fits (TypedExpr-F.Load by from) f k = (f.0, ctype-same from k ∙ f.1, f.2, f.3)
  expr-fits (TypedExpr-F.Decay cells count from) f k =
      (f.0, ctype-same from k ∙ f.1, cells-kept old new grows stand f.0 (element-stands from count f.0 k.2 f.1) ∙ f.2)
  expr-fits (TypedExpr-F.Address place of) f k = (f.0, ctype-same of k ∙ f.1, f.2)
  expr-fits (TypedExpr-F.Converted conversion operand) f k = subst (λ (t : ExprType). ConversionFits conversion t (constant_of operand)) (sym k.1) f
  expr-fits (TypedExpr-F.Cast place from to operand) f k = k.1 ∙ f
  expr-fits (TypedExpr-F.Unary place sign t operand) f k = (k.1 ∙ f.0, f.1)
  expr-fits (TypedExpr-F.Not place by operand) f k = (condition-kept operand k f.0, ap kind_of_type k.1 ∙ f.1)
  expr-fits (TypedExpr-F.Chain first steps) f k =
      (f.0, subst (λ (t : ExprType). StepsFit new first [] steps t) (sym k.0.1) (steps-fit first [] steps (type_of old first) k.1 f.1))
  expr-fits (TypedExpr-F.LogicalAnd first rest) f k = (f.0, condition-kept first k.0 f.1, operands-fit rest k.1 f.2)
  expr-fits (TypedExpr-F.LogicalOr first rest) f k = (f.0, condition-kept first k.0 f.1, operands-fit rest k.1 f.2)
  expr-fits (TypedExpr-F.Conditional condition place by second third) f k = (condition-kept condition k.0 f.0, branches-fit by second third k.1 k.2 f.1)
  expr-fits (TypedExpr-F.Call place function by arguments) f k = (f.0, function-kept old new grows stand function f.0 f.1, f.2, arguments-fit f.0.params arguments k f.3)

  -- ---- whole trees

  abbrev InLvalue : Lvalue → Type 0
  InLvalue l = IsTypedLvalue old l → KeptLvalue l

  abbrev InExpr : TypedExpr → Type 0
  InExpr e = IsTypedExpr old e → KeptExpr e

  abbrev InStep : ChainStep → Type 0
  InStep s = IsTypedStep old s → KeptStep s

  abbrev InOperand : LogicalOperand → Type 0
  InOperand o = IsTypedOperand old o → KeptOperand o

  of-lvalue : (x : L) → LvalueParts InLvalue InExpr InStep InOperand x → InLvalue (roll-Lvalue x)
  of-lvalue x parts h =
      let f = rule-of-lvalue old x h in
      let k = lvalue-parts-with InLvalue (IsTypedLvalue old) KeptLvalue InExpr (IsTypedExpr old) KeptExpr InStep (IsTypedStep old) KeptStep InOperand (IsTypedOperand old) KeptOperand
      (λ l p q. p q) (λ e p q. p q) (λ s p q. p q) (λ o p q. p q) x parts (parts-of-lvalue old x h) in
      let typed = lvalue-parts-with KeptLvalue KeptLvalue (IsTypedLvalue new) KeptExpr KeptExpr (IsTypedExpr new) KeptStep KeptStep (IsTypedStep new) KeptOperand KeptOperand (IsTypedOperand new)
      (λ l p q. p.0) (λ e p q. p.0) (λ s p q. p.0) (λ o p q. p.0) x k k in (
        typed-lvalue new x (lvalue-fits x f k) typed,
        designated-by-rolled new x ∙ lvalue-same x f k ∙ sym (designated-by-rolled old x),
        subst (λ (d : Designated). CTypeStands n d.ctype) (sym (designated-by-rolled old x)) (lvalue-stands x f k),
      )

  of-expr : (x : E) → ExprParts InLvalue InExpr InStep InOperand x → InExpr (roll-TypedExpr x)
  of-expr x parts h =
      let f = rule-of-expr old x h in
      let k = expr-parts-with InLvalue (IsTypedLvalue old) KeptLvalue InExpr (IsTypedExpr old) KeptExpr InStep (IsTypedStep old) KeptStep InOperand (IsTypedOperand old) KeptOperand
      (λ l p q. p q) (λ e p q. p q) (λ s p q. p q) (λ o p q. p q) x parts (parts-of-expr old x h) in
      let typed = expr-parts-with KeptLvalue KeptLvalue (IsTypedLvalue new) KeptExpr KeptExpr (IsTypedExpr new) KeptStep KeptStep (IsTypedStep new) KeptOperand KeptOperand (IsTypedOperand new)
      (λ l p q. p.0) (λ e p q. p.0) (λ s p q. p.0) (λ o p q. p.0) x k k in (
        typed-expr new x (expr-fits x f k) typed,
        type-of-rolled new x ∙ expr-same x f k ∙ sym (type-of-rolled old x),
        subst (TypeStands n) (sym (type-of-rolled old x)) (expr-stands x f k),
      )

  abbrev S : Type 0
  S = ChainStep-F Lvalue TypedExpr ChainStep LogicalOperand

  abbrev O : Type 0
  O = LogicalOperand-F Lvalue TypedExpr ChainStep LogicalOperand

  of-step : (x : S) → InExpr x.right → InStep (roll-ChainStep x)
  of-step x right h =
      let k = right (subst (λ (z : S). IsTypedExpr old z.right) (out-roll-ChainStep x) (right-typed old (roll-ChainStep x) h)) in
      let same = sym (out-roll-ChainStep x) in
      (typed-step new x k.0, subst (λ (z : S). type_of new z.right ≡ type_of old z.right) same k.1, subst (λ (z : S). TypeStands n (type_of old z.right)) same k.2)

  of-operand : (x : O) → InExpr x.operand → InOperand (roll-LogicalOperand x)
  of-operand x operand h =
      let k = operand (subst (λ (z : O). IsTypedExpr old z.operand) (out-roll-LogicalOperand x) (operand-typed old (roll-LogicalOperand x) h)) in
      (typed-operand new x k.0, subst (λ (z : O). type_of new z.operand ≡ type_of old z.operand) (sym (out-roll-LogicalOperand x)) k.1)

  -- an expression is typed in the scope that grew, with the same type, which is of structs that stand
  pub grown-expr : (e : TypedExpr) → IsTypedExpr old e → KeptExpr e
  grown-expr = by_expr-parts InLvalue InExpr InStep InOperand of-lvalue of-expr of-step of-operand

  -- and an lvalue
  pub grown-lvalue : (l : Lvalue) → IsTypedLvalue old l → KeptLvalue l
  grown-lvalue = by_lvalue-parts InLvalue InExpr InStep InOperand of-lvalue of-expr of-step of-operand
