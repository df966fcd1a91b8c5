-- Conversions that fit, and the productions of binary operators, choices and assignments: where they pass, they pass with what is typed.
use Rattle.std.proofs.Common.{◌≡◌, ◌&&◌, Bool, true, false, Option, None, Some, List, ap, sym, subst, ◌∙◌, refl}
use Rattle.hy_bits.specs.declared.scalar.Scalar.TheVariants.{S32}
use Rattle.c_tree.specs.declared.token.Place.{Place}
use Rattle.c_tree.specs.declared.expressions.BinaryOperator.{BinaryOperator}
use Rattle.c_tree.specs.declared.expressions.BinaryOperator.TheVariants as binary
use Rattle.c_meaning.specs.declared.types.CType.{CType, out-CType}
use Rattle.c_meaning.specs.declared.types.CType.TheOpen.{CType-F}
use Rattle.c_meaning.specs.declared.types.StructType.{StructType}
use Rattle.c_meaning.specs.declared.types.ValueKind.{ValueKind}
use Rattle.c_meaning.specs.declared.types.ValueKind.TheVariants as kind
use Rattle.c_meaning.specs.declared.operators.Conversion.{Conversion}
use Rattle.c_meaning.specs.declared.operators.Operation.{Operation}
use Rattle.c_meaning.specs.declared.operators.Operation.TheVariants as operation
use Rattle.c_meaning.specs.declared.expressions.TypedExpr.{TypedExpr}
use Rattle.c_meaning.specs.declared.expressions.TypedExpr.TheVariants as expr
use Rattle.c_meaning.specs.declared.expressions.Lvalue.{Lvalue}
use Rattle.c_meaning.specs.declared.expressions.ChainStep.{ChainStep}
use Rattle.c_meaning.specs.declared.expressions.LogicalOperand.{LogicalOperand}
use Rattle.c_meaning.specs.declared.expressions.Lvalue.TheOpen.{TypedExpr-F, ChainStep-F, LogicalOperand-F}
use Rattle.c_meaning.specs.declared.expressions.Lvalue.TheViews.{out-TypedExpr, out-ChainStep, out-roll-ChainStep, out-LogicalOperand, out-roll-LogicalOperand}
use Rattle.c_meaning.specs.Operations.{left_type}
use Rattle.c_meaning.specs.Types.{kind_of}
use Rattle.c_meaning.specs.Constants.{constant_of}
use Rattle.c_meaning.specs.TypeRules.{Scope, ExprType, Typed, type_of, converted_type, converted_where, combined_type, chosen_type}
use Rattle.c_meaning.specs.Rules.{LeftFits, OperationFits, ConversionFits, IsCondition, layer_admits, is_scalar_kind, kind_of_type}
use Rattle.c_conversions.specs.declared.fault.TypeKind.TheVariants.{Mismatch}
use Rattle.c_conversions.specs.declared.operators.Operator.{Operator}
use Rattle.c_conversions.specs.declared.operators.Combination.{Combination}
use Rattle.c_conversions.specs.declared.operators.Branches.{Branches}
use Rattle.c_conversions.specs.Operators.{operator_of, combined, chosen, assigned}
use Rattle.c_typing.specs.declared.chains.Left.{Left}
use Rattle.c_typing.specs.declared.environment.Environment.{Environment}
use Rattle.c_typing.specs.declared.values.TypedValue.{TypedValue}
use Rattle.c_typing.specs.Walks.{Breaks, Passes}
use Rattle.c_typing.specs.Values.{operand_beside, converted, pointees, admits, combined_ctype, chosen_ctype, chosen_layer, either_qualifier}
use Rattle.c_typing.specs.Expressions.{chain, logical_operand, with_logical, logical, step_of, with_step, calculated, combine_by, combine, branches_of, choose, assigned_to}
use Rattle.typing_laws.specs.Values.{HasType, IsValue, IsValueType, layer_is_value}
use Rattle.typing_laws.specs.Passing.{Passing, scope_of}
use Rattle.typing_laws.proofs.Making.{made-expr}
use Rattle.typing_laws.proofs.Rules.{typed-step, typed-operand}
use Rattle.typing_laws.proofs.Forms.{chain-typed, disjunction-typed, conjunction-typed}
use Rattle.typing_laws.proofs.Valued.{pointer-value}
use Rattle.typing_laws.proofs.Unary.{int-value}
use Rattle.conversion_laws.proofs.Tables.{CombinationFits, combination-fits}
use Rattle.conversion_laws.proofs.Choices.{BranchTypesFit, branches-fit, ChoiceFits, choice-fits}
use Rattle.conversion_laws.proofs.Assigning.{assigned-fits}
use Rattle.expression_laws.specs.Keeping.{Stays, TypingIn, LeftIn, AssignableIn}
use Rattle.expression_laws.proofs.Steps.{passing-unless, passing-if}

both : (a b : Bool) → (a && b) ≡ true → (a ≡ true) × (b ≡ true)
both true b h = (refl, h)
both false b h = absurd (cc)

-- ---- types of values

module _ (structs : List StructType) where
  combined-value : (op : Operation) (left right : CType) → IsValueType structs left → IsValueType structs right → IsValueType structs (combined_ctype op left right)
  combined-value (operation.Integer op) left right l r = int-value structs (left_type op)
  combined-value (operation.Comparison op t) left right l r = int-value structs S32
  combined-value (operation.Offset way t) left right l r = l
  combined-value (operation.OffsetOnLeft t) left right l r = r
  combined-value (operation.Pointers op) left right l r = int-value structs S32

  chosen-at : (left right : CType) (y z : CType-F CType) → layer_is_value structs y → IsValueType structs left → IsValueType structs right → IsValueType structs (chosen_layer left right y z)
  chosen-at left right CType-F.Void z h l r = r
  chosen-at left right (CType-F.Int t) z h l r = r
  chosen-at left right (CType-F.Array count element) z h l r = r
  chosen-at left right (CType-F.Struct number) z h l r = r
  chosen-at left right (CType-F.Pointer q to) (CType-F.Pointer other of) h l r = pointer-value structs (either_qualifier q other) to h
  chosen-at left right (CType-F.Pointer q to) CType-F.Void h l r = l
  chosen-at left right (CType-F.Pointer q to) (CType-F.Int t) h l r = l
  chosen-at left right (CType-F.Pointer q to) (CType-F.Array count element) h l r = l
  chosen-at left right (CType-F.Pointer q to) (CType-F.Struct number) h l r = l

  chosen-value : (by : ValueKind) (left right : CType) → IsValueType structs left → IsValueType structs right → IsValueType structs (chosen_ctype by left right)
  chosen-value (kind.Integer t) left right l r = int-value structs t
  chosen-value kind.Void left right l r = chosen-at left right (out-CType left) (out-CType right) l l r
  chosen-value kind.Pointer left right l r = chosen-at left right (out-CType left) (out-CType right) l l r
  chosen-value (kind.Struct number) left right l r = chosen-at left right (out-CType left) (out-CType right) l l r

abbrev S : Type 0
S = ChainStep-F Lvalue TypedExpr ChainStep LogicalOperand

abbrev O : Type 0
O = LogicalOperand-F Lvalue TypedExpr ChainStep LogicalOperand

module _ (scope : Scope) where
  -- C11 6.3: a conversion that fits
  pub converted-fits : (c : Option Conversion) (e : TypedExpr) (t : ExprType) → HasType scope e t → LeftFits c t (constant_of e) → HasType scope (converted c e) (converted_where c t)
  converted-fits None e t h f = h
  converted-fits (Some conversion) e t h f =
      made-expr scope (TypedExpr-F.Converted conversion e) (expr.Converted conversion e) (converted_type conversion) (expr.rolls-Converted conversion e)
      (subst (λ (u : ExprType). ConversionFits conversion u (constant_of e)) (sym h.1) f) h.0 refl

  pub condition-is : (value : TypedValue) → IsValue scope value → is_scalar_kind (kind_of value.ctype) ≡ true → IsCondition scope value.expr
  condition-is value h scalar = ap (λ (t : ExprType). is_scalar_kind (kind_of_type t)) h.0.1 ∙ scalar

  -- ---- binary operators (C11 6.5.5 to 6.5.12)

  module _ (place : Place) (c : Combination) (left : Left) (right : TypedValue) (h : IsValue scope left.value) (r : IsValue scope right)
      (fit : CombinationFits left.value.ctype right.ctype (constant_of left.value.expr) (constant_of right.expr) c) where
    abbrev parts : S
    parts = record { left = c.left; place = place; operation = c.operation; right = converted c.right right.expr }

    made : HasType scope (converted c.right right.expr) (converted_where c.right (Typed right.ctype))
    made = converted-fits c.right right.expr (Typed right.ctype) r.0 fit.1

    left-fits : LeftFits (out-ChainStep (step_of place c right)).left (Typed left.value.ctype) (constant_of left.value.expr)
    left-fits = subst (λ (z : S). LeftFits z.left (Typed left.value.ctype) (constant_of left.value.expr)) (sym (out-roll-ChainStep parts)) fit.0

    abbrev DoneBy : S → Type 0
    DoneBy z = OperationFits z.operation (converted_where z.left (Typed left.value.ctype)) (type_of scope z.right)

    operation-fits : DoneBy (out-ChainStep (step_of place c right))
    operation-fits =
        subst DoneBy (sym (out-roll-ChainStep parts))
        (subst (λ (t : ExprType). OperationFits c.operation (converted_where c.left (Typed left.value.ctype)) t) (sym made.1) fit.2)

    abbrev type_by : S → ExprType
    type_by z = combined_type z.operation (converted_where z.left (Typed left.value.ctype)) (type_of scope z.right)

    type-is : type_by (out-ChainStep (step_of place c right)) ≡ Typed (combined_ctype c.operation left.value.ctype right.ctype)
    type-is = ap type_by (out-roll-ChainStep parts) ∙ ap (combined_type c.operation (converted_where c.left (Typed left.value.ctype))) made.1 ∙ fit.3

    step-typed : IsValue scope (with_step place c left right).value
    step-typed = (
      subst (HasType scope (chain left.form left.value.expr (step_of place c right) (out-TypedExpr left.value.expr))) type-is
          (chain-typed scope left.value.expr (step_of place c right) (Typed left.value.ctype) h.0 (typed-step scope parts made.0) left-fits operation-fits left.form),
      combined-value scope.structs c.operation left.value.ctype right.ctype h.1 r.1,
    )

  -- ---- "&&" and "||" (C11 6.5.13, 6.5.14)

  module _ (place : Place) (left : Left) (right : TypedValue) (h : IsValue scope left.value) (r : IsValue scope right)
      (l : is_scalar_kind (kind_of left.value.ctype) ≡ true) (s : is_scalar_kind (kind_of right.ctype) ≡ true) where
    abbrev operand : O
    operand = record { place = place; operand = right.expr }

    right-condition : IsCondition scope (out-LogicalOperand (logical_operand place right)).operand
    right-condition = subst (λ (z : O). IsCondition scope z.operand) (sym (out-roll-LogicalOperand operand)) (condition-is right r s)

    disjoined : IsValue scope (with_logical binary.LogicalOr left (logical_operand place right)).value
    disjoined = (
      disjunction-typed scope left.value.expr (logical_operand place right) h.0.0 (condition-is left.value h l) (typed-operand scope operand r.0.0) right-condition left.form,
      int-value scope.structs S32,
    )

    conjoined : IsValue scope (with_logical binary.LogicalAnd left (logical_operand place right)).value
    conjoined = (
      conjunction-typed scope left.value.expr (logical_operand place right) h.0.0 (condition-is left.value h l) (typed-operand scope operand r.0.0) right-condition left.form,
      int-value scope.structs S32,
    )

    logical-typed : (op : BinaryOperator) → IsValue scope (with_logical op left (logical_operand place right)).value
    logical-typed binary.LogicalOr = disjoined
    logical-typed op = conjoined

  -- ---- "?:" (C11 6.5.15)

  chosen-typed : (condition : TypedExpr) (place : Place) (by : ValueKind) (second third : TypedExpr) (t u v : ExprType) → HasType scope condition t → is_scalar_kind (kind_of_type t) ≡ true
      → HasType scope second u → HasType scope third v → BranchTypesFit by u v → HasType scope (expr.Conditional condition place by second third) (chosen_type u v)
  chosen-typed condition place by second third t u v h scalar a b fit =
      made-expr scope (TypedExpr-F.Conditional condition place by second third) (expr.Conditional condition place by second third) (chosen_type u v)
      (expr.rolls-Conditional condition place by second third) (
        ap (λ (x : ExprType). is_scalar_kind (kind_of_type x)) h.1 ∙ scalar,
        branches-fit scope by second third (subst (λ (x : ExprType). BranchTypesFit by x (type_of scope third)) (sym a.1) (subst (λ (x : ExprType). BranchTypesFit by u x) (sym b.1) fit)),
      )
      (h.0, a.0, b.0) (ap (λ (x : ExprType). chosen_type x (type_of scope third)) a.1 ∙ ap (chosen_type u) b.1)

  branches-typed : (place : Place) (condition second third : TypedValue) (b : Branches) → IsValue scope condition → is_scalar_kind (kind_of condition.ctype) ≡ true
      → IsValue scope second → IsValue scope third → ChoiceFits second.ctype third.ctype (constant_of second.expr) (constant_of third.expr) b
      → IsValue scope (record { expr = expr.Conditional condition.expr place b.kind (converted b.second second.expr) (converted b.third third.expr); ctype = chosen_ctype b.kind second.ctype third.ctype })
  branches-typed place condition second third b h scalar s t fit =
      let left = converted-fits b.second second.expr (Typed second.ctype) s.0 fit.0 in
      let right = converted-fits b.third third.expr (Typed third.ctype) t.0 fit.1 in
      let is = chosen-typed condition.expr place b.kind (converted b.second second.expr) (converted b.third third.expr) (Typed condition.ctype)
      (converted_where b.second (Typed second.ctype)) (converted_where b.third (Typed third.ctype)) h.0 scalar left right fit.2 in (
        subst (HasType scope (expr.Conditional condition.expr place b.kind (converted b.second second.expr) (converted b.third third.expr))) fit.3 is,
        chosen-value scope.structs b.kind second.ctype third.ctype s.1 t.1,
      )

module _ (env : Environment) where
  abbrev scope : Scope
  scope = scope_of env

  logical-passing : (place : Place) (op : BinaryOperator) (left : Left) (right : TypedValue) → IsValue scope left.value → IsValue scope right → Passing (Stays LeftIn env) (logical place op left right env)
  logical-passing place op left right h r =
      passing-if (Stays LeftIn env) (is_scalar_kind (kind_of left.value.ctype) && is_scalar_kind (kind_of right.ctype))
      (Passes (with_logical op left (logical_operand place right)) env) (Breaks Mismatch place)
      (λ e. let b = both (is_scalar_kind (kind_of left.value.ctype)) (is_scalar_kind (kind_of right.ctype)) e in (refl, logical-typed scope place left right h r b.0 b.1 op))
      (λ e. tt)

  calculated-passing : (place : Place) (op : Operator) (left : Left) (right : TypedValue) → IsValue scope left.value → IsValue scope right → Passing (Stays LeftIn env) (calculated place op left right env)
  calculated-passing place op left right h r =
      passing-unless (Stays LeftIn env) place
      (combined op (operand_beside (kind_of right.ctype) left.value) (operand_beside (kind_of left.value.ctype) right) (pointees left.value.ctype right.ctype))
      (λ c env. Passes (with_step place c left right) env) env
      (λ c e. (refl, step-typed scope place c left right h r (combination-fits op left.value right c e)))

  combine-by : (place : Place) (op : BinaryOperator) (by : Option Operator) (left : Left) (right : TypedValue) → IsValue scope left.value → IsValue scope right
      → Passing (Stays LeftIn env) (combine_by place op by left right env)
  combine-by place op None left right h r = logical-passing place op left right h r
  combine-by place op (Some by) left right h r = calculated-passing place by left right h r

  -- C11 6.5.5 to 6.5.14
  pub combine-passing : (place : Place) (op : BinaryOperator) (left : Left) (right : TypedValue) → IsValue scope left.value → IsValue scope right → Passing (Stays LeftIn env) (combine place op left right env)
  combine-passing place op left right h r = combine-by place op (operator_of op) left right h r

  -- C11 6.5.15
  pub choose-passing : (place : Place) (condition second third : TypedValue) → IsValue scope condition → IsValue scope second → IsValue scope third
      → Passing (Stays TypingIn env) (choose place condition second third env)
  choose-passing place condition second third h s t =
      let table = chosen (operand_beside (kind_of third.ctype) second) (operand_beside (kind_of second.ctype) third) (pointees second.ctype third.ctype) in
      passing-if (Stays TypingIn env) (is_scalar_kind (kind_of condition.ctype)) _ (Breaks Mismatch place)
      (λ scalar. passing-unless (Stays TypingIn env) place table (λ b env. Passes (branches_of place condition second third b) env) env
      (λ b e. (refl, branches-typed scope place condition second third b h scalar s t (choice-fits second third b e))))
      (λ e. tt)

  -- C11 6.5.16.1p1
  pub assigned-passing : (place : Place) (target : CType) (value : TypedValue) → IsValue scope value → Passing (Stays (AssignableIn target) env) (assigned_to place target value env)
  assigned-passing place target value h =
      passing-unless (Stays (AssignableIn target) env) place
      (assigned (kind_of target) (operand_beside (kind_of target) value) (admits target value.ctype))
      (λ conversion env. Passes (converted conversion value.expr) env) env
      (λ conversion e.
      let fit = assigned-fits target value conversion e in
      let made = converted-fits scope conversion value.expr (Typed value.ctype) h.0 fit.0 in
      (refl, (made.0, subst (λ (t : ExprType). layer_admits t (out-CType target)) (sym made.1) fit.1)))
