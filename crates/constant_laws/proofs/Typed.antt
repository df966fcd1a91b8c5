-- The word of a typed constant expression is one of its type, by induction over the tree.
use Rattle.std.proofs.Common.{◌≡◌, ◌==◌, ℕ, Bool, true, false, not, if◌then◌else◌, Option, None, Some, List, [], ◌∷◌, map, ap, sym, subst, ◌∙◌, refl}
use Rattle.hy_bits.specs.declared.scalar.Scalar.{Scalar}
use Rattle.hy_bits.specs.declared.scalar.Scalar.TheVariants.{S32}
use Rattle.hy_bits.specs.Bits.{bit}
use Rattle.c_meaning.specs.declared.types.CType.TheOpen.{CType-F}
use Rattle.c_meaning.specs.declared.types.CType.TheVariants as ctype
use Rattle.c_meaning.specs.declared.types.ValueKind.{ValueKind}
use Rattle.c_meaning.specs.declared.types.ValueKind.TheVariants as kind
use Rattle.c_meaning.specs.declared.operators.Conversion.{Conversion}
use Rattle.c_meaning.specs.declared.operators.Conversion.TheVariants as conversion
use Rattle.c_meaning.specs.declared.operators.Operation.{Operation}
use Rattle.c_meaning.specs.declared.operators.Operation.TheVariants as operation
use Rattle.c_meaning.specs.declared.values.Undefined.{Undefined}
use Rattle.c_meaning.specs.declared.expressions.TypedExpr.{TypedExpr}
use Rattle.c_meaning.specs.declared.expressions.Lvalue.{Lvalue}
use Rattle.c_meaning.specs.declared.expressions.ChainStep.{ChainStep}
use Rattle.c_meaning.specs.declared.expressions.LogicalOperand.{LogicalOperand}
use Rattle.c_meaning.specs.declared.expressions.Lvalue.TheOpen.{TypedExpr-F}
use Rattle.c_meaning.specs.declared.expressions.Lvalue.TheViews.{out-ChainStep, roll-TypedExpr}
use Rattle.c_meaning.specs.declared.expressions.Lvalue.TheFolds as T
use Rattle.c_meaning.specs.Operations.{left_type, converted_to, signed_by}
use Rattle.c_meaning.specs.Types.{layer_kind}
use Rattle.c_meaning.specs.Constants.{Constant, Variable, Faulty, Word, StepConstant, with_word, with_form, faulty_where, named_word, converted_constant, converted_where, combined_constant, step_constant, along_constants, decides, logical_constant, conditional_constant, lvalue_name_rule, constant_rule, step_constant_rule, operand_constant_rule, constant_of, named_object}
use Rattle.c_meaning.specs.TypeRules as R
use Rattle.c_meaning.specs.TypeRules.{Scope, ExprType, StepType, of_scalar, type_of, converted_type, combined_type, along_types, layer_with, pointee, chosen_type, expr_type_rule}
use Rattle.c_meaning.specs.Rules.{IsTypedExpr, ExprFits, BranchesFit, is_pointer_type}
use Rattle.typing_laws.proofs.Parts.{ExprParts, by_expr-parts}
use Rattle.typing_laws.proofs.Rules.{PartsOfExpr, step_type, step-type-of, types_in_expr, type-of-rolled, rule-of-expr, parts-of-expr}
use Rattle.constant_laws.specs.Words.{WordOf}
use Rattle.constant_laws.proofs.Bounds.{operated-lt, signed-lt, converted-lt, bit-of}

-- ---- constants one after another

with-word : (t : ExprType) (c : Constant) (next : ℕ → Constant) → ((w : ℕ) → WordOf t (next w)) → WordOf t (with_word c next)
with-word t Variable next h = tt
with-word t Faulty next h = tt
with-word t (Word w) next h = h w

faulty-where : (t : ExprType) (o : Option Undefined) (w : ℕ) → WordOf t (Word w) → WordOf t (faulty_where o w)
faulty-where t None w h = h
faulty-where t (Some u) w h = tt

bit-word : (b : Bool) → WordOf (of_scalar S32) (Word (bit b))
bit-word b = (S32, refl, bit-of S32 b)

unnamed : (t : ExprType) (o : Option ℕ) → WordOf t (named_word (λ k. None) o)
unnamed t None = tt
unnamed t (Some k) = tt

converted-word : (conversion : Conversion) (c : Constant) → WordOf (converted_type conversion) (converted_constant conversion c)
converted-word (conversion.Integer from to) c = with-word (of_scalar to) c (λ w. Word (converted_to from to w)) (λ w. (to, refl, converted-lt from to w))
converted-word conversion.NullPointer c = tt

combined-word : (op : Operation) (left right : ExprType) (a b : ℕ) → WordOf (combined_type op left right) (combined_constant op a b)
combined-word (operation.Integer op) left right a b = faulty-where (of_scalar (left_type op)) _ _ (left_type op, refl, operated-lt op a b)
combined-word (operation.Comparison op t) left right a b = bit-word _
combined-word (operation.Offset way t) left right a b = tt
combined-word (operation.OffsetOnLeft t) left right a b = tt
combined-word (operation.Pointers op) left right a b = tt

step-word : (conversion : Option Conversion) (op : Operation) (left type right : ExprType) (c d : Constant) → WordOf (combined_type op left right) (step_constant conversion op d c)
step-word conversion op left type right c d =
    with-word (combined_type op left right) (with_form (converted_where conversion c) d) (λ a. with_word d (λ b. combined_constant op a b))
    (λ a. with-word (combined_type op left right) d (λ b. combined_constant op a b) (λ b. combined-word op left right a b))

if-word : (t : ExprType) (b : Bool) (c d : Constant) → WordOf t c → WordOf t d → WordOf t (if b then c else d)
if-word t true c d h k = h
if-word t false c d h k = k

logical-word : (is_or : Bool) (first : Constant) (rest : List Constant) → WordOf (of_scalar S32) (logical_constant is_or first rest)
logical-word is_or first [] = with-word (of_scalar S32) first (λ w. Word (bit (not (w == 0)))) (λ w. bit-word (not (w == 0)))
logical-word is_or first (second ∷ rest) =
    with-word (of_scalar S32) (with_form first (logical_constant is_or second rest)) (λ w. if decides is_or w then Word (bit is_or) else logical_constant is_or second rest)
    (λ w. if-word (of_scalar S32) (decides is_or w) (Word (bit is_or)) (logical_constant is_or second rest) (bit-word is_or) (logical-word is_or second rest))

conditional-word : (t : ExprType) (condition second third : Constant) → WordOf t second → WordOf t third → WordOf t (conditional_constant condition second third)
conditional-word t condition second third h k =
    with-word t (with_form (with_form condition second) third) (λ w. if w == 0 then third else second) (λ w. if-word t (w == 0) third second k h)

abbrev is_pointer_kind : ValueKind → Bool
is_pointer_kind by = elim by [ kind.Void ↦ false | kind.Integer t ↦ false | kind.Pointer ↦ true | kind.Struct number ↦ false ]

no-pointer : (u : Scalar) → is_pointer_type (of_scalar u) ≡ false
no-pointer u = ap (λ (y : CType-F _). is_pointer_kind (layer_kind y)) (ctype.outs-Int u)

-- no pointer has a word
wordless : (t v : ExprType) (c : Constant) → is_pointer_type t ≡ true → WordOf t c → WordOf v c
wordless t v Variable p h = tt
wordless t v Faulty p h = tt
wordless t v (Word w) p h = absurd (cc (ap is_pointer_type h.1, no-pointer h.0, p))

integer-chosen : (t : Scalar) (third : ExprType) → chosen_type (of_scalar t) third ≡ of_scalar t
integer-chosen t third = ap (λ (y : CType-F _). layer_with (pointee third).qualifier (ctype.Int t) y) (ctype.outs-Int t)

-- ---- whole expressions

abbrev E : Type 0
E = TypedExpr-F Lvalue TypedExpr ChainStep LogicalOperand

abbrev step_constant_of : ChainStep → StepConstant
step_constant_of = T.fold-ChainStep (Option ℕ) Constant StepConstant Constant lvalue_name_rule (constant_rule (λ k. None)) step_constant_rule operand_constant_rule

abbrev operand_constant_of : LogicalOperand → Constant
operand_constant_of = T.fold-LogicalOperand (Option ℕ) Constant StepConstant Constant lvalue_name_rule (constant_rule (λ k. None)) step_constant_rule operand_constant_rule

abbrev constants_in : E → TypedExpr-F (Option ℕ) Constant StepConstant Constant
constants_in = T.map-TypedExpr Lvalue TypedExpr ChainStep LogicalOperand (Option ℕ) Constant StepConstant Constant named_object constant_of step_constant_of operand_constant_of

constant-of-rolled : (x : E) → constant_of (roll-TypedExpr x) ≡ constant_rule (λ k. None) (constants_in x)
constant-of-rolled x = T.fold-roll-TypedExpr (Option ℕ) Constant StepConstant Constant lvalue_name_rule (constant_rule (λ k. None)) step_constant_rule operand_constant_rule x

step-constant-of : (s : ChainStep) → step_constant_of s ≡ step_constant (out-ChainStep s).left (out-ChainStep s).operation (constant_of (out-ChainStep s).right)
step-constant-of s = T.fold_out-ChainStep (Option ℕ) Constant StepConstant Constant lvalue_name_rule (constant_rule (λ k. None)) step_constant_rule operand_constant_rule s

module _ (scope : Scope) where
  step-word-of : (s : ChainStep) (left : ExprType) (c : Constant) → WordOf (step_type scope s left) (step_constant_of s c)
  step-word-of s left c =
      subst (λ (f : StepType). WordOf (f left) (step_constant_of s c)) (sym (step-type-of scope s))
      (subst (λ (f : StepConstant). WordOf (combined_type (out-ChainStep s).operation (R.converted_where (out-ChainStep s).left left) (type_of scope (out-ChainStep s).right)) (f c)) (sym (step-constant-of s))
      (step-word (out-ChainStep s).left (out-ChainStep s).operation (R.converted_where (out-ChainStep s).left left) left (type_of scope (out-ChainStep s).right) c (constant_of (out-ChainStep s).right)))

  along-words : (ss : List ChainStep) (left : ExprType) (c : Constant) → WordOf left c → WordOf (along_types (map (step_type scope) ss) left) (along_constants (map step_constant_of ss) c)
  along-words [] left c h = h
  along-words (s ∷ ss) left c h = along-words ss (step_type scope s left) (step_constant_of s c) (step-word-of s left c)

  branches-word : (by : ValueKind) (condition second third : TypedExpr) → BranchesFit scope by second third → WordOf (type_of scope second) (constant_of second) → WordOf (type_of scope third) (constant_of third)
      → WordOf (chosen_type (type_of scope second) (type_of scope third)) (conditional_constant (constant_of condition) (constant_of second) (constant_of third))
  branches-word kind.Void condition second third f h k = absurd f
  branches-word (kind.Integer t) condition second third f h k =
      let is : chosen_type (type_of scope second) (type_of scope third) ≡ of_scalar t = ap (λ (u : ExprType). chosen_type u (type_of scope third)) f.0 ∙ integer-chosen t (type_of scope third) in
      subst (λ (u : ExprType). WordOf u (conditional_constant (constant_of condition) (constant_of second) (constant_of third))) (sym is)
      (conditional-word (of_scalar t) (constant_of condition) (constant_of second) (constant_of third)
      (subst (λ (u : ExprType). WordOf u (constant_of second)) f.0 h) (subst (λ (u : ExprType). WordOf u (constant_of third)) f.1 k))
  branches-word kind.Pointer condition second third f h k =
      conditional-word _ (constant_of condition) (constant_of second) (constant_of third)
      (wordless (type_of scope second) _ (constant_of second) f.0 h) (wordless (type_of scope third) _ (constant_of third) f.1 k)
  branches-word (kind.Struct number) condition second third f h k = absurd f

  abbrev InLvalue : Lvalue → Type 0
  InLvalue l = Unit {0}

  abbrev InExpr : TypedExpr → Type 0
  InExpr e = IsTypedExpr scope e → WordOf (type_of scope e) (constant_of e)

  abbrev InStep : ChainStep → Type 0
  InStep s = Unit {0}

  abbrev InOperand : LogicalOperand → Type 0
  InOperand o = Unit {0}

  node-word : (x : E) → ExprFits scope x → ExprParts InLvalue InExpr InStep InOperand x → PartsOfExpr scope x → WordOf (expr_type_rule scope (types_in_expr scope x)) (constant_rule (λ k. None) (constants_in x))
  node-word (TypedExpr-F.Constant place t w) f p h = (t, refl, f)
  node-word (TypedExpr-F.Load by from) f p h = unnamed _ (named_object from)
  node-word (TypedExpr-F.Decay cells count from) f p h = tt
  node-word (TypedExpr-F.Address place of) f p h = tt
  node-word (TypedExpr-F.Converted conversion operand) f p h = converted-word conversion (constant_of operand)
  node-word (TypedExpr-F.Cast place from to operand) f p h = converted-word (conversion.Integer from to) (constant_of operand)
  node-word (TypedExpr-F.Unary place sign t operand) f p h =
      with-word (of_scalar t) (constant_of operand) _ (λ w. faulty-where (of_scalar t) _ (signed_by sign t w) (t, refl, signed-lt sign t w))
  node-word (TypedExpr-F.Not place by operand) f p h = with-word (of_scalar S32) (constant_of operand) (λ w. Word (bit (w == 0))) (λ w. bit-word (w == 0))
  node-word (TypedExpr-F.Chain first steps) f p h = along-words steps (type_of scope first) (constant_of first) (p.0 h.0)
  node-word (TypedExpr-F.LogicalAnd first rest) f p h = logical-word false (constant_of first) (map operand_constant_of rest)
  node-word (TypedExpr-F.LogicalOr first rest) f p h = logical-word true (constant_of first) (map operand_constant_of rest)
  node-word (TypedExpr-F.Conditional condition place by second third) f p h = branches-word by condition second third f.1 (p.1 h.1) (p.2 h.2)
  node-word (TypedExpr-F.Call place function by arguments) f p h = tt

  of-expr : (x : E) → ExprParts InLvalue InExpr InStep InOperand x → InExpr (roll-TypedExpr x)
  of-expr x p h =
      subst (λ (t : ExprType). WordOf t (constant_of (roll-TypedExpr x))) (sym (type-of-rolled scope x))
      (subst (WordOf (expr_type_rule scope (types_in_expr scope x))) (sym (constant-of-rolled x)) (node-word x (rule-of-expr scope x h) p (parts-of-expr scope x h)))

  -- C11 6.6: the word of a constant expression is one of its type
  pub word-of-constant : (e : TypedExpr) → IsTypedExpr scope e → WordOf (type_of scope e) (constant_of e)
  word-of-constant = by_expr-parts InLvalue InExpr InStep InOperand (λ x p. tt) of-expr (λ x p. tt) (λ x p. tt)
