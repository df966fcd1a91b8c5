-- The productions of operators on one operand, subscripts and literals: where they pass, they pass with what is typed.
use Rattle.std.proofs.Common.{◌≡◌, ◌≢◌, Bool, true, false, if◌then◌else◌, List, ap, sym, subst, ◌∙◌, refl}
use Rattle.hy_bits.specs.declared.scalar.Scalar.{Scalar}
use Rattle.hy_bits.specs.declared.scalar.Scalar.TheVariants.{S32}
use Rattle.c_tree.specs.declared.token.Place.{Place}
use Rattle.c_meaning.specs.declared.types.CType.{CType, out-CType, roll-CType}
use Rattle.c_meaning.specs.declared.types.CType.TheViews.{roll-out-CType}
use Rattle.c_meaning.specs.declared.types.CType.TheOpen.{CType-F}
use Rattle.c_meaning.specs.declared.types.CType.TheVariants as ctype
use Rattle.c_meaning.specs.declared.types.Qualifier.{Qualifier}
use Rattle.c_meaning.specs.declared.types.StructType.{StructType}
use Rattle.c_meaning.specs.declared.types.ValueKind.{ValueKind}
use Rattle.c_meaning.specs.declared.types.ValueKind.TheVariants as kind
use Rattle.c_meaning.specs.declared.operators.ArithmeticSign.{ArithmeticSign}
use Rattle.c_meaning.specs.declared.expressions.TypedExpr.TheVariants as expr
use Rattle.c_meaning.specs.declared.expressions.Lvalue.{Lvalue}
use Rattle.c_meaning.specs.declared.expressions.Lvalue.TheVariants as lvalue
use Rattle.c_meaning.specs.Types.{kind_of, layer_kind}
use Rattle.c_meaning.specs.Sizes.{promoted}
use Rattle.c_meaning.specs.TypeRules.{Scope, Typed}
use Rattle.c_meaning.specs.Rules.{is_scalar_kind}
use Rattle.c_conversions.specs.declared.fault.TypeKind.TheVariants.{Mismatch, PointerForm}
use Rattle.c_conversions.specs.Operators.{signed}
use Rattle.c_typing.specs.declared.environment.Environment.{Environment}
use Rattle.c_typing.specs.declared.values.TypedValue.{TypedValue}
use Rattle.c_typing.specs.declared.values.Typing.{Typing}
use Rattle.c_typing.specs.declared.values.Typing.TheVariants.{Designates, Gives}
use Rattle.c_typing.specs.Walks.{Breaks, Passes, unless, unless_none}
use Rattle.c_typing.specs.Values.{converted, kind_operand, layer_pointee, int_type}
use Rattle.c_typing.specs.Expressions.{address_typing, indirection_typing, not_typing, sign_typing}
use Rattle.typing_laws.specs.Values.{HasType, IsValue, IsTyping, IsPlainType, IsPlaceType, layer_is_place, IsValueType, layer_is_value}
use Rattle.typing_laws.specs.Passing.{Passing, TypedIn, scope_of}
use Rattle.typing_laws.proofs.Places.{address-typed, indirection-typed}
use Rattle.typing_laws.proofs.Valued.{plain-out, pointer-value}
use Rattle.typing_laws.proofs.Conversions.{not-typed, sign-typed}

-- ---- types by their kinds

module _ (structs : List StructType) where
  plain-layer : (c : CType) (y : CType-F CType) → layer_is_place structs c y → layer_kind y ≢ kind.Pointer → IsPlainType structs c
  plain-layer c CType-F.Void h none = h
  plain-layer c (CType-F.Int t) h none = h
  plain-layer c (CType-F.Array count element) h none = h
  plain-layer c (CType-F.Struct number) h none = h
  plain-layer c (CType-F.Pointer q to) h none = absurd (none refl)

  place-layer : (c : CType) (y : CType-F CType) → out-CType c ≡ y → IsPlainType structs c → layer_is_place structs c y
  place-layer c CType-F.Void e h = h
  place-layer c (CType-F.Int t) e h = h
  place-layer c (CType-F.Array count element) e h = h
  place-layer c (CType-F.Struct number) e h = h
  place-layer c (CType-F.Pointer q to) e h = absurd (cc (plain-out structs c (CType-F.Pointer q to) e, h.0))

  pub plain-place : (c : CType) → IsPlainType structs c → IsPlaceType structs c
  plain-place c h = place-layer c (out-CType c) refl h

  pub int-value : (t : Scalar) → IsValueType structs (ctype.Int t)
  int-value t = subst (layer_is_value structs) (sym (ctype.outs-Int t)) tt

int-at : (c : CType) (y : CType-F CType) (t : Scalar) → out-CType c ≡ y → layer_kind y ≡ kind.Integer t → c ≡ ctype.Int t
int-at c CType-F.Void t e k = absurd (cc)
int-at c (CType-F.Int u) t e k =
    let same : u ≡ t = cc in
    sym (roll-out-CType c) ∙ ap roll-CType e ∙ ctype.rolls-Int u ∙ ap ctype.Int same
int-at c (CType-F.Array count element) t e k = absurd (cc)
int-at c (CType-F.Struct number) t e k = absurd (cc)
int-at c (CType-F.Pointer q to) t e k = absurd (cc)

-- a type whose values are integers
pub integer-is : (c : CType) (t : Scalar) → kind_of c ≡ kind.Integer t → c ≡ ctype.Int t
integer-is c t k = int-at c (out-CType c) t refl k

pub pointer-made : (c : CType) (q : Qualifier) (to : CType) → out-CType c ≡ CType-F.Pointer q to → c ≡ ctype.Pointer q to
pointer-made c q to e = sym (roll-out-CType c) ∙ ap roll-CType e ∙ ctype.rolls-Pointer q to

module _ (env : Environment) where
  abbrev scope : Scope
  scope = scope_of env

  as-int : (value : TypedValue) (t : Scalar) → IsValue scope value → kind_of value.ctype ≡ kind.Integer t → HasType scope value.expr (Typed (ctype.Int t))
  as-int value t h k = subst (λ (c : CType). HasType scope value.expr (Typed c)) (integer-is value.ctype t k) h.0

  -- C11 6.5.3.2p1
  address-at : (place : Place) (of : Lvalue) (c : CType) (q : Qualifier) → IsTyping scope (Designates of c q) → kind_of c ≢ kind.Pointer → IsTyping scope (Gives (record { expr = expr.Address place of; ctype = ctype.Pointer q c }))
  address-at place of c q h none = (address-typed scope place of c q h.0 none, pointer-value env.structs q c (plain-layer env.structs c (out-CType c) h.1 none))

  address-by : (place : Place) (of : Lvalue) (c : CType) (q : Qualifier) (k : ValueKind) → kind_of c ≡ k → IsTyping scope (Designates of c q)
      → Passing (TypedIn env) (elim k [
        | kind.Void ↦ Passes (Gives (record { expr = expr.Address place of; ctype = ctype.Pointer q c })) env
        | kind.Integer t ↦ Passes (Gives (record { expr = expr.Address place of; ctype = ctype.Pointer q c })) env
        | kind.Pointer ↦ Breaks PointerForm place
        | kind.Struct number ↦ Passes (Gives (record { expr = expr.Address place of; ctype = ctype.Pointer q c })) env
      ])
  address-by place of c q kind.Void k h = (refl, address-at place of c q h (λ p. absurd (cc (k, p))))
  address-by place of c q (kind.Integer t) k h = (refl, address-at place of c q h (λ p. absurd (cc (k, p))))
  address-by place of c q kind.Pointer k h = tt
  address-by place of c q (kind.Struct number) k h = (refl, address-at place of c q h (λ p. absurd (cc (k, p))))

  pub address-passing : (place : Place) (t : Typing) → IsTyping scope t → Passing (TypedIn env) (address_typing place t env)
  address-passing place (Gives value) h = tt
  address-passing place (Designates of c q) h = address-by place of c q (kind_of c) refl h

  -- C11 6.5.3.2p2
  indirection-at : (place : Place) (pointer : TypedValue) (y : CType-F CType) → out-CType pointer.ctype ≡ y → IsValue scope pointer
      → Passing (TypedIn env) (unless_none Mismatch place (layer_pointee y) (λ to env. Passes (Designates (lvalue.Indirection place pointer.expr) to.ctype to.qualifier) env) env)
  indirection-at place pointer CType-F.Void e h = tt
  indirection-at place pointer (CType-F.Int t) e h = tt
  indirection-at place pointer (CType-F.Array count element) e h = tt
  indirection-at place pointer (CType-F.Struct number) e h = tt
  indirection-at place pointer (CType-F.Pointer q to) e h = (
    refl,
    (
      indirection-typed scope place pointer.expr q to (subst (λ (c : CType). HasType scope pointer.expr (Typed c)) (pointer-made pointer.ctype q to e) h.0),
      plain-place env.structs to (subst (layer_is_value env.structs) e h.1),
    ),
  )

  pub indirection-passing : (place : Place) (pointer : TypedValue) → IsValue scope pointer → Passing (TypedIn env) (indirection_typing place pointer env)
  indirection-passing place pointer h = indirection-at place pointer (out-CType pointer.ctype) refl h

  -- C11 6.5.3.3p1
  not-at : (place : Place) (value : TypedValue) (b : Bool) → is_scalar_kind (kind_of value.ctype) ≡ b → IsValue scope value
      → Passing (TypedIn env) (if b then Passes (Gives (record { expr = expr.Not place (kind_of value.ctype) value.expr; ctype = int_type })) env else Breaks Mismatch place)
  not-at place value true e h = (refl, (not-typed scope place value.expr value.ctype h.0 e, int-value env.structs S32))
  not-at place value false e h = tt

  pub not-passing : (place : Place) (value : TypedValue) → IsValue scope value → Passing (TypedIn env) (not_typing place value env)
  not-passing place value h = not-at place value (is_scalar_kind (kind_of value.ctype)) refl h

  sign-at : (place : Place) (op : ArithmeticSign) (value : TypedValue) (k : ValueKind) → kind_of value.ctype ≡ k → IsValue scope value
      → Passing (TypedIn env) (unless place (signed (kind_operand k))
      (λ p env. Passes (Gives (record { expr = expr.Unary place op p.scalar (converted p.conversion value.expr); ctype = ctype.Int p.scalar })) env) env)
  sign-at place op value kind.Void k h = tt
  sign-at place op value (kind.Integer t) k h = (refl, (sign-typed scope place op value.expr t (as-int value t h k), int-value env.structs (promoted t)))
  sign-at place op value kind.Pointer k h = tt
  sign-at place op value (kind.Struct number) k h = tt

  pub sign-passing : (place : Place) (op : ArithmeticSign) (value : TypedValue) → IsValue scope value → Passing (TypedIn env) (sign_typing place op value env)
  sign-passing place op value h = sign-at place op value (kind_of value.ctype) refl h
