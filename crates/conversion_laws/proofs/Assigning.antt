-- Assignments, and conversions to integer types: the conversion fits the value, and gives the type that is asked for.
use Rattle.std.proofs.Common.{◌≡◌, ℕ, ◌==◌, inl, inr, Bool, true, false, Option, None, Some, Result, Ok, Err, if◌then◌else◌, refl, ap, sym, subst, ◌∙◌}
use Rattle.hy_bits.specs.declared.scalar.Scalar.{Scalar}
use Rattle.c_meaning.specs.declared.types.CType.{CType, out-CType}
use Rattle.c_meaning.specs.declared.types.CType.TheOpen.{CType-F}
use Rattle.c_meaning.specs.declared.types.CType.TheVariants as ctype
use Rattle.c_meaning.specs.declared.types.Qualifier.{Qualifier}
use Rattle.c_meaning.specs.declared.types.Qualifier.TheVariants.{Unqualified, Const}
use Rattle.c_meaning.specs.declared.types.ValueKind.{ValueKind}
use Rattle.c_meaning.specs.declared.types.ValueKind.TheVariants as kind
use Rattle.c_meaning.specs.declared.operators.Conversion.{Conversion}
use Rattle.c_meaning.specs.declared.operators.Conversion.TheVariants as conversion
use Rattle.c_meaning.specs.Types.{layer_kind, kind_of}
use Rattle.c_meaning.specs.Sizes.{promoted}
use Rattle.c_meaning.specs.Constants.{Constant, constant_of}
use Rattle.c_meaning.specs.TypeRules.{ExprType, Typed, AnyPointer, of_scalar, converted_where}
use Rattle.c_meaning.specs.Rules.{LeftFits, layer_admits}
use Rattle.c_conversions.specs.declared.fault.TypeKind.{TypeKind}
use Rattle.c_conversions.specs.declared.fault.TypeKind.TheVariants.{Mismatch}
use Rattle.c_conversions.specs.declared.operands.Operand.{Operand}
use Rattle.c_conversions.specs.declared.operands.Operand.TheVariants as operand
use Rattle.c_conversions.specs.declared.operands.Pointees.{Pointees}
use Rattle.c_conversions.specs.declared.operands.Pointees.TheVariants.{Compatible, Incompatible}
use Rattle.c_conversions.specs.CTypes.{same_type}
use Rattle.c_conversions.specs.Scalars.{conversion_between}
use Rattle.c_conversions.specs.Operators.{assigned, assigned_integer, assigned_pointer, assigned_struct, pointer_as}
use Rattle.c_typing.specs.declared.values.TypedValue.{TypedValue}
use Rattle.c_typing.specs.Values.{operand_beside, admits, admits_qualifier, layer_admits_layer}
use Rattle.conversion_laws.proofs.Scalars.{reaches}
use Rattle.conversion_laws.proofs.CTypes.{IsPointerType, same-type-is, same-number-is}
use Rattle.conversion_laws.proofs.Pointers.{compatible-is}
use Rattle.conversion_laws.proofs.Sides.{OperandSays, beside-says, ok-is}

-- a conversion of a value of the type fits it, and gives what is asked for
abbrev pub Becomes : CType → Constant → (ExprType → Type 0) → Option Conversion → Type 0
Becomes c constant asked conversion = LeftFits conversion (Typed c) constant × asked (converted_where conversion (Typed c))

-- the type is the integer type that is asked for
abbrev pub IsOf : Scalar → ExprType → Type 0
IsOf t e = e ≡ of_scalar t

module _ (c : CType) (constant : Constant) where
  abbrev Gives : (ExprType → Type 0) → Result (Option Conversion) TypeKind → Type 0
  Gives asked r = (conversion : Option Conversion) → r ≡ Ok conversion → Becomes c constant asked conversion

  gives : (asked : ExprType → Type 0) (given : Option Conversion) → Becomes c constant asked given → Gives asked (Ok given)
  gives asked given becomes conversion h = subst (Becomes c constant asked) (ok-is given conversion h) becomes

  refused : (asked : ExprType → Type 0) (fault : TypeKind) → Gives asked (Err fault)
  refused asked fault conversion h = absurd (cc)

  -- ---- integers (C11 6.5.16.1p1)

  pub to-integer : (from t : Scalar) → c ≡ ctype.Int from → Becomes c constant (IsOf t) (conversion_between from t)
  to-integer from t h =
      subst (λ (d : CType). Becomes d constant (IsOf t) (conversion_between from t)) (sym h) (reaches from t constant)

  integer : (t : Scalar) (o : Operand) → OperandSays o c constant → Gives (IsOf t) (assigned_integer t o)
  integer t (operand.Integer from) h = gives (IsOf t) (conversion_between from t) (to-integer from t h)
  integer t (operand.NullConstant from) h = gives (IsOf t) (conversion_between from t) (to-integer from t h.0)
  integer t operand.Pointer h = refused (IsOf t) (pointer_as t)
  integer t operand.Void h = refused (IsOf t) _
  integer t (operand.Struct number) h = refused (IsOf t) _

  -- ---- pointers

  abbrev Pointed : Qualifier → CType → ExprType → Type 0
  Pointed q to e = layer_admits e (CType-F.Pointer q to)

  qualified : (q r : Qualifier) (to other : CType) → c ≡ ctype.Pointer r other → admits_qualifier q r (same_type to other) ≡ Compatible → Pointed q to (Typed c)
  qualified Unqualified Unqualified to other h e =
      inr (inl (ap Typed (h ∙ ap (λ (d : CType). ctype.Pointer Unqualified d) (sym (same-type-is to other (compatible-is (same_type to other) e))))))
  qualified Unqualified Const to other h e = absurd (cc)
  qualified Const Unqualified to other h e =
      inr (inl (ap Typed (h ∙ ap (λ (d : CType). ctype.Pointer Unqualified d) (sym (same-type-is to other (compatible-is (same_type to other) e))))))
  qualified Const Const to other h e =
      inr (inr (ap Typed (h ∙ ap (λ (d : CType). ctype.Pointer Const d) (sym (same-type-is to other (compatible-is (same_type to other) e))))))

  admitted : (q : Qualifier) (to : CType) → IsPointerType c → layer_admits_layer (CType-F.Pointer q to) (out-CType c) ≡ Compatible → Pointed q to (Typed c)
  admitted q to p e =
      let out : out-CType c ≡ CType-F.Pointer p.0 p.1 = ap (λ (d : CType). out-CType d) p.2 ∙ ctype.outs-Pointer p.0 p.1 in
      qualified q p.0 to p.1 p.2 (sym (ap (λ (y : CType-F CType). layer_admits_layer (CType-F.Pointer q to) y) out) ∙ e)

  pointer : (q : Qualifier) (to : CType) (o : Operand) (by : Pointees) → layer_admits_layer (CType-F.Pointer q to) (out-CType c) ≡ by → OperandSays o c constant
      → Gives (Pointed q to) (assigned_pointer o by)
  pointer q to operand.Pointer Compatible e h = gives (Pointed q to) None (tt, admitted q to h e)
  pointer q to operand.Pointer Incompatible e h = refused (Pointed q to) _
  pointer q to (operand.NullConstant from) by e h = gives (Pointed q to) (Some conversion.NullPointer) (((from, ap Typed h.0), h.1), inl refl)
  pointer q to (operand.Integer from) by e h = refused (Pointed q to) _
  pointer q to operand.Void by e h = refused (Pointed q to) _
  pointer q to (operand.Struct number) by e h = refused (Pointed q to) _

  -- ---- structs

  abbrev OfStruct : ℕ → ExprType → Type 0
  OfStruct number e = e ≡ Typed (ctype.Struct number)

  numbered : (number other : ℕ) (same : Bool) → (number == other) ≡ same → c ≡ ctype.Struct other → Gives (OfStruct number) (if same then Ok None else Err Mismatch)
  numbered number other true e h = gives (OfStruct number) None (tt, ap Typed (h ∙ ap (λ (n : ℕ). ctype.Struct n) (sym (same-number-is number other e))))
  numbered number other false e h = refused (OfStruct number) _

  struct : (number : ℕ) (o : Operand) → OperandSays o c constant → Gives (OfStruct number) (assigned_struct (operand.Struct number) o)
  struct number (operand.Struct other) h = numbered number other (number == other) refl h
  struct number (operand.Integer from) h = refused (OfStruct number) _
  struct number (operand.NullConstant from) h = refused (OfStruct number) _
  struct number operand.Pointer h = refused (OfStruct number) _
  struct number operand.Void h = refused (OfStruct number) _

-- ---- what is assigned

at-layer : (y : CType-F CType) (value : TypedValue) (conversion : Option Conversion)
    → assigned (layer_kind y) (operand_beside (layer_kind y) value) (layer_admits_layer y (out-CType value.ctype)) ≡ Ok conversion
    → Becomes value.ctype (constant_of value.expr) (λ (e : ExprType). layer_admits e y) conversion
at-layer CType-F.Void value conversion h = absurd (cc)
at-layer (CType-F.Int t) value conversion h =
    integer value.ctype (constant_of value.expr) t (operand_beside (kind.Integer t) value) (beside-says (kind.Integer t) value) conversion h
at-layer (CType-F.Array count element) value conversion h = absurd (cc)
at-layer (CType-F.Struct number) value conversion h =
    struct value.ctype (constant_of value.expr) number (operand_beside (kind.Struct number) value) (beside-says (kind.Struct number) value) conversion h
at-layer (CType-F.Pointer q to) value conversion h =
    pointer value.ctype (constant_of value.expr) q to (operand_beside kind.Pointer value) (layer_admits_layer (CType-F.Pointer q to) (out-CType value.ctype)) refl (beside-says kind.Pointer value) conversion h

-- C11 6.5.16.1p1: what is assigned to an object of the type, by its conversion
pub assigned-fits : (target : CType) (value : TypedValue) (conversion : Option Conversion)
    → assigned (kind_of target) (operand_beside (kind_of target) value) (admits target value.ctype) ≡ Ok conversion
    → Becomes value.ctype (constant_of value.expr) (λ (e : ExprType). layer_admits e (out-CType target)) conversion
assigned-fits target value conversion h = at-layer (out-CType target) value conversion h
