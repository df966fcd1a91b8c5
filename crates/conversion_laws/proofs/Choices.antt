-- "?:" by what its second and third operands are: the conversions and the branches fit, and give the type that typing tells.
use Rattle.std.proofs.Common.{◌≡◌, Option, None, Some, Result, Ok, Err, refl, ap, sym, subst, ◌∙◌}
use Rattle.hy_bits.specs.declared.scalar.Scalar.{Scalar}
use Rattle.c_meaning.specs.declared.types.CType.{CType, out-CType}
use Rattle.c_meaning.specs.declared.types.CType.TheOpen.{CType-F}
use Rattle.c_meaning.specs.declared.types.CType.TheVariants as ctype
use Rattle.c_meaning.specs.declared.types.Qualifier.{Qualifier}
use Rattle.c_meaning.specs.declared.types.Qualifier.TheVariants.{Unqualified, Const}
use Rattle.c_meaning.specs.declared.types.ValueKind.{ValueKind}
use Rattle.c_meaning.specs.declared.types.ValueKind.TheVariants as kind
use Rattle.c_meaning.specs.declared.operators.Conversion.TheVariants as conversion
use Rattle.c_meaning.specs.declared.expressions.TypedExpr.{TypedExpr}
use Rattle.c_meaning.specs.Types.{kind_of}
use Rattle.c_meaning.specs.Constants.{Constant, constant_of}
use Rattle.c_meaning.specs.TypeRules.{Scope, ExprType, Typed, AnyPointer, Designated, of_scalar, pointee, either_const, layer_with, chosen_type, converted_where, type_of}
use Rattle.c_meaning.specs.Rules.{LeftFits, BranchesFit, ArePointersAlike}
use Rattle.c_conversions.specs.declared.fault.TypeKind.{TypeKind}
use Rattle.c_conversions.specs.declared.operands.Pointees.{Pointees}
use Rattle.c_conversions.specs.declared.operands.Pointees.TheVariants.{Compatible, Incompatible}
use Rattle.c_conversions.specs.declared.operands.Sides.{Sides}
use Rattle.c_conversions.specs.declared.operands.Sides.TheVariants as sides
use Rattle.c_conversions.specs.declared.operators.Branches.{Branches}
use Rattle.c_conversions.specs.Scalars.{usual, conversion_between}
use Rattle.c_conversions.specs.Operators.{sides_of, chosen_at, chosen}
use Rattle.c_typing.specs.declared.values.TypedValue.{TypedValue}
use Rattle.c_typing.specs.Values.{operand_beside, pointees, either_qualifier, chosen_layer, chosen_ctype}
use Rattle.conversion_laws.proofs.Scalars.{reaches}
use Rattle.conversion_laws.proofs.CTypes.{IsPointerType}
use Rattle.conversion_laws.proofs.Pointers.{pointer-points, alike, null-on-left, null-on-right}
use Rattle.conversion_laws.proofs.Sides.{SidesSay, sides-say, beside-says, ok-is}

-- `BranchesFit` by the types of both branches alone
abbrev pub BranchTypesFit : ValueKind → ExprType → ExprType → Type 0
BranchTypesFit kind.Void second third = ⊥
BranchTypesFit (kind.Integer t) second third = (second ≡ of_scalar t) × (third ≡ of_scalar t)
BranchTypesFit kind.Pointer second third = ArePointersAlike second third
BranchTypesFit (kind.Struct number) second third = ⊥

pub branches-fit : (scope : Scope) (by : ValueKind) (second third : TypedExpr) → BranchTypesFit by (type_of scope second) (type_of scope third) → BranchesFit scope by second third
branches-fit scope kind.Void second third h = h
branches-fit scope (kind.Integer t) second third h = h
branches-fit scope kind.Pointer second third h = h
branches-fit scope (kind.Struct number) second third h = h

-- the conversions fit the types of both operands and their words, the branches fit, and what is chosen has the type that typing tells
abbrev pub ChoiceFits : CType → CType → Constant → Constant → Branches → Type 0
ChoiceFits left right first second b =
    LeftFits b.second (Typed left) first × LeftFits b.third (Typed right) second
    × BranchTypesFit b.kind (converted_where b.second (Typed left)) (converted_where b.third (Typed right))
    × (chosen_type (converted_where b.second (Typed left)) (converted_where b.third (Typed right)) ≡ Typed (chosen_ctype b.kind left right))

-- ---- integers (C11 6.5.15p5)

abbrev integers_of : Scalar → Scalar → Branches
integers_of a b = record { kind = kind.Integer (usual a b); second = conversion_between a (usual a b); third = conversion_between b (usual a b) }

integer-chosen : (t : Scalar) (third : ExprType) → chosen_type (of_scalar t) third ≡ of_scalar t
integer-chosen t third = ap (λ (y : CType-F CType). layer_with (pointee third).qualifier (ctype.Int t) y) (ctype.outs-Int t)

on-integers : (a b : Scalar) (first second : Constant) → ChoiceFits (ctype.Int a) (ctype.Int b) first second (integers_of a b)
on-integers a b first second =
    let l = reaches a (usual a b) first in
    let r = reaches b (usual a b) second in
    let other = converted_where (conversion_between b (usual a b)) (of_scalar b) in
    (l.0, r.0, (l.1, r.1), ap (λ (x : ExprType). chosen_type x other) l.1 ∙ integer-chosen (usual a b) other)

integers : (a b : Scalar) (left right : CType) (first second : Constant) → left ≡ ctype.Int a → right ≡ ctype.Int b → ChoiceFits left right first second (integers_of a b)
integers a b left right first second l r =
    subst (λ (x : CType). ChoiceFits x right first second (integers_of a b)) (sym l)
    (subst (λ (y : CType). ChoiceFits (ctype.Int a) y first second (integers_of a b)) (sym r) (on-integers a b first second))

-- ---- pointers (C11 6.5.15p6)

out-pointer : (c : CType) (p : IsPointerType c) → out-CType c ≡ CType-F.Pointer p.0 p.1
out-pointer c p = ap (λ (d : CType). out-CType d) p.2 ∙ ctype.outs-Pointer p.0 p.1

out-integer : (c : CType) (t : Scalar) → c ≡ ctype.Int t → out-CType c ≡ CType-F.Int t
out-integer c t h = ap (λ (d : CType). out-CType d) h ∙ ctype.outs-Int t

either-same : (q r : Qualifier) → either_const q r ≡ either_qualifier q r
either-same Unqualified r = refl
either-same Const r = refl

either-none : (q : Qualifier) → either_const q Unqualified ≡ q
either-none Unqualified = refl
either-none Const = refl

pointers-chosen : (left right : CType) → IsPointerType left → IsPointerType right → chosen_type (Typed left) (Typed right) ≡ Typed (chosen_ctype kind.Pointer left right)
pointers-chosen left right p r =
    let here : chosen_type (Typed left) (Typed right) ≡ Typed (ctype.Pointer (either_const p.0 (pointee (Typed right)).qualifier) p.1) =
    ap (λ (y : CType-F CType). layer_with (pointee (Typed right)).qualifier left y) (out-pointer left p) in
    let there : chosen_ctype kind.Pointer left right ≡ ctype.Pointer (either_qualifier p.0 r.0) p.1 =
    ap (λ (y : CType-F CType). chosen_layer left right y (out-CType right)) (out-pointer left p)
    ∙ ap (λ (y : CType-F CType). chosen_layer left right (CType-F.Pointer p.0 p.1) y) (out-pointer right r) in
    here
    ∙ ap (λ (d : Designated). Typed (ctype.Pointer (either_const p.0 d.qualifier) p.1)) (pointer-points right r)
    ∙ ap (λ (q : Qualifier). Typed (ctype.Pointer q p.1)) (either-same p.0 r.0)
    ∙ sym (ap Typed there)

null-third : (left right : CType) (t : Scalar) → IsPointerType left → right ≡ ctype.Int t → chosen_type (Typed left) AnyPointer ≡ Typed (chosen_ctype kind.Pointer left right)
null-third left right t p r =
    let there : chosen_ctype kind.Pointer left right ≡ left =
    ap (λ (y : CType-F CType). chosen_layer left right y (out-CType right)) (out-pointer left p)
    ∙ ap (λ (y : CType-F CType). chosen_layer left right (CType-F.Pointer p.0 p.1) y) (out-integer right t r) in
    ap (λ (y : CType-F CType). layer_with Unqualified left y) (out-pointer left p)
    ∙ ap (λ (q : Qualifier). Typed (ctype.Pointer q p.1)) (either-none p.0)
    ∙ ap Typed (sym p.2)
    ∙ sym (ap Typed there)

null-second : (left right : CType) (t : Scalar) → left ≡ ctype.Int t → chosen_type AnyPointer (Typed right) ≡ Typed (chosen_ctype kind.Pointer left right)
null-second left right t l = sym (ap (λ (y : CType-F CType). Typed (chosen_layer left right y (out-CType right))) (out-integer left t l))

-- ---- the table

module _ (left right : CType) (first second : Constant) where
  abbrev Fits : Branches → Type 0
  Fits = ChoiceFits left right first second

  abbrev Gives : Result Branches TypeKind → Type 0
  Gives r = (b : Branches) → r ≡ Ok b → Fits b

  gives : (given : Branches) → Fits given → Gives (Ok given)
  gives given fits b h = subst Fits (ok-is given b h) fits

  refused : (fault : TypeKind) → Gives (Err fault)
  refused fault b h = absurd (cc)

  sides-give : (at : Sides) (compared : Pointees) → pointees left right ≡ compared → SidesSay at left right first second → Gives (chosen_at at compared)
  sides-give (sides.Integers a b) compared e s = gives (integers_of a b) (integers a b left right first second s.0 s.1)
  sides-give sides.Pointers Compatible e s = gives _ (tt, tt, alike left right s.0 s.1 e, pointers-chosen left right s.0 s.1)
  sides-give (sides.PointerAndNull t) compared e s =
      gives _ (tt, ((t, ap Typed s.1), s.2), null-on-right left s.0, null-third left right t s.0 s.1)
  sides-give (sides.NullAndPointer t) compared e s =
      gives _ (((t, ap Typed s.0), s.1), tt, null-on-left right s.2, null-second left right t s.0)
  sides-give at compared e s = refused _

-- C11 6.5.15p3
pub choice-fits : (second third : TypedValue) (b : Branches)
    → chosen (operand_beside (kind_of third.ctype) second) (operand_beside (kind_of second.ctype) third) (pointees second.ctype third.ctype) ≡ Ok b
    → ChoiceFits second.ctype third.ctype (constant_of second.expr) (constant_of third.expr) b
choice-fits second third b h =
    let l = operand_beside (kind_of third.ctype) second in
    let r = operand_beside (kind_of second.ctype) third in
    sides-give second.ctype third.ctype (constant_of second.expr) (constant_of third.expr) (sides_of l r) (pointees second.ctype third.ctype) refl
    (sides-say l r second.ctype third.ctype (constant_of second.expr) (constant_of third.expr) (beside-says (kind_of third.ctype) second) (beside-says (kind_of second.ctype) third))
    b h
