-- Types of pointers: what they point to, and pointers to one type.
use Rattle.std.proofs.Common.{◌≡◌, inl, inr, Bool, true, false, Option, None, Some, IsSome, refl, ap, sym, subst, ◌∙◌}
use Rattle.c_meaning.specs.declared.types.CType.{CType, out-CType}
use Rattle.c_meaning.specs.declared.types.CType.TheOpen.{CType-F}
use Rattle.c_meaning.specs.declared.types.CType.TheVariants as ctype
use Rattle.c_meaning.specs.declared.types.Qualifier.{Qualifier}
use Rattle.c_meaning.specs.declared.types.Qualifier.TheVariants.{Unqualified, Const}
use Rattle.c_meaning.specs.declared.types.ValueKind.{ValueKind}
use Rattle.c_meaning.specs.declared.types.ValueKind.TheVariants as kind
use Rattle.c_meaning.specs.Types.{layer_kind, kind_of}
use Rattle.c_meaning.specs.TypeRules.{ExprType, AnyPointer, Typed, Designated, pointee, layer_pointee}
use Rattle.c_meaning.specs.Rules.{is_pointer_type, ArePointersAlike}
use Rattle.c_conversions.specs.declared.operands.Pointees.{Pointees}
use Rattle.c_conversions.specs.declared.operands.Pointees.TheVariants.{Compatible, Incompatible}
use Rattle.c_conversions.specs.CTypes.{same_type}
use Rattle.c_typing.specs.Values.{compatible_if, layers_compatible, pointees}
use Rattle.conversion_laws.proofs.CTypes.{IsPointerType, same-type-is}

pub pointer-kind : (c : CType) → IsPointerType c → kind_of c ≡ kind.Pointer
pointer-kind c p = ap (λ (d : CType). kind_of d) p.2 ∙ ap layer_kind (ctype.outs-Pointer p.0 p.1)

pub pointer-points : (c : CType) (p : IsPointerType c) → pointee (Typed c) ≡ record { ctype = Some p.1; qualifier = p.0 }
pointer-points c p = ap (λ (d : CType). pointee (Typed d)) p.2 ∙ ap layer_pointee (ctype.outs-Pointer p.0 p.1)

pub points-to-some : (c : CType) → IsPointerType c → IsSome (pointee (Typed c)).ctype
points-to-some c p = subst (λ (d : Designated). IsSome d.ctype) (sym (pointer-points c p)) refl

abbrev is_pointer_kind : ValueKind → Bool
is_pointer_kind by = elim by [ kind.Void ↦ false | kind.Integer t ↦ false | kind.Pointer ↦ true | kind.Struct number ↦ false ]

pub pointer-is : (c : CType) → IsPointerType c → is_pointer_type (Typed c) ≡ true
pointer-is c p = ap is_pointer_kind (pointer-kind c p)

pub compatible-is : (same : Bool) → compatible_if same ≡ Compatible → same ≡ true
compatible-is true h = refl
compatible-is false h = absurd (cc)

compared : (q r : Qualifier) (to other : CType) → pointees (ctype.Pointer q to) (ctype.Pointer r other) ≡ compatible_if (same_type to other)
compared q r to other =
    ap (λ (y : CType-F CType). layers_compatible y (out-CType (ctype.Pointer r other))) (ctype.outs-Pointer q to)
    ∙ ap (λ (y : CType-F CType). layers_compatible (CType-F.Pointer q to) y) (ctype.outs-Pointer r other)

pub point-alike : (left right : CType) (p : IsPointerType left) (r : IsPointerType right) → pointees left right ≡ Compatible → p.1 ≡ r.1
point-alike left right p r h =
    let here : pointees left right ≡ compatible_if (same_type p.1 r.1) =
    ap (λ (c : CType). pointees c right) p.2 ∙ ap (λ (c : CType). pointees (ctype.Pointer p.0 p.1) c) r.2 ∙ compared p.0 r.0 p.1 r.1 in
    same-type-is p.1 r.1 (compatible-is (same_type p.1 r.1) (sym here ∙ h))

-- C11 6.5.9p2: pointers to one type
pub alike : (left right : CType) → IsPointerType left → IsPointerType right → pointees left right ≡ Compatible → ArePointersAlike (Typed left) (Typed right)
alike left right p r h =
    let ends : (pointee (Typed left)).ctype ≡ (pointee (Typed right)).ctype =
    ap (λ (d : Designated). d.ctype) (pointer-points left p) ∙ ap (λ (c : CType). Some c) (point-alike left right p r h)
    ∙ sym (ap (λ (d : Designated). d.ctype) (pointer-points right r)) in
    (pointer-is left p, pointer-is right r, inr (inr ends))

-- and a null pointer beside a pointer
pub null-on-right : (left : CType) → IsPointerType left → ArePointersAlike (Typed left) AnyPointer
null-on-right left p = (pointer-is left p, refl, inr (inl refl))

pub null-on-left : (right : CType) → IsPointerType right → ArePointersAlike AnyPointer (Typed right)
null-on-left right r = (refl, pointer-is right r, inl refl)
