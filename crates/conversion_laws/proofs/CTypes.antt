-- Types by the kinds of their values, and types that are the same.
use Rattle.std.proofs.Common.{◌≡◌, ℕ, ◌==◌, ◌&&◌, Bool, true, false, Option, None, Some, refl, ap, sym, subst, ◌∙◌, arith}
use Rattle.std.proofs.lemmas.Grind.{common_steps}
use Rattle.hy_bits.specs.declared.scalar.Scalar.{Scalar}
use Rattle.c_meaning.specs.declared.types.CType.{CType, out-CType, roll-CType, map-CType}
use Rattle.c_meaning.specs.declared.types.CType.TheViews.{roll-out-CType}
use Rattle.c_meaning.specs.declared.types.CType.TheOpen.{CType-F}
use Rattle.c_meaning.specs.declared.types.CType.TheVariants as ctype
use Rattle.c_meaning.specs.declared.types.CType.TheFolds.{ind-CType, fold-roll-CType}
use Rattle.c_meaning.specs.declared.types.Qualifier.{Qualifier}
use Rattle.c_meaning.specs.declared.types.Qualifier.TheVariants.{Unqualified, Const}
use Rattle.c_meaning.specs.declared.types.ValueKind.{ValueKind}
use Rattle.c_meaning.specs.declared.types.ValueKind.TheVariants as kind
use Rattle.c_meaning.specs.Types.{layer_kind, kind_of}
use Rattle.c_conversions.specs.CTypes.{same_qualifier, same_layer, same_type, IsTypeOf}
use Rattle.conversion_laws.proofs.Scalars.{same-scalar-is, both}

-- ---- types by kinds

abbrev pub IsPointerType : CType → Type 0
IsPointerType c = (q : Qualifier) × (to : CType) × (c ≡ ctype.Pointer q to)

-- what a type is, by the kind of its values
abbrev pub KindSays : ValueKind → CType → Type 0
KindSays kind.Void c = Unit {0}
KindSays (kind.Integer t) c = c ≡ ctype.Int t
KindSays kind.Pointer c = IsPointerType c
KindSays (kind.Struct number) c = c ≡ ctype.Struct number

layer-says : (y : CType-F CType) → KindSays (layer_kind y) (roll-CType y)
layer-says CType-F.Void = tt
layer-says (CType-F.Int t) = ctype.rolls-Int t
layer-says (CType-F.Array count element) = tt
layer-says (CType-F.Struct number) = ctype.rolls-Struct number
layer-says (CType-F.Pointer q to) = (q, to, ctype.rolls-Pointer q to)

pub kind-says : (c : CType) → KindSays (kind_of c) c
kind-says c = subst (λ (d : CType). KindSays (kind_of c) d) (roll-out-CType c) (layer-says (out-CType c))

-- ---- types that are the same (C11 6.2.7p1)

same-qualifier-is : (a b : Qualifier) → same_qualifier a b ≡ true → a ≡ b
same-qualifier-is Unqualified Unqualified h = refl
same-qualifier-is Unqualified Const h = cc
same-qualifier-is Const Unqualified h = cc
same-qualifier-is Const Const h = refl

pub same-number-is : (a b : ℕ) → (a == b) ≡ true → a ≡ b
same-number-is a b h = grind (arith, common_steps)

abbrev Told : CType → Type 0
Told c = (d : CType) → same_type c d ≡ true → c ≡ d

rolled : (y : CType-F CType) (d : CType) → same_type (roll-CType y) d ≡ same_layer (map-CType CType IsTypeOf same_type y) (out-CType d)
rolled y d = ap (λ (f : IsTypeOf). f d) (fold-roll-CType IsTypeOf (λ (layer : CType-F IsTypeOf) (other : CType). same_layer layer (out-CType other)) y)

layers : (X : Type 0) (of : X → CType) → ((x : X) → Told (of x)) → (y : CType-F X) (z : CType-F CType)
    → same_layer (map-CType CType IsTypeOf same_type (map-CType X CType of y)) z ≡ true → roll-CType (map-CType X CType of y) ≡ roll-CType z
layers X of told CType-F.Void CType-F.Void h = refl
layers X of told (CType-F.Int t) (CType-F.Int u) h = ap (λ (s : Scalar). roll-CType (CType-F.Int s)) (same-scalar-is t u h)
layers X of told (CType-F.Array count element) (CType-F.Array other to) h =
    let b : ((count == other) ≡ true) × (same_type (of element) to ≡ true) = both (count == other) (same_type (of element) to) h in
    ap (λ (n : ℕ). roll-CType (CType-F.Array n (of element))) (same-number-is count other b.0)
    ∙ ap (λ (c : CType). roll-CType (CType-F.Array other c)) (told element to b.1)
layers X of told (CType-F.Struct number) (CType-F.Struct other) h = ap (λ (n : ℕ). roll-CType (CType-F.Struct n)) (same-number-is number other h)
layers X of told (CType-F.Pointer q to) (CType-F.Pointer r other) h =
    let b : (same_qualifier q r ≡ true) × (same_type (of to) other ≡ true) = both (same_qualifier q r) (same_type (of to) other) h in
    ap (λ (s : Qualifier). roll-CType (CType-F.Pointer s (of to))) (same-qualifier-is q r b.0)
    ∙ ap (λ (c : CType). roll-CType (CType-F.Pointer r c)) (told to other b.1)
layers X of told y z h = absurd (cc)

node : (X : Type 0) (of : X → CType) → ((x : X) → Told (of x)) → (y : CType-F X) → Told (roll-CType (map-CType X CType of y))
node X of told y d h =
    layers X of told y (out-CType d) (sym (rolled (map-CType X CType of y) d) ∙ h) ∙ roll-out-CType d

pub same-type-is : (c d : CType) → same_type c d ≡ true → c ≡ d
same-type-is = ind-CType Told (λ x y is. subst (λ (z : CType-F CType). Told (roll-CType z)) is (node _ (λ e. e.0) (λ e. e.1) y))
