-- Scalar types that are the same, promotions, and conversions between integers.
use Rattle.std.proofs.Common.{◌≡◌, ◌&&◌, Bool, true, false, Option, None, Some, nat_le, if◌then◌else◌, refl, ap}
use Rattle.hy_bits.specs.declared.scalar.Scalar.{Scalar}
use Rattle.hy_bits.specs.declared.scalar.Scalar.TheVariants.{B1, S8, U8, S16, U16, S32, U32, S64, U64}
use Rattle.hy_bits.specs.Scalar.{is_signed}
use Rattle.c_meaning.specs.declared.operators.Conversion.{Conversion}
use Rattle.c_meaning.specs.declared.operators.Conversion.TheVariants as conversion
use Rattle.c_meaning.specs.Sizes.{promoted}
use Rattle.c_meaning.specs.Constants.{Constant}
use Rattle.c_meaning.specs.TypeRules.{ExprType, of_scalar, converted_where}
use Rattle.c_meaning.specs.Rules.{LeftFits}
use Rattle.c_conversions.specs.Scalars.{bits_of, same_sign, same_scalar, wider, unsigned_if_as_wide, usual, conversion_between}

-- a scalar type is told by its width and its sign
pub same-scalar-is : (a b : Scalar) → same_scalar a b ≡ true → a ≡ b
same-scalar-is B1 B1 h = refl
same-scalar-is S8 S8 h = refl
same-scalar-is U8 U8 h = refl
same-scalar-is S16 S16 h = refl
same-scalar-is U16 U16 h = refl
same-scalar-is S32 S32 h = refl
same-scalar-is U32 U32 h = refl
same-scalar-is S64 S64 h = refl
same-scalar-is U64 U64 h = refl
same-scalar-is a b h = cc

pub both : (a b : Bool) → (a && b) ≡ true → (a ≡ true) × (b ≡ true)
both true b h = (refl, h)
both false b h = absurd (cc)

-- ---- promotions (C11 6.3.1.1p2, 6.3.1.8)

pub promoted-twice : (t : Scalar) → promoted (promoted t) ≡ promoted t
promoted-twice B1 = refl
promoted-twice S8 = refl
promoted-twice U8 = refl
promoted-twice S16 = refl
promoted-twice U16 = refl
promoted-twice S32 = refl
promoted-twice U32 = refl
promoted-twice S64 = refl
promoted-twice U64 = refl

either : (test : Bool) (a b : Scalar) → promoted a ≡ a → promoted b ≡ b → promoted (if test then a else b) ≡ (if test then a else b)
either true a b h k = h
either false a b h k = k

pub usual-promoted : (a b : Scalar) → promoted (usual a b) ≡ usual a b
usual-promoted a b =
    let p = promoted a in
    let q = promoted b in
    let h : promoted p ≡ p = promoted-twice a in
    let k : promoted q ≡ q = promoted-twice b in
    either (same_sign p q) (wider p q) (if is_signed p then unsigned_if_as_wide q p else unsigned_if_as_wide p q)
    (either (nat_le (bits_of q) (bits_of p)) p q h k)
    (either (is_signed p) (unsigned_if_as_wide q p) (unsigned_if_as_wide p q)
    (either (nat_le (bits_of p) (bits_of q)) q p k h)
    (either (nat_le (bits_of q) (bits_of p)) p q h k))

-- ---- conversions between integers

abbrev Reaches : Scalar → Scalar → Constant → Option Conversion → Type 0
Reaches from to constant c = LeftFits c (of_scalar from) constant × (converted_where c (of_scalar from) ≡ of_scalar to)

reaches-where : (from to : Scalar) (constant : Constant) (same : Bool) → same_scalar from to ≡ same → Reaches from to constant (if same then None else Some (conversion.Integer from to))
reaches-where from to constant true h = (tt, ap of_scalar (same-scalar-is from to h))
reaches-where from to constant false h = (refl, refl)

-- a conversion is of the type that it is from, and gives the type that it is to
pub reaches : (from to : Scalar) (constant : Constant)
    → LeftFits (conversion_between from to) (of_scalar from) constant × (converted_where (conversion_between from to) (of_scalar from) ≡ of_scalar to)
reaches from to constant = reaches-where from to constant (same_scalar from to) refl
