-- Conversions between scalar types (C11 6.3.1).
use Rattle.std.specs.Prelude.{ℕ, ◌==◌, Bool, not, ◌&&◌, nat_le, if◌then◌else◌, Option, None, Some}
use Rattle.hy_bits.specs.declared.scalar.Scalar.{Scalar}
use Rattle.hy_bits.specs.Scalar.{scalar_width, is_signed}
use Rattle.hy_bits.specs.Words.{bits}
use Rattle.c_meaning.specs.declared.operators.Conversion.{Conversion}
use Rattle.c_meaning.specs.declared.operators.Conversion.TheVariants as conversion
use Rattle.c_meaning.specs.Sizes.{promoted}

abbrev pub bits_of : Scalar → ℕ
bits_of t = bits (scalar_width t)

abbrev pub same_sign : Scalar → Scalar → Bool
same_sign a b = if is_signed a then is_signed b else not (is_signed b)

-- a scalar type is told by its width and its sign
abbrev pub same_scalar : Scalar → Scalar → Bool
same_scalar a b = bits_of a == bits_of b && same_sign a b

abbrev pub wider : Scalar → Scalar → Scalar
wider a b = if nat_le (bits_of b) (bits_of a) then a else b

-- an unsigned type where it is at least as wide as the signed one
abbrev pub unsigned_if_as_wide : Scalar → Scalar → Scalar
unsigned_if_as_wide unsigned signed = if nat_le (bits_of signed) (bits_of unsigned) then unsigned else signed

abbrev pub usual_of_promoted : Scalar → Scalar → Scalar
usual_of_promoted a b =
    if same_sign a b then wider a b
    else if is_signed a then unsigned_if_as_wide b a
    else unsigned_if_as_wide a b

-- C11 6.3.1.8: the usual arithmetic conversions
abbrev pub usual : Scalar → Scalar → Scalar
usual a b = usual_of_promoted (promoted a) (promoted b)

-- the conversion that is written out, if the types differ
abbrev pub conversion_between : Scalar → Scalar → Option Conversion
conversion_between from to = if same_scalar from to then None else Some (conversion.Integer from to)
