-- The scalar types of C with their widths and signs (C11 6.2.5). A `_Bool` is one bit.
use Rattle.std.specs.Prelude.{Bool, true, false}
use Rattle.hy_bits.specs.declared.width.Width.{Width}
use Rattle.hy_bits.specs.declared.width.Width.TheVariants.{W1, W8, W16, W32, W64}
use Rattle.hy_bits.specs.declared.scalar.Scalar.{Scalar}
use Rattle.hy_bits.specs.declared.scalar.Scalar.TheVariants.{B1, S8, U8, S16, U16, S32, U32, S64, U64}

abbrev pub scalar_width : Scalar → Width
scalar_width B1 = W1
scalar_width S8 = W8
scalar_width U8 = W8
scalar_width S16 = W16
scalar_width U16 = W16
scalar_width S32 = W32
scalar_width U32 = W32
scalar_width S64 = W64
scalar_width U64 = W64

abbrev pub is_signed : Scalar → Bool
is_signed B1 = false
is_signed S8 = true
is_signed U8 = false
is_signed S16 = true
is_signed U16 = false
is_signed S32 = true
is_signed U32 = false
is_signed S64 = true
is_signed U64 = false
