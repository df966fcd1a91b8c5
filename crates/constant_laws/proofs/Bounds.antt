-- Operations, signs and conversions give words of the types of their results, whatever the numbers that they are given.
use Rattle.std.proofs.Common.{◌≤◌, ◌<◌, ◌-◌, ◌/◌, ◌%◌, ◌^◌, ◌==◌, ℕ, min, Bool, true, false, if◌then◌else◌, arith}
use Rattle.std.proofs.Math.Nat.{mod-lt, mod-le, div-le_self, lt_of_le_of_lt}
use Rattle.std.specs.Int.Bits.{and_lt}
use Rattle.std.proofs.lemmas.Nat.{or_lt, xor_lt}
use Rattle.hy_bits.specs.declared.scalar.Scalar.{Scalar}
use Rattle.hy_bits.specs.declared.scalar.Scalar.TheVariants.{B1, S8, U8, S16, U16, S32, U32, S64, U64}
use Rattle.hy_bits.specs.Bits.{bit}
use Rattle.hy_bits.specs.Scalar.{scalar_width, is_signed}
use Rattle.hy_bits.specs.Words.{bits, is_negative, signed, word_div_u, word_div_s, word_rem_u, word_rem_s, word_extend}
use Rattle.hy_bits.proofs.BitLaws.{bit-lt}
use Rattle.hy_bits.proofs.WordLaws.{residue-lt}
use Rattle.c_meaning.specs.declared.operators.ArithmeticOperator.{ArithmeticOperator}
use Rattle.c_meaning.specs.declared.operators.ArithmeticOperator.TheVariants as operator
use Rattle.c_meaning.specs.declared.operators.ArithmeticSign.{ArithmeticSign}
use Rattle.c_meaning.specs.declared.operators.ArithmeticSign.TheVariants as sign
use Rattle.c_meaning.specs.declared.operators.ShiftOperator.{ShiftOperator}
use Rattle.c_meaning.specs.declared.operators.ShiftOperator.TheVariants as shift
use Rattle.c_meaning.specs.declared.operators.IntegerOperation.{IntegerOperation}
use Rattle.c_meaning.specs.declared.operators.IntegerOperation.TheVariants as integer
use Rattle.c_meaning.specs.Operations.{modulus_of, low, converted_to, arithmetic, shifted, left_type, operated, signed_by}

-- ---- numbers

pub two-most : (t : Scalar) → 2 ≤ modulus_of t
two-most B1 = omega arith
two-most S8 = omega arith
two-most U8 = omega arith
two-most S16 = omega arith
two-most U16 = omega arith
two-most S32 = omega arith
two-most U32 = omega arith
two-most S64 = omega arith
two-most U64 = omega arith

some : (t : Scalar) → 0 < modulus_of t
some t = let two = two-most t in omega (arith, two)

pub low-lt : (t : Scalar) (w : ℕ) → low t w < modulus_of t
low-lt t w = mod-lt w (some t)

pub bit-of : (t : Scalar) (b : Bool) → bit b < modulus_of t
bit-of t b = let two = two-most t in let one = bit-lt b in omega (arith, two, one)

if-lt : (b : Bool) (x y m : ℕ) → x < m → y < m → (if b then x else y) < m
if-lt true x y m h k = h
if-lt false x y m h k = k

module _ (m : ℕ) (two : 2 ≤ m) where
  div-u-lt : (a b : ℕ) → a < m → word_div_u m a b < m
  div-u-lt a b h = if-lt (b == 0) (m - 1) (a / b) m (omega (arith, two)) (lt_of_le_of_lt (div-le_self a b) h)

  rem-u-lt : (a b : ℕ) → a < m → word_rem_u a b < m
  rem-u-lt a b h = if-lt (b == 0) a (a % b) m h (lt_of_le_of_lt (mod-le a b) h)

  div-s-lt : (a b : ℕ) → word_div_s m a b < m
  div-s-lt a b =
      if-lt (b == 0) (if is_negative m a then 1 else m - 1) _ m (if-lt (is_negative m a) 1 (m - 1) m (omega (arith, two)) (omega (arith, two))) (residue-lt m _ (omega (arith, two)))

  rem-s-lt : (a b : ℕ) → a < m → word_rem_s m a b < m
  rem-s-lt a b h = if-lt (b == 0) a _ m h (residue-lt m _ (omega (arith, two)))

-- ---- operations

arithmetic-lt : (o : ArithmeticOperator) (t : Scalar) (a b : ℕ) → a < modulus_of t → b < modulus_of t → arithmetic o t a b < modulus_of t
arithmetic-lt operator.Multiply t a b h k = mod-lt _ (some t)
arithmetic-lt operator.Divide t a b h k = if-lt (is_signed t) _ _ (modulus_of t) (div-s-lt (modulus_of t) (two-most t) a b) (div-u-lt (modulus_of t) (two-most t) a b h)
arithmetic-lt operator.Remainder t a b h k = if-lt (is_signed t) _ _ (modulus_of t) (rem-s-lt (modulus_of t) (two-most t) a b h) (rem-u-lt (modulus_of t) (two-most t) a b h)
arithmetic-lt operator.Add t a b h k = mod-lt _ (some t)
arithmetic-lt operator.Subtract t a b h k = mod-lt _ (some t)
arithmetic-lt operator.And t a b h k = and_lt (bits (scalar_width t)) a b h k
arithmetic-lt operator.Xor t a b h k = xor_lt (bits (scalar_width t)) a b h k
arithmetic-lt operator.Or t a b h k = or_lt (bits (scalar_width t)) a b h k

shifted-lt : (o : ShiftOperator) (t : Scalar) (a count : ℕ) → a < modulus_of t → shifted o t a count < modulus_of t
shifted-lt shift.Left t a count h = mod-lt _ (some t)
shifted-lt shift.Right t a count h =
    if-lt (is_signed t) _ _ (modulus_of t) (residue-lt (modulus_of t) _ (some t)) (lt_of_le_of_lt (div-le_self a (2 ^ min count (bits (scalar_width t)))) h)

-- C11 6.5.5 to 6.5.12
pub operated-lt : (op : IntegerOperation) (a b : ℕ) → operated op a b < modulus_of (left_type op)
operated-lt (integer.Arithmetic o t) a b = arithmetic-lt o t (low t a) (low t b) (low-lt t a) (low-lt t b)
operated-lt (integer.Shift o t count) a b = shifted-lt o t (low t a) (low count b) (low-lt t a)

-- C11 6.5.3.3
pub signed-lt : (op : ArithmeticSign) (t : Scalar) (a : ℕ) → signed_by op t a < modulus_of t
signed-lt sign.Plus t a = low-lt t a
signed-lt sign.Minus t a = mod-lt _ (some t)
signed-lt sign.Complement t a = let one = some t in omega (arith, one)

extend-lt : (m k : ℕ) (by : Bool) (a : ℕ) → 0 < k → word_extend m k by a < k
extend-lt m k true a more = residue-lt k (signed m a) more
extend-lt m k false a more = mod-lt a more

-- C11 6.3.1.2, 6.3.1.3
pub converted-lt : (from to : Scalar) (w : ℕ) → converted_to from to w < modulus_of to
converted-lt from B1 w = bit-of B1 _
converted-lt from S8 w = extend-lt (modulus_of from) (modulus_of S8) (is_signed from) (low from w) (some S8)
converted-lt from U8 w = extend-lt (modulus_of from) (modulus_of U8) (is_signed from) (low from w) (some U8)
converted-lt from S16 w = extend-lt (modulus_of from) (modulus_of S16) (is_signed from) (low from w) (some S16)
converted-lt from U16 w = extend-lt (modulus_of from) (modulus_of U16) (is_signed from) (low from w) (some U16)
converted-lt from S32 w = extend-lt (modulus_of from) (modulus_of S32) (is_signed from) (low from w) (some S32)
converted-lt from U32 w = extend-lt (modulus_of from) (modulus_of U32) (is_signed from) (low from w) (some U32)
converted-lt from S64 w = extend-lt (modulus_of from) (modulus_of S64) (is_signed from) (low from w) (some S64)
converted-lt from U64 w = extend-lt (modulus_of from) (modulus_of U64) (is_signed from) (low from w) (some U64)
