-- Operations on integers: their words, and where C11 leaves them undefined.
use Rattle.std.specs.Prelude.{ℕ, ◌-◌, ◌/◌, ◌%◌, ◌^◌, ◌==◌, Bool, not, ◌&&◌, ◌||◌, nat_lt, nat_le, if◌then◌else◌, Option, None, Some, ℤ, pos, negsuc, ◌+ℤ◌, ◌-ℤ◌, ◌*ℤ◌, neg_ℤ, int_div, int_lt, int_le, bit_and, bit_or, bit_xor}
use Rattle.hy_bits.specs.declared.scalar.Scalar.{Scalar}
use Rattle.hy_bits.specs.declared.scalar.Scalar.TheVariants.{B1, S8, U8, S16, U16, S32, U32, S64, U64}
use Rattle.hy_bits.specs.Bits.{bit}
use Rattle.hy_bits.specs.Scalar.{scalar_width, is_signed}
use Rattle.hy_bits.specs.Words.{bits, modulus, signed, is_negative, word_add, word_sub, word_mul, word_neg, word_div_u, word_div_s, word_rem_u, word_rem_s, word_not, word_shl, word_shr_u, word_shr_s, is_less_s, word_extend}
use Rattle.c_meaning.specs.declared.operators.ArithmeticOperator.{ArithmeticOperator}
use Rattle.c_meaning.specs.declared.operators.ArithmeticOperator.TheVariants as operator
use Rattle.c_meaning.specs.declared.operators.ShiftOperator.{ShiftOperator}
use Rattle.c_meaning.specs.declared.operators.ShiftOperator.TheVariants as shift
use Rattle.c_meaning.specs.declared.operators.Comparison.{Comparison}
use Rattle.c_meaning.specs.declared.operators.Comparison.TheVariants as comparison
use Rattle.c_meaning.specs.declared.operators.Equality.{Equality}
use Rattle.c_meaning.specs.declared.operators.Equality.TheVariants as equality
use Rattle.c_meaning.specs.declared.operators.IntegerOperation.{IntegerOperation}
use Rattle.c_meaning.specs.declared.operators.IntegerOperation.TheVariants as operation
use Rattle.c_meaning.specs.declared.operators.ArithmeticSign.{ArithmeticSign}
use Rattle.c_meaning.specs.declared.operators.ArithmeticSign.TheVariants as sign
use Rattle.c_meaning.specs.declared.values.Undefined.{Undefined}
use Rattle.c_meaning.specs.declared.values.Undefined.TheVariants.{Overflow, Divide, Shift}

-- ---- words and what they are read as. Each operation takes the low bits of the words that it is given, as many as its type has

-- two to the number of bits of a type
abbrev pub modulus_of : Scalar → ℕ
modulus_of t = modulus (scalar_width t)

-- the low bits of a word
abbrev pub low : Scalar → ℕ → ℕ
low t word = word % modulus_of t

-- the number that a word of the type is read as
abbrev pub reading : Scalar → ℕ → ℤ
reading t word = if is_signed t then signed (modulus_of t) word else pos word

-- no word of the signed type is read as the number
abbrev pub is_out_of_range : Scalar → ℤ → Bool
is_out_of_range t z = not (int_le (negsuc (modulus_of t / 2 - 1)) z && int_lt z (pos (modulus_of t / 2)))

-- the type is signed and doesn't hold the number
abbrev pub overflows : Scalar → ℤ → Bool
overflows t z = is_signed t && is_out_of_range t z

-- ---- conversions

-- C11 6.3.1.2, 6.3.1.3: to a `_Bool` 0 for 0 and else 1; to another type the value modulo two to its number of bits
abbrev pub converted_to : Scalar → Scalar → ℕ → ℕ
converted_to from B1 word = bit (not (low from word == 0))
converted_to from S8 word = word_extend (modulus_of from) (modulus_of S8) (is_signed from) (low from word)
converted_to from U8 word = word_extend (modulus_of from) (modulus_of U8) (is_signed from) (low from word)
converted_to from S16 word = word_extend (modulus_of from) (modulus_of S16) (is_signed from) (low from word)
converted_to from U16 word = word_extend (modulus_of from) (modulus_of U16) (is_signed from) (low from word)
converted_to from S32 word = word_extend (modulus_of from) (modulus_of S32) (is_signed from) (low from word)
converted_to from U32 word = word_extend (modulus_of from) (modulus_of U32) (is_signed from) (low from word)
converted_to from S64 word = word_extend (modulus_of from) (modulus_of S64) (is_signed from) (low from word)
converted_to from U64 word = word_extend (modulus_of from) (modulus_of U64) (is_signed from) (low from word)

-- ---- binary operators

-- the words, where x / 0 is all ones, or at a signed type 1 for a negative x and else -1, and x % 0 is x
abbrev pub arithmetic : ArithmeticOperator → Scalar → ℕ → ℕ → ℕ
arithmetic operator.Multiply t a b = word_mul (modulus_of t) a b
arithmetic operator.Divide t a b = if is_signed t then word_div_s (modulus_of t) a b else word_div_u (modulus_of t) a b
arithmetic operator.Remainder t a b = if is_signed t then word_rem_s (modulus_of t) a b else word_rem_u a b
arithmetic operator.Add t a b = word_add (modulus_of t) a b
arithmetic operator.Subtract t a b = word_sub (modulus_of t) a b
arithmetic operator.And t a b = bit_and a b
arithmetic operator.Xor t a b = bit_xor a b
arithmetic operator.Or t a b = bit_or a b

abbrev pub where_is : Bool → Undefined → Option Undefined
where_is undefined kind = if undefined then Some kind else None

-- C11 6.5.5p5, p6: by zero, or a quotient that the type doesn't hold
abbrev pub undefined_quotient : Scalar → ℕ → ℕ → Option Undefined
undefined_quotient t a b = if b == 0 then Some Divide else where_is (overflows t (int_div (reading t a) (reading t b))) Overflow

-- C11 6.5p5
abbrev pub undefined_arithmetic : ArithmeticOperator → Scalar → ℕ → ℕ → Option Undefined
undefined_arithmetic operator.Multiply t a b = where_is (overflows t (reading t a *ℤ reading t b)) Overflow
undefined_arithmetic operator.Divide t a b = undefined_quotient t a b
undefined_arithmetic operator.Remainder t a b = undefined_quotient t a b
undefined_arithmetic operator.Add t a b = where_is (overflows t (reading t a +ℤ reading t b)) Overflow
undefined_arithmetic operator.Subtract t a b = where_is (overflows t (reading t a -ℤ reading t b)) Overflow
undefined_arithmetic operator.And t a b = None
undefined_arithmetic operator.Xor t a b = None
undefined_arithmetic operator.Or t a b = None

-- a count is read as unsigned. One that is at least the width leaves nothing of the word but, in a signed shift to the right, its sign
abbrev pub shifted : ShiftOperator → Scalar → ℕ → ℕ → ℕ
shifted shift.Left t a count = word_shl (bits (scalar_width t)) a count
shifted shift.Right t a count = if is_signed t then word_shr_s (bits (scalar_width t)) a count else word_shr_u (bits (scalar_width t)) a count

-- C11 6.5.7p3, p4
abbrev pub undefined_shift : ShiftOperator → Scalar → ℕ → ℕ → Option Undefined
undefined_shift shift.Left t a count =
    where_is (nat_le (bits (scalar_width t)) count || is_signed t && (is_negative (modulus_of t) a || overflows t (pos a *ℤ pos (2 ^ count)))) Shift
undefined_shift shift.Right t a count = where_is (nat_le (bits (scalar_width t)) count) Shift

-- the type that an operation is done in, which is that of its left side, and the type of its right side
abbrev pub left_type : IntegerOperation → Scalar
left_type (operation.Arithmetic op t) = t
left_type (operation.Shift op t count) = t

abbrev pub right_type : IntegerOperation → Scalar
right_type (operation.Arithmetic op t) = t
right_type (operation.Shift op t count) = count

abbrev pub operated : IntegerOperation → ℕ → ℕ → ℕ
operated (operation.Arithmetic op t) a b = arithmetic op t (low t a) (low t b)
operated (operation.Shift op t count) a b = shifted op t (low t a) (low count b)

abbrev pub undefined_operation : IntegerOperation → ℕ → ℕ → Option Undefined
undefined_operation (operation.Arithmetic op t) a b = undefined_arithmetic op t (low t a) (low t b)
undefined_operation (operation.Shift op t count) a b = undefined_shift op t (low t a) (low count b)

-- C11 6.5.8, 6.5.9
abbrev pub is_less : Scalar → ℕ → ℕ → Bool
is_less t a b = if is_signed t then is_less_s (modulus_of t) a b else nat_lt a b

abbrev pub comparing : Comparison → Scalar → ℕ → ℕ → Bool
comparing comparison.Less t a b = is_less t a b
comparing comparison.Greater t a b = is_less t b a
comparing comparison.LessOrEqual t a b = not (is_less t b a)
comparing comparison.GreaterOrEqual t a b = not (is_less t a b)
comparing comparison.Equal t a b = a == b
comparing comparison.Unequal t a b = not (a == b)

abbrev pub compares : Comparison → Scalar → ℕ → ℕ → Bool
compares op t a b = comparing op t (low t a) (low t b)

abbrev pub by_equality : Equality → Bool → Bool
by_equality equality.Equal equal = equal
by_equality equality.Unequal equal = not equal

-- ---- unary operators

-- C11 6.5.3.3
abbrev pub signed_by : ArithmeticSign → Scalar → ℕ → ℕ
signed_by sign.Plus t a = low t a
signed_by sign.Minus t a = word_neg (modulus_of t) (low t a)
signed_by sign.Complement t a = word_not (modulus_of t) (low t a)

abbrev pub undefined_sign : ArithmeticSign → Scalar → ℕ → Option Undefined
undefined_sign sign.Plus t a = None
undefined_sign sign.Minus t a = where_is (overflows t (neg_ℤ (reading t (low t a)))) Overflow
undefined_sign sign.Complement t a = None
