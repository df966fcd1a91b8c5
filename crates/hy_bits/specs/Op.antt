-- What each operation on words gives, by its result's width, its first argument's width and its arguments' values.
use Rattle.std.specs.Prelude.{ℕ, ◌%◌, ◌<◌, ◌==◌, if◌then◌else◌, nat_lt, bit_and, bit_or, bit_xor, true, false}
use Rattle.hy_bits.specs.declared.op.Op.{Op}
use Rattle.hy_bits.specs.declared.op.Op.TheVariants.{In, Const, Add, Sub, Mul, Neg, DivU, DivS, RemU, RemS, And, Or, Xor, Not, Shl, ShrU, ShrS, LtU, LtS, Eq, Sel, Trunc, ZeroExt, SignExt}
use Rattle.hy_bits.specs.declared.width.Width.{Width}
use Rattle.hy_bits.specs.Bits.{bit}
use Rattle.hy_bits.specs.Words.{bits, modulus, IsWord, is_less_s, word_add, word_div_s, word_div_u, word_extend, word_mul, word_neg, word_not, word_rem_s, word_rem_u, word_shl, word_shr_s, word_shr_u, word_sub}

-- The value of `op` at a result of width w, where the first argument has the width `from` and the arguments are a, b and c, as far
-- as the operation has them. An input or a constant is the word a. `Sel` is b where the one bit a is 1, and else c
abbrev pub op_value : Op → Width → Width → ℕ → ℕ → ℕ → ℕ
op_value In w from a b c = a
op_value Const w from a b c = a
op_value Add w from a b c = word_add (modulus w) a b
op_value Sub w from a b c = word_sub (modulus w) a b
op_value Mul w from a b c = word_mul (modulus w) a b
op_value Neg w from a b c = word_neg (modulus w) a
op_value DivU w from a b c = word_div_u (modulus w) a b
op_value DivS w from a b c = word_div_s (modulus w) a b
op_value RemU w from a b c = word_rem_u a b
op_value RemS w from a b c = word_rem_s (modulus w) a b
op_value And w from a b c = bit_and a b
op_value Or w from a b c = bit_or a b
op_value Xor w from a b c = bit_xor a b
op_value Not w from a b c = word_not (modulus w) a
op_value Shl w from a b c = word_shl (bits w) a b
op_value ShrU w from a b c = word_shr_u (bits w) a b
op_value ShrS w from a b c = word_shr_s (bits w) a b
op_value LtU w from a b c = bit (nat_lt a b)
op_value LtS w from a b c = bit (is_less_s (modulus from) a b)
op_value Eq w from a b c = bit (a == b)
op_value Sel w from a b c = if a == 1 then b else c
op_value Trunc w from a b c = a % modulus w
op_value ZeroExt w from a b c = word_extend (modulus from) (modulus w) false a
op_value SignExt w from a b c = word_extend (modulus from) (modulus w) true a

-- The arguments that `op` has are words of the widths that it asks for. The count of a shift may be any number
abbrev pub IsTakenBy : Op → Width → Width → ℕ → ℕ → ℕ → Type 0
IsTakenBy In w from a b c = IsWord w a
IsTakenBy Const w from a b c = IsWord w a
IsTakenBy Add w from a b c = IsWord w a × IsWord w b
IsTakenBy Sub w from a b c = IsWord w a × IsWord w b
IsTakenBy Mul w from a b c = IsWord w a × IsWord w b
IsTakenBy Neg w from a b c = IsWord w a
IsTakenBy DivU w from a b c = IsWord w a × IsWord w b
IsTakenBy DivS w from a b c = IsWord w a × IsWord w b
IsTakenBy RemU w from a b c = IsWord w a × IsWord w b
IsTakenBy RemS w from a b c = IsWord w a × IsWord w b
IsTakenBy And w from a b c = IsWord w a × IsWord w b
IsTakenBy Or w from a b c = IsWord w a × IsWord w b
IsTakenBy Xor w from a b c = IsWord w a × IsWord w b
IsTakenBy Not w from a b c = IsWord w a
IsTakenBy Shl w from a b c = IsWord w a
IsTakenBy ShrU w from a b c = IsWord w a
IsTakenBy ShrS w from a b c = IsWord w a
IsTakenBy LtU w from a b c = IsWord from a × IsWord from b
IsTakenBy LtS w from a b c = IsWord from a × IsWord from b
IsTakenBy Eq w from a b c = IsWord from a × IsWord from b
IsTakenBy Sel w from a b c = (a < 2) × IsWord w b × IsWord w c
IsTakenBy Trunc w from a b c = IsWord from a
IsTakenBy ZeroExt w from a b c = IsWord from a
IsTakenBy SignExt w from a b c = IsWord from a
