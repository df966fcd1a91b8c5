-- The gates of the circuits that compute each operation: the most that one may take, and the numbers that are stated of its And gates.
use Rattle.std.specs.Prelude.{ℕ, ◌+◌, ◌-◌, ◌*◌, Option, None, Some}
use Rattle.hy_bits.specs.declared.op.Op.{Op}
use Rattle.hy_bits.specs.declared.op.Op.TheVariants.{In, Const, Add, Sub, Mul, Neg, DivU, DivS, RemU, RemS, And, Or, Xor, Not, Shl, ShrU, ShrS, LtU, LtS, Eq, Sel, Trunc, ZeroExt, SignExt}
use Rattle.hy_bits.specs.declared.width.Width.{Width}
use Rattle.hy_bits.specs.declared.width.Width.TheVariants.{W1, W8, W16, W32, W64}
use Rattle.hy_bits.specs.Words.{bits}

-- the logarithm of the number of bits
abbrev pub log_bits : Width → ℕ
log_bits W1 = 0
log_bits W8 = 3
log_bits W16 = 4
log_bits W32 = 5
log_bits W64 = 6

-- ---- the most gates of any kind

-- of a prefix adder of n places, k being the logarithm of n
abbrev pub adder_size : ℕ → ℕ → ℕ
adder_size n k = 8 * n * (1 + k)

-- of a product of n places
abbrev pub product_size : ℕ → ℕ → ℕ
product_size n k = 8 * (n * n) + adder_size n k

-- of a restoring divider of n places
abbrev pub divider_size : ℕ → ℕ → ℕ
divider_size n k = 8 * (n * n) * (1 + k)

-- the same at a width
abbrev pub sum_size : Width → ℕ
sum_size w = adder_size (bits w) (log_bits w)

abbrev pub quotient_size : Width → ℕ
quotient_size w = divider_size (bits w) (log_bits w)

-- of an operation with a result of width w, where its first and second argument have the widths x and y
abbrev pub operation_size : Op → (w x y : Width) → ℕ
operation_size In w x y = 0
operation_size Const w x y = 0
operation_size Add w x y = sum_size w
operation_size Sub w x y = sum_size w
operation_size Mul w x y = product_size (bits w) (log_bits w)
operation_size Neg w x y = sum_size w
operation_size DivU w x y = quotient_size w
operation_size DivS w x y = quotient_size w
operation_size RemU w x y = quotient_size w
operation_size RemS w x y = quotient_size w
operation_size And w x y = 4 * bits w
operation_size Or w x y = 4 * bits w
operation_size Xor w x y = 4 * bits w
operation_size Not w x y = 4 * bits w
operation_size Shl w x y = sum_size w + 4 * bits y
operation_size ShrU w x y = sum_size w + 4 * bits y
operation_size ShrS w x y = sum_size w + 4 * bits y
operation_size LtU w x y = sum_size x
operation_size LtS w x y = sum_size x
operation_size Eq w x y = 4 * bits x
operation_size Sel w x y = 4 * bits w
operation_size Trunc w x y = 0
operation_size ZeroExt w x y = 0
operation_size SignExt w x y = 0

-- ---- the stated numbers of And gates

-- the most And gates of a compact circuit, and the most And gates on a path of a shallow one, as far as they are stated
pub record Stated : Type 0 where
  pub ands : Option ℕ
  pub depth : Option ℕ

-- the depth of a product
abbrev pub product_depth : Width → Option ℕ
product_depth W1 = None
product_depth W8 = Some 9
product_depth W16 = Some 12
product_depth W32 = Some 15
product_depth W64 = Some 18

-- wires and exclusive ors alone
abbrev pub without_ands : Stated
without_ands = record { ands = Some 0; depth = Some 0 }

-- a sum or a difference
abbrev pub of_sum : Width → Stated
of_sum w = record { ands = Some (bits w - 1); depth = Some (1 + log_bits w) }

-- a quotient or a remainder
abbrev pub of_quotient : Width → Stated
of_quotient w = record { ands = Some (2 * (bits w * bits w) + 8 * bits w); depth = None }

-- a comparison of words of the width x
abbrev pub of_less : Width → Stated
of_less x = record { ands = Some (bits x); depth = Some (1 + log_bits x) }

-- a shift, of which nothing is stated
abbrev pub of_shift : Stated
of_shift = record { ands = None; depth = None }

-- one And gate for each place
abbrev pub place_by_place : Width → Stated
place_by_place w = record { ands = Some (bits w); depth = Some 1 }

-- of an operation with a result of width w, where its first argument has the width x
abbrev pub stated : Op → (w x : Width) → Stated
stated In w x = without_ands
stated Const w x = without_ands
stated Add w x = of_sum w
stated Sub w x = of_sum w
stated Mul w x = record { ands = Some (bits w * bits w - bits w + 1); depth = product_depth w }
stated Neg w x = of_sum w
stated DivU w x = of_quotient w
stated DivS w x = of_quotient w
stated RemU w x = of_quotient w
stated RemS w x = of_quotient w
stated And w x = place_by_place w
stated Or w x = place_by_place w
stated Xor w x = without_ands
stated Not w x = without_ands
stated Shl w x = of_shift
stated ShrU w x = of_shift
stated ShrS w x = of_shift
stated LtU w x = of_less x
stated LtS w x = of_less x
stated Eq w x = record { ands = Some (bits x - 1); depth = Some (log_bits x) }
stated Sel w x = place_by_place w
stated Trunc w x = without_ands
stated ZeroExt w x = without_ands
stated SignExt w x = without_ands
