-- The operations on arithmetic shares: on one word or on two words of one width, and the cut to a narrower width.
use Rattle.std.specs.Prelude.{ℕ, ◌*◌, ◌%◌, ◌≤◌, List, []}
use Rattle.hy_bits.specs.declared.width.Width.{Width}
use Rattle.hy_bits.specs.declared.turns.Role.{Role}
use Rattle.hy_bits.specs.Words.{bits, modulus, word_add, word_sub, word_mul, word_neg}
use Rattle.share_core.specs.Bytes.{byte_count}
use Rattle.share_core.specs.Arithmetic.{sum_of, difference_of, negation_of, product_message, opened_e, opened_f, product_share, IsTriple}
use Rattle.share_arith.specs.declared.arith.ArithOp.{ArithOp}
use Rattle.share_arith.specs.declared.arith.ArithOp.TheVariants.{Add, Sub, Neg, Mul, Trunc}
use Rattle.share_arith.specs.declared.arith.Triple.{Triple}

-- a cut doesn't widen
abbrev pub IsArithOp : ArithOp → Type 0
IsArithOp (Trunc from to) = bits to ≤ bits from
IsArithOp _ = Unit {0}

abbrev pub argument_width : ArithOp → Width
argument_width (Add w) = w
argument_width (Sub w) = w
argument_width (Neg w) = w
argument_width (Mul w) = w
argument_width (Trunc from to) = from

abbrev pub result_width : ArithOp → Width
result_width (Add w) = w
result_width (Sub w) = w
result_width (Neg w) = w
result_width (Mul w) = w
result_width (Trunc from to) = to

-- the operation on words
abbrev pub arith_value : ArithOp → ℕ → ℕ → ℕ
arith_value (Add w) x y = word_add (modulus w) x y
arith_value (Sub w) x y = word_sub (modulus w) x y
arith_value (Neg w) x y = word_neg (modulus w) x
arith_value (Mul w) x y = word_mul (modulus w) x y
arith_value (Trunc from to) x y = x % modulus to

-- what is dealt for a product; the other operations take nothing of it
abbrev pub DealtAgree : ArithOp → Triple → Triple → Type 0
DealtAgree (Mul w) d0 d1 = IsTriple w d0.a d0.b d0.c d1.a d1.b d1.c
DealtAgree _ d0 d1 = Unit {0}

-- only for a product is something sent
abbrev pub arith_sent : ArithOp → ℕ
arith_sent (Mul w) = 2 * byte_count w
arith_sent _ = 0

abbrev pub arith_message : ArithOp → ℕ → ℕ → Triple → List ℕ
arith_message (Mul w) x y dealt = product_message w x y dealt.a dealt.b
arith_message _ x y dealt = []

abbrev pub arith_share : ArithOp → Role → ℕ → ℕ → Triple → List ℕ → ℕ
arith_share (Add w) role x y dealt inbox = sum_of (modulus w) x y
arith_share (Sub w) role x y dealt inbox = difference_of (modulus w) x y
arith_share (Neg w) role x y dealt inbox = negation_of (modulus w) x
arith_share (Mul w) role x y dealt inbox = product_share (modulus w) role (opened_e w x dealt.a inbox) (opened_f w y dealt.b inbox) dealt.a dealt.b dealt.c
arith_share (Trunc from to) role x y dealt inbox = x % modulus to
