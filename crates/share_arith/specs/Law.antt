-- The laws of the sharing at A. Messages have their lengths; and with triples that agree, finishing with each other's messages gives shares that stand for
-- the operation's value.
use Rattle.std.proofs.Common.{◌≡◌, ℕ, ◌+◌, length, refl, sym, ◌∙◌}
use Rattle.hy_bits.specs.declared.turns.Role.TheVariants.{P0, P1}
use Rattle.hy_bits.specs.Words.{bits, modulus}
use Rattle.hy_bits.proofs.WordLaws.{modulus_pos, word_neg-sub}
use Rattle.share_core.specs.Arithmetic.{StandFor, difference_of, negation_of}
use Rattle.share_core.proofs.ArithmeticLaws.{reduced, word-le, sum_opens, difference-add, negation-add, difference_opens, product_law, length-product_message, cut_law}
use Rattle.share_arith.specs.declared.arith.ArithOp.{ArithOp}
use Rattle.share_arith.specs.declared.arith.ArithOp.TheVariants.{Add, Sub, Neg, Mul, Trunc}
use Rattle.share_arith.specs.declared.arith.Triple.{Triple}
use Rattle.share_arith.specs.Operations.{IsArithOp, DealtAgree, argument_width, result_width, arith_message, arith_sent, arith_share, arith_value}

pub arith_length_law : (op : ArithOp) (x y : ℕ) (dealt : Triple) → length (arith_message op x y dealt) ≡ arith_sent op
arith_length_law (Add w) x y dealt = refl
arith_length_law (Sub w) x y dealt = refl
arith_length_law (Neg w) x y dealt = refl
arith_length_law (Mul w) x y dealt = length-product_message w x y dealt.a dealt.b
arith_length_law (Trunc from to) x y dealt = refl

pub arith_law : (op : ArithOp) (x0 x1 y0 y1 x y : ℕ) (d0 d1 : Triple) → IsArithOp op → DealtAgree op d0 d1 → StandFor (argument_width op) x0 x1 x → StandFor (argument_width op) y0 y1 y →
    StandFor (result_width op) (arith_share op P0 x0 y0 d0 (arith_message op x1 y1 d1)) (arith_share op P1 x1 y1 d1 (arith_message op x0 y0 d0)) (arith_value op x y)
arith_law (Add w) x0 x1 y0 y1 x y d0 d1 is agree first second = sum_opens (modulus w) x0 x1 x y0 y1 y (reduced (modulus w) (x0 + x1) x first) (reduced (modulus w) (y0 + y1) y second)
arith_law (Sub w) x0 x1 y0 y1 x y d0 d1 is agree first second =
    difference_opens (modulus w) x0 x1 x y0 y1 y (difference_of (modulus w) x0 y0) (difference_of (modulus w) x1 y1) (word-le (modulus w) (y0 + y1) y (modulus_pos w) second)
    (reduced (modulus w) (x0 + x1) x first) (reduced (modulus w) (y0 + y1) y second)
    (difference-add (modulus w) x0 y0 (modulus_pos w)) (difference-add (modulus w) x1 y1 (modulus_pos w))
arith_law (Neg w) x0 x1 y0 y1 x y d0 d1 is agree first second =
    difference_opens (modulus w) 0 0 0 x0 x1 x (negation_of (modulus w) x0) (negation_of (modulus w) x1) (word-le (modulus w) (x0 + x1) x (modulus_pos w) first)
    refl (reduced (modulus w) (x0 + x1) x first)
    (negation-add (modulus w) x0 (modulus_pos w)) (negation-add (modulus w) x1 (modulus_pos w))
    ∙ sym (word_neg-sub (modulus w) x)
arith_law (Mul w) x0 x1 y0 y1 x y d0 d1 is agree first second = product_law w x0 x1 y0 y1 x y d0.a d0.b d0.c d1.a d1.b d1.c agree first second
arith_law (Trunc from to) x0 x1 y0 y1 x y d0 d1 is agree first second = cut_law (bits to) (bits from) x0 x1 x is first
