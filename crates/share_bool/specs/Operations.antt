-- The operations on Boolean shares of one bit.
use Rattle.std.specs.Prelude.{ℕ, Bool, bit_and, bit_xor, List, []}
use Rattle.hy_bits.specs.declared.turns.Role.{Role}
use Rattle.hy_bits.specs.Bits.{xor}
use Rattle.share_core.specs.Boolean.{IsBitTriple, and_message, opened_bit_e, opened_bit_f, and_share}
use Rattle.share_bool.specs.declared.boole.BoolOp.{BoolOp}
use Rattle.share_bool.specs.declared.boole.BoolOp.TheVariants.{And, Xor}
use Rattle.share_bool.specs.declared.boole.BitTriple.{BitTriple}

-- the operation on bits, as words of width 1
abbrev pub bool_value : BoolOp → ℕ → ℕ → ℕ
bool_value And x y = bit_and x y
bool_value Xor x y = bit_xor x y

-- what is dealt for an And; an Xor takes nothing of it
abbrev pub DealtAgree : BoolOp → BitTriple → BitTriple → Type 0
DealtAgree And d0 d1 = IsBitTriple d0.a d0.b d0.c d1.a d1.b d1.c
DealtAgree Xor d0 d1 = Unit {0}

-- only for an And is something sent
abbrev pub bool_sent : BoolOp → ℕ
bool_sent And = 1
bool_sent Xor = 0

abbrev pub bool_message : BoolOp → Bool → Bool → BitTriple → List ℕ
bool_message And x y dealt = and_message x y dealt.a dealt.b
bool_message Xor x y dealt = []

abbrev pub bool_share : BoolOp → Role → Bool → Bool → BitTriple → List ℕ → Bool
bool_share And role x y dealt inbox = and_share role (opened_bit_e x dealt.a inbox) (opened_bit_f y dealt.b inbox) dealt.a dealt.b dealt.c
bool_share Xor role x y dealt inbox = xor x y
