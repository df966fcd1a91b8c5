-- The laws of the sharing at B. Messages have their lengths; and with triples that agree, finishing with each other's messages gives shares that stand for
-- the operation's value.
use Rattle.std.proofs.Common.{◌≡◌, ℕ, Bool, bit_and, bit_xor, length, refl, sym, ap, ◌∙◌}
use Rattle.hy_bits.specs.declared.turns.Role.TheVariants.{P0, P1}
use Rattle.hy_bits.specs.Bits.{bit, xor}
use Rattle.share_core.specs.Boolean.{StandFor}
use Rattle.share_core.proofs.BooleanLaws.{and_law, xor-pairs, and-bits}
use Rattle.hy_bits.proofs.BitLaws.{xor-bits}
use Rattle.share_bool.specs.declared.boole.BoolOp.{BoolOp}
use Rattle.share_bool.specs.declared.boole.BoolOp.TheVariants.{And, Xor}
use Rattle.share_bool.specs.declared.boole.BitTriple.{BitTriple}
use Rattle.share_bool.specs.Operations.{DealtAgree, bool_message, bool_sent, bool_share, bool_value}

pub bool_length_law : (op : BoolOp) (x y : Bool) (dealt : BitTriple) → length (bool_message op x y dealt) ≡ bool_sent op
bool_length_law And x y dealt = refl
bool_length_law Xor x y dealt = refl

pub bool_law : (op : BoolOp) (x0 x1 y0 y1 : Bool) (x y : ℕ) (d0 d1 : BitTriple) → DealtAgree op d0 d1 → StandFor x0 x1 x → StandFor y0 y1 y →
    StandFor (bool_share op P0 x0 y0 d0 (bool_message op x1 y1 d1)) (bool_share op P1 x1 y1 d1 (bool_message op x0 y0 d0)) (bool_value op x y)
bool_law And x0 x1 y0 y1 x y d0 d1 agree first second =
    ap bit (and_law x0 x1 y0 y1 d0.a d0.b d0.c d1.a d1.b d1.c agree) ∙ sym (and-bits (xor x0 x1) (xor y0 y1)) ∙ ap (λ (u : ℕ). bit_and u (bit (xor y0 y1))) first ∙ ap (λ (u : ℕ). bit_and x u) second
bool_law Xor x0 x1 y0 y1 x y d0 d1 agree first second =
    ap bit (xor-pairs x0 y0 x1 y1) ∙ sym (xor-bits (xor x0 x1) (xor y0 y1)) ∙ ap (λ (u : ℕ). bit_xor u (bit (xor y0 y1))) first ∙ ap (λ (u : ℕ). bit_xor x u) second
