-- The laws of the sharing at Y. Messages have their lengths; and under the run's offset, finishing with P0's rows gives labels that stand for
-- the operation's value.
use Rattle.std.proofs.Common.{◌≡◌, ℕ, Bool, bit_and, [], length, refl, sym, subst}
use Rattle.std.proofs.lemmas.Nat.{xor_lt}
use Rattle.std.specs.Int.Bits.{and_lt}
use Rattle.hy_bits.specs.declared.turns.Role.{Role}
use Rattle.hy_bits.specs.declared.turns.Role.TheVariants.{P0, P1}
use Rattle.share_core.specs.Boolean.{odd}
use Rattle.share_core.specs.declared.labels.Label.{Label}
use Rattle.share_core.specs.declared.labels.Offset.{Offset}
use Rattle.share_core.specs.Garbled.{StandFor, LabelsStandFor, IsLabel, and_rows, and_share_Y, label_xor, no_offset}
use Rattle.share_core.proofs.BooleanLaws.{odd-and, odd-xor}
use Rattle.share_core.proofs.GarbledLaws.{and_opens_Y, length-and_rows, xor_opens_Y}
use Rattle.share_yao.specs.declared.yao.YaoOp.{YaoOp}
use Rattle.share_yao.specs.declared.yao.YaoOp.TheVariants.{And, Xor}
use Rattle.share_yao.specs.declared.yao.YaoDealt.{YaoDealt}
use Rattle.share_yao.specs.Operations.{DealtAgree, yao_message, yao_sent, yao_share, yao_value}

pub yao_length_law : (op : YaoOp) (role : Role) (x y : Label) (dealt : YaoDealt) → length (yao_message op role x y dealt) ≡ yao_sent op role
yao_length_law (And g) P0 x y dealt = length-and_rows dealt.offset g x y
yao_length_law (And g) P1 x y dealt = refl
yao_length_law Xor role x y dealt = refl

pub yao_law : (op : YaoOp) (offset : Offset) (x0 x1 y0 y1 : Label) (x y : ℕ) (d0 d1 : YaoDealt) → IsLabel x0 → IsLabel y0 → DealtAgree offset op d0 d1 → StandFor offset x0 x1 x → StandFor offset y0 y1 y →
    StandFor offset (yao_share op P0 x0 y0 d0 (yao_message op P1 x1 y1 d1)) (yao_share op P1 x1 y1 d1 (yao_message op P0 x0 y0 d0)) (yao_value op x y)
yao_law (And g) offset x0 x1 y0 y1 x y d0 d1 is_x is_y agree first second =
    let held : LabelsStandFor offset (and_share_Y P0 offset g x0 y0 []) (and_share_Y P1 no_offset g x1 y1 (and_rows offset g x0 y0)) (odd (bit_and x y)) =
    subst (λ (b : Bool). LabelsStandFor offset (and_share_Y P0 offset g x0 y0 []) (and_share_Y P1 no_offset g x1 y1 (and_rows offset g x0 y0)) b) (sym (odd-and x y)) (and_opens_Y offset g x0 x1 y0 y1 (odd x) (odd y) agree.1 is_x is_y first.0 second.0) in
    (subst (λ (o : Offset). LabelsStandFor offset (and_share_Y P0 o g x0 y0 []) (and_share_Y P1 d1.offset g x1 y1 (and_rows o g x0 y0)) (odd (bit_and x y))) (sym agree.0) held, and_lt 1 x y first.1 second.1)
yao_law Xor offset x0 x1 y0 y1 x y d0 d1 is_x is_y agree first second =
    (subst (λ (b : Bool). LabelsStandFor offset (label_xor x0 y0) (label_xor x1 y1) b) (sym (odd-xor x y)) (xor_opens_Y offset x0 x1 y0 y1 (odd x) (odd y) first.0 second.0), xor_lt 1 x y first.1 second.1)
