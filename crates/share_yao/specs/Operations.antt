-- The operations on labels of one bit.
use Rattle.std.specs.Prelude.{◌≡◌, ℕ, bit_and, bit_xor, List, []}
use Rattle.hy_bits.specs.declared.turns.Role.{Role}
use Rattle.hy_bits.specs.declared.turns.Role.TheVariants.{P0}
use Rattle.share_core.specs.declared.labels.Label.{Label}
use Rattle.share_core.specs.declared.labels.Offset.{Offset}
use Rattle.share_core.specs.Garbled.{IsOffset, label_xor, and_rows, and_share_Y}
use Rattle.share_yao.specs.declared.yao.YaoOp.{YaoOp}
use Rattle.share_yao.specs.declared.yao.YaoOp.TheVariants.{And, Xor}
use Rattle.share_yao.specs.declared.yao.YaoDealt.{YaoDealt}

-- the operation on bits, as words of width 1
abbrev pub yao_value : YaoOp → ℕ → ℕ → ℕ
yao_value (And g) x y = bit_and x y
yao_value Xor x y = bit_xor x y

-- for an And P0 has the run's offset; an Xor takes nothing of it
abbrev pub DealtAgree : Offset → YaoOp → YaoDealt → YaoDealt → Type 0
DealtAgree offset (And g) d0 d1 = (d0.offset ≡ offset) × IsOffset offset
DealtAgree offset Xor d0 d1 = Unit {0}

-- only for an And is something sent, by P0
abbrev pub yao_sent : YaoOp → Role → ℕ
yao_sent (And g) P0 = 32
yao_sent _ role = 0

abbrev pub yao_message : YaoOp → Role → Label → Label → YaoDealt → List ℕ
yao_message (And g) P0 x y dealt = and_rows dealt.offset g x y
yao_message _ role x y dealt = []

abbrev pub yao_share : YaoOp → Role → Label → Label → YaoDealt → List ℕ → Label
yao_share (And g) role x y dealt inbox = and_share_Y role dealt.offset g x y inbox
yao_share Xor role x y dealt inbox = label_xor x y
