-- How many bytes each party sends for each kind of instruction, in the payload of its frame. A level's are those of its gates; see
-- Levels.antt.
use Rattle.std.specs.Prelude.{◌≡◌, ℕ, ◌-◌, ◌*◌, List, length}
use Rattle.hy_bits.specs.declared.width.Width.{Width}
use Rattle.hy_bits.specs.declared.turns.Role.{Role}
use Rattle.hy_bits.specs.declared.turns.Role.TheVariants.{P0, P1}
use Rattle.hy_bits.specs.Words.{bits}
use Rattle.share_core.specs.declared.instr.InstrKind.{InstrKind}
use Rattle.share_core.specs.declared.instr.InstrKind.TheVariants.{InAP0, InAP1, InBP0, InBP1, InYP0, ChooseIn, ChooseA, ChooseB, AnswerIn, AnswerSharesA, AnswerSharesB, AnswerToA, Carries, OpenA, OpenB, OpenY, MulA, AndB, AndY}
use Rattle.share_core.specs.Bytes.{byte_count}
use Rattle.share_core.specs.Instructions.{message_A, sent_A}
use Rattle.share_core.specs.Boolean.{message_B, sent_B}

-- of an instruction that is no level, or of one gate of a level
abbrev pub sent : InstrKind → Width → Role → ℕ
sent InAP0 w P0 = byte_count w
sent InAP1 w P1 = byte_count w
sent InBP0 w P0 = byte_count w
sent InBP1 w P1 = byte_count w
sent InYP0 w P0 = 16 * bits w
sent ChooseIn w P1 = byte_count w
sent ChooseA w P1 = byte_count w
sent ChooseB w P1 = byte_count w
sent AnswerIn w P0 = 32 * bits w
sent AnswerSharesA w P0 = 48 * bits w
sent AnswerSharesB w P0 = 48 * bits w
sent AnswerToA w P0 = 2 * byte_count w * bits w
sent Carries w P0 = 32 * (bits w - 1)
sent OpenA w role = byte_count w
sent OpenB w role = byte_count w
sent OpenY w role = byte_count w
sent MulA w role = 2 * byte_count w
sent AndB w role = 1
sent AndY w P0 = 32
sent _ w role = 0

-- the messages at A and at B have these lengths
abbrev pub MessagesHaveLengths : Type 0
MessagesHaveLengths =
    (kind : InstrKind) (w : Width) (role : Role) (x y : ℕ) (half : List ℕ) → (length (message_A kind w role x y half) ≡ sent_A kind w role) × (length (message_B kind w role x y half) ≡ sent_B kind w role)
