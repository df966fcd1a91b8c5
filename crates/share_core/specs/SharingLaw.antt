-- The one law of all instructions: where the operands' slots stand for values, in the sharing and at the width that the kind of instruction
-- wants, and the dealt halves agree, the new shares stand for the operation's values, and an opening gives both parties the word.
use Rattle.std.specs.Prelude.{◌≡◌, ℕ, suc, ◌+◌, ◌%◌, ◌^◌, ◌<◌, ◌≤◌, true, if◌then◌else◌, List, [], ◌∷◌, ◌++◌, length, slice_index}
use Rattle.hy_bits.specs.declared.width.Width.{Width}
use Rattle.hy_bits.specs.declared.width.Width.TheVariants.{W1}
use Rattle.hy_bits.specs.declared.turns.Role.{Role}
use Rattle.hy_bits.specs.declared.turns.Role.TheVariants.{P0, P1}
use Rattle.hy_bits.specs.Bits.{xor}
use Rattle.hy_bits.specs.Words.{bits, modulus}
use Rattle.share_core.specs.declared.instr.Instr.{Instr}
use Rattle.share_core.specs.declared.instr.InstrKind.{InstrKind}
use Rattle.share_core.specs.declared.instr.InstrKind.TheVariants.{InAP0, InAP1, InBP0, InBP1, InYP0, ChooseIn, ChooseA, ChooseB, AnswerIn, AnswerSharesA, AnswerSharesB, AnswerToA, LevelA, LevelB, LevelY, Carries, OpenA, OpenB, OpenY, MulA, AndB, AndY, AddA, AddLeft, AddRight, SubA, SubLeft, SubRight, MulLeft, MulRight, NegA, TruncA, XorB, XorY, Y2B}
use Rattle.share_core.specs.declared.labels.Label.{Label}
use Rattle.share_core.specs.declared.labels.Offset as FreeXor
use Rattle.share_core.specs.Arithmetic.{sum_of}
use Rattle.share_core.specs.Boolean.{HalvesAgree_B, odd}
use Rattle.share_core.specs.Bytes.{AreWords}
use Rattle.share_core.specs.Conversions.{choice_message, choice_read}
use Rattle.share_core.specs.Dealing.{AnswersAgree, dealt}
use Rattle.share_core.specs.Garbled.{IsLabel, IsOffset, LabelsStandFor, no_offset, wire}
use Rattle.share_core.specs.Instructions.{HalvesAgree_A, half_of, has_frame, slot_of}
use Rattle.share_core.specs.Levels.{AreGatesOf, IsGateOf, gate_width, gates_of, is_level, level_half}
use Rattle.share_core.specs.Clear.{Clear, value_opened, values_made, word_in}
use Rattle.share_core.specs.Machine.{View, chosen_after, choice_word, made, opened, payload, payload_length, received, targets, word_A, word_B}

-- ---- what two slots stand for

pub data Scheme : Type 0 where
  AtA : Scheme
  AtB : Scheme
  AtY : Scheme

abbrev pub SlotsStand : Scheme → FreeXor.Offset → Width → Label → Label → ℕ → Type 0
SlotsStand AtA offset w s0 s1 x = sum_of (modulus w) s0.low s1.low ≡ x % modulus w
SlotsStand AtB offset w s0 s1 x = xor (odd s0.low) (odd s1.low) ≡ odd x
SlotsStand AtY offset w s0 s1 x = LabelsStandFor offset s0 s1 (odd x)

-- the two parties' new shares stand for the values, one by one; the k-th has the width `width k`
pub record SharesStand (scheme : Scheme) (offset : FreeXor.Offset) (width : ℕ → Width) (made0 made1 : List Label) (values : List ℕ) : Type 0 where
  pub first : length made0 ≡ length values
  pub second : length made1 ≡ length values
  pub each : (k : ℕ) → k < length values → SlotsStand scheme offset (width k) (wire made0 k) (wire made1 k) (slice_index values k)

-- the sharing of an instruction's new shares, and their widths
abbrev pub scheme_of : InstrKind → Scheme
scheme_of InBP0 = AtB
scheme_of InBP1 = AtB
scheme_of LevelB = AtB
scheme_of XorB = AtB
scheme_of Y2B = AtB
scheme_of InYP0 = AtY
scheme_of AnswerIn = AtY
scheme_of AnswerSharesA = AtY
scheme_of AnswerSharesB = AtY
scheme_of LevelY = AtY
scheme_of Carries = AtY
scheme_of XorY = AtY
scheme_of _ = AtA

abbrev pub width_made : InstrKind → Instr → List Instr → ℕ → Width
width_made LevelA i gates k = gate_width (gates_of i gates) k
width_made _ i gates k = i.width

-- ---- the premises

-- the slot that a code names stands for its value; the codes 0 and 1 name none
abbrev pub CodeStands : Scheme → FreeXor.Offset → Width → View → View → Clear → ℕ → Type 0
CodeStands scheme offset w v0 v1 c code = 2 ≤ code → SlotsStand scheme offset w (wire v0.slots (slot_of code)) (wire v1.slots (slot_of code)) (slice_index c.values (slot_of code))

-- the same of an operand at A, which is never a constant
abbrev pub WordStands : Width → View → View → Clear → ℕ → Type 0
WordStands w v0 v1 c code = sum_of (modulus w) (word_A v0 code) (word_A v1 code) ≡ word_in c code % modulus w

-- the same of the codes from a place on
abbrev pub CodesStand : Scheme → FreeXor.Offset → ℕ → View → View → Clear → ℕ → Type 0
CodesStand scheme offset n v0 v1 c place = (k : ℕ) → k < n → CodeStands scheme offset W1 v0 v1 c (slice_index c.codes (place + k))

-- a gate of a level
abbrev pub GateStands : InstrKind → FreeXor.Offset → Instr → View → View → Clear → Type 0
GateStands MulA offset gate v0 v1 c = WordStands gate.width v0 v1 c gate.left × WordStands gate.width v0 v1 c gate.right
GateStands AndB offset gate v0 v1 c = CodeStands AtB offset W1 v0 v1 c gate.left × CodeStands AtB offset W1 v0 v1 c gate.right
GateStands AndY offset gate v0 v1 c = CodeStands AtY offset W1 v0 v1 c gate.left × CodeStands AtY offset W1 v0 v1 c gate.right
GateStands _ offset gate v0 v1 c = Unit {0}

-- dealt halves that fit together: those of a product and of an And are those of a triple, and P1 has the masks of an answer that the word
-- `picks` picks
abbrev pub HalvesAgree : InstrKind → Width → ℕ → List ℕ → List ℕ → Type 0
HalvesAgree kind w picks half0 half1 = HalvesAgree_A kind w half0 half1 × HalvesAgree_B kind half0 half1 × AnswersAgree kind w picks half0 half1

-- all gates of a level, the first of which has the number k
abbrev pub GatesStand : InstrKind → FreeXor.Offset → View → View → Clear → ℕ → List Instr → Type 0
GatesStand level offset v0 v1 c k [] = Unit {0}
GatesStand level offset v0 v1 c k (gate ∷ gates) =
    IsGateOf level gate.kind × GateStands gate.kind offset gate v0 v1 c × HalvesAgree gate.kind gate.width 0 (v0.half k) (v1.half k) × GatesStand level offset v0 v1 c (suc k) gates

-- the choice before an answer: P0 has read d, for P1's share x1 of what the answer is for, masked by `picks`
abbrev pub ChoiceStands : Width → ℕ → ℕ → View → View → Type 0
ChoiceStands w picks x1 v0 v1 = (v0.chosen ≡ choice_read w (choice_message w x1 picks)) × (v1.chosen ≡ x1 % modulus w)

-- what the instruction wants of its operands
abbrev pub OperandsStand : InstrKind → FreeXor.Offset → ℕ → Instr → View → View → Clear → Type 0
OperandsStand InAP0 offset picks i v0 v1 c = v0.own ≡ c.own
OperandsStand InAP1 offset picks i v0 v1 c = v1.own ≡ c.own
OperandsStand InBP0 offset picks i v0 v1 c = v0.own ≡ c.own
OperandsStand InBP1 offset picks i v0 v1 c = v1.own ≡ c.own
OperandsStand InYP0 offset picks i v0 v1 c = v0.own ≡ c.own
OperandsStand AnswerIn offset picks i v0 v1 c = ChoiceStands i.width picks c.chosen v0 v1
OperandsStand AnswerSharesA offset picks i v0 v1 c = ChoiceStands i.width picks (word_A v1 i.left) v0 v1 × WordStands i.width v0 v1 c i.left × (c.part ≡ word_A v0 i.left)
OperandsStand AnswerSharesB offset picks i v0 v1 c = ChoiceStands i.width picks (word_B v1 i.width i.left) v0 v1 × CodesStand AtB offset (bits i.width) v0 v1 c i.left
OperandsStand AnswerToA offset picks i v0 v1 c = ChoiceStands i.width picks (word_B v1 i.width i.left) v0 v1 × CodesStand AtB offset (bits i.width) v0 v1 c i.left
OperandsStand LevelA offset picks i v0 v1 c = GatesStand LevelA offset v0 v1 c 0 (gates_of i c.gates)
OperandsStand LevelB offset picks i v0 v1 c = GatesStand LevelB offset v0 v1 c 0 (gates_of i c.gates)
OperandsStand LevelY offset picks i v0 v1 c = GatesStand LevelY offset v0 v1 c 0 (gates_of i c.gates)
OperandsStand Carries offset picks i v0 v1 c = CodesStand AtY offset (bits i.width) v0 v1 c i.left × CodesStand AtY offset (bits i.width) v0 v1 c (i.left + bits i.width)
OperandsStand OpenA offset picks i v0 v1 c = WordStands i.width v0 v1 c i.left
OperandsStand OpenB offset picks i v0 v1 c = CodesStand AtB offset (bits i.width) v0 v1 c i.left
OperandsStand OpenY offset picks i v0 v1 c = CodesStand AtY offset (bits i.width) v0 v1 c i.left
OperandsStand AddA offset picks i v0 v1 c = WordStands i.width v0 v1 c i.left × WordStands i.width v0 v1 c i.right
OperandsStand SubA offset picks i v0 v1 c = WordStands i.width v0 v1 c i.left × WordStands i.width v0 v1 c i.right
OperandsStand AddLeft offset picks i v0 v1 c = WordStands i.width v0 v1 c i.right
OperandsStand SubLeft offset picks i v0 v1 c = WordStands i.width v0 v1 c i.right
OperandsStand MulLeft offset picks i v0 v1 c = WordStands i.width v0 v1 c i.right
OperandsStand AddRight offset picks i v0 v1 c = WordStands i.width v0 v1 c i.left
OperandsStand SubRight offset picks i v0 v1 c = WordStands i.width v0 v1 c i.left
OperandsStand MulRight offset picks i v0 v1 c = WordStands i.width v0 v1 c i.left
OperandsStand NegA offset picks i v0 v1 c = WordStands i.width v0 v1 c i.left
OperandsStand TruncA offset picks i v0 v1 c = WordStands i.width v0 v1 c i.left
OperandsStand XorB offset picks i v0 v1 c = CodeStands AtB offset W1 v0 v1 c i.left × CodeStands AtB offset W1 v0 v1 c i.right
OperandsStand XorY offset picks i v0 v1 c = CodeStands AtY offset W1 v0 v1 c i.left × CodeStands AtY offset W1 v0 v1 c i.right
OperandsStand Y2B offset picks i v0 v1 c = CodesStand AtY offset (bits i.width) v0 v1 c i.left
OperandsStand _ offset picks i v0 v1 c = Unit {0}

-- the two parties at one instruction of a plan
pub record Meet (offset : FreeXor.Offset) (picks : ℕ) (i : Instr) (v0 v1 : View) (c : Clear) : Type 0 where
  pub first : v0.role ≡ P0
  pub second : v1.role ≡ P1
  -- one plan
  pub gates : (v0.gates ≡ c.gates) × (v1.gates ≡ c.gates)
  pub codes : (v0.codes ≡ c.codes) × (v1.codes ≡ c.codes)
  -- P0 has the run's offset, and labels in its slots
  pub is_offset : IsOffset offset
  pub offset0 : v0.offset ≡ offset
  pub offset1 : v1.offset ≡ no_offset
  pub labels : (k : ℕ) → IsLabel (wire v0.slots k)
  -- words are dealt, and the halves agree
  pub words : (k : ℕ) → AreWords (v0.half k)
  pub halves : HalvesAgree i.kind i.width picks (v0.half 0) (v1.half 0)
  pub operands : OperandsStand i.kind offset picks i v0 v1 c

-- ---- the law

abbrev pub MachinesCompute : Type 0
MachinesCompute =
    (offset : FreeXor.Offset) (picks : ℕ) (i : Instr) (v0 v1 : View) (c : Clear) → Meet offset picks i v0 v1 c →
    SharesStand (scheme_of i.kind) offset (width_made i.kind i c.gates) (made i v0 (received (payload i v1))) (made i v1 (received (payload i v0))) (values_made i.kind i c)

abbrev pub IsOpening : InstrKind → Type 0
IsOpening OpenA = Unit {0}
IsOpening OpenB = Unit {0}
IsOpening OpenY = Unit {0}
IsOpening _ = ⊥

abbrev pub MachinesOpen : Type 0
MachinesOpen =
    (offset : FreeXor.Offset) (picks : ℕ) (i : Instr) (v0 v1 : View) (c : Clear) → Meet offset picks i v0 v1 c → IsOpening i.kind →
    (opened i.kind i v0 (received (payload i v1)) ≡ value_opened i.kind i c) × (opened i.kind i v1 (received (payload i v0)) ≡ value_opened i.kind i c)

-- a choice leaves what its answer wants
abbrev pub IsChoice : InstrKind → Type 0
IsChoice ChooseIn = Unit {0}
IsChoice ChooseA = Unit {0}
IsChoice ChooseB = Unit {0}
IsChoice _ = ⊥

abbrev pub MachinesChoose : Type 0
MachinesChoose =
    (i : Instr) (v0 v1 : View) → v0.role ≡ P0 → v1.role ≡ P1 → IsChoice i.kind →
    let x1 = choice_word i.kind i v1 in
    (chosen_after i.kind i v0 (received (payload i v1)) ≡ choice_read i.width (choice_message i.width x1 (slice_index (v1.half 0) 0))) × (chosen_after i.kind i v1 (received (payload i v0)) ≡ x1 % modulus i.width)

-- a payload has the length that is told
abbrev pub PayloadsHaveLengths : Type 0
PayloadsHaveLengths = (i : Instr) (v : View) → (is_level i.kind ≡ true → AreGatesOf i.kind (gates_of i v.gates)) → length (received (payload i v)) ≡ (if has_frame i.kind v.role then payload_length i v.gates v.role else 0)

-- with at most 2 ^ 22 gates a payload is shorter than 2 ^ 32 bytes
abbrev pub PayloadsAreShort : Type 0
PayloadsAreShort = (i : Instr) (gates : List Instr) (role : Role) → (is_level i.kind ≡ true → AreGatesOf i.kind (gates_of i gates) × (length (gates_of i gates) ≤ 2 ^ 22)) → payload_length i gates role < 2 ^ 32

-- there are as many new shares as targets
abbrev pub TargetsMatch : Type 0
TargetsMatch = (i : Instr) (v : View) (received : List ℕ) → length (made i v received) ≡ length (targets i.kind i v)

-- P0's new shares are labels, whatever it has received, so that its slots stay labels
abbrev pub MadeAreLabels : Type 0
MadeAreLabels =
    (i : Instr) (v : View) (received : List ℕ) → v.role ≡ P0 → IsOffset v.offset → ((k : ℕ) → IsLabel (wire v.slots k)) → ((k : ℕ) → AreWords (v.half k)) →
    (k : ℕ) → IsLabel (wire (made i v received) k)

-- the halves that are dealt from any words agree, `picks` being the word of P1's last choice; and P0's are words
abbrev pub DealtAgree : Type 0
DealtAgree = (kind : InstrKind) (w : Width) (picks : ℕ) (words : List ℕ) → AreWords words → HalvesAgree kind w picks (half_of (dealt kind w P0 picks words)) (half_of (dealt kind w P1 picks words))

abbrev pub DealtAreWords : Type 0
DealtAreWords = (kind : InstrKind) (w : Width) (picks : ℕ) (words : List ℕ) → AreWords words → AreWords (half_of (dealt kind w P0 picks words))

-- the same of the gates of a level, whose words are drawn one gate after another
abbrev pub LevelHalvesAgree : Type 0
LevelHalvesAgree =
    (before after : List Instr) (gate : Instr) (words : List ℕ) → AreWords words →
    let gates = before ++ gate ∷ after in
    HalvesAgree gate.kind gate.width 0 (level_half P0 gates words (length before)) (level_half P1 gates words (length before))

abbrev pub LevelHalvesAreWords : Type 0
LevelHalvesAreWords = (gates : List Instr) (words : List ℕ) (k : ℕ) → AreWords words → AreWords (level_half P0 gates words k)
