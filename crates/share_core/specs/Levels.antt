-- Levels: all gates of one depth that need a message, as one instruction. Its message has those of its gates one after another, its
-- new shares are made gate by gate, each from its piece of the other's message, and its words are drawn gate by gate.
use Rattle.std.specs.Prelude.{◌≡◌, ℕ, zero, suc, ◌+◌, ◌^◌, ◌<◌, ◌≤◌, Bool, true, false, List, [], ◌∷◌, ◌++◌, length, take, drop}
use Rattle.hy_bits.specs.declared.width.Width.{Width}
use Rattle.hy_bits.specs.declared.width.Width.TheVariants.{W1}
use Rattle.hy_bits.specs.declared.turns.Role.{Role}
use Rattle.share_core.specs.declared.instr.Instr.{Instr}
use Rattle.share_core.specs.declared.instr.InstrKind.{InstrKind}
use Rattle.share_core.specs.declared.instr.InstrKind.TheVariants.{LevelA, LevelB, LevelY, MulA, AndB, AndY}
use Rattle.share_core.specs.declared.labels.Label.{Label}
use Rattle.share_core.specs.Sizes.{sent}
use Rattle.share_core.specs.Instructions.{half_of}
use Rattle.share_core.specs.Dealing.{dealt, drawn}

-- a level's gates: from place `left` of the plan's gates on, `right` of them. Any other instruction has none
abbrev pub is_level : InstrKind → Bool
is_level LevelA = true
is_level LevelB = true
is_level LevelY = true
is_level _ = false

abbrev pub gates_of : Instr → List Instr → List Instr
gates_of level gates = take level.right (drop level.left gates)

-- the gates of a level at A are products, those of levels at B and at Y Ands
abbrev pub IsGateOf : InstrKind → InstrKind → Type 0
IsGateOf LevelA kind = kind ≡ MulA
IsGateOf LevelB kind = kind ≡ AndB
IsGateOf LevelY kind = kind ≡ AndY
IsGateOf _ kind = ⊥

abbrev pub AreGatesOf : InstrKind → List Instr → Type 0
AreGatesOf level [] = Unit {0}
AreGatesOf level (gate ∷ gates) = IsGateOf level gate.kind × AreGatesOf level gates

-- ---- messages and shares: the first gate has the number k, and the others the numbers after it

abbrev pub level_message : (ℕ → Instr → List ℕ) → ℕ → List Instr → List ℕ
level_message message k [] = []
level_message message k (gate ∷ gates) = message k gate ++ level_message message (suc k) gates

-- `received` says how many bytes of the other's message belong to a gate
abbrev pub level_shares : (Instr → ℕ) → (ℕ → Instr → List ℕ → Label) → ℕ → List Instr → List ℕ → List Label
level_shares received share k [] inbox = []
level_shares received share k (gate ∷ gates) inbox = share k gate (take (received gate) inbox) ∷ level_shares received share (suc k) gates (drop (received gate) inbox)

-- ---- sums over the gates: the bytes that a role sends, and the words drawn

abbrev pub summed : (Instr → ℕ) → List Instr → ℕ
summed count [] = 0
summed count (gate ∷ gates) = count gate + summed count gates

abbrev pub level_sent : Role → List Instr → ℕ
level_sent role gates = summed (λ gate. sent gate.kind gate.width role) gates

abbrev pub level_drawn : List Instr → ℕ
level_drawn gates = summed (λ gate. drawn gate.kind gate.width) gates

-- the role's half of the k-th gate, of the words drawn for the whole level: each gate has its own words, after those of the gates before it
abbrev pub level_half : Role → List Instr → List ℕ → ℕ → List ℕ
level_half role [] words k = half_of []
level_half role (gate ∷ gates) words zero = half_of (dealt gate.kind gate.width role 0 (take (drawn gate.kind gate.width) words))
level_half role (gate ∷ gates) words (suc k) = level_half role gates (drop (drawn gate.kind gate.width) words) k

-- the width of the k-th gate
abbrev pub gate_width : List Instr → ℕ → Width
gate_width [] k = W1
gate_width (gate ∷ gates) zero = gate.width
gate_width (gate ∷ gates) (suc k) = gate_width gates k

-- ---- what is said of them: for loops over gates the last gate of a level is split off

abbrev pub MessageByLast : Type 0
MessageByLast = (message : ℕ → Instr → List ℕ) (k : ℕ) (gates : List Instr) (gate : Instr) → level_message message k (gates ++ gate ∷ []) ≡ level_message message k gates ++ message (k + length gates) gate

abbrev pub SharesByLast : Type 0
SharesByLast =
    (received : Instr → ℕ) (share : ℕ → Instr → List ℕ → Label) (k : ℕ) (gates : List Instr) (gate : Instr) (inbox : List ℕ) →
    level_shares received share k (gates ++ gate ∷ []) inbox ≡ level_shares received share k gates inbox ++ share (k + length gates) gate (take (received gate) (drop (summed received gates) inbox)) ∷ []

abbrev pub SumByLast : Type 0
SumByLast = (count : Instr → ℕ) (gates : List Instr) (gate : Instr) → summed count (gates ++ gate ∷ []) ≡ summed count gates + count gate

-- the half of the gate after the gates `before`: its words stand after theirs
abbrev pub HalfOfGate : Type 0
HalfOfGate =
    (role : Role) (before after : List Instr) (gate : Instr) (words : List ℕ) →
    level_half role (before ++ gate ∷ after) words (length before) ≡ half_of (dealt gate.kind gate.width role 0 (take (drawn gate.kind gate.width) (drop (level_drawn before) words)))

-- where each gate's message has its length, so has the level's, and the piece after those of the gates `before` is the gate's own
abbrev pub LengthsAre : (ℕ → Instr → List ℕ) → (Instr → ℕ) → ℕ → List Instr → Type 0
LengthsAre message count k [] = Unit {0}
LengthsAre message count k (gate ∷ gates) = (length (message k gate) ≡ count gate) × LengthsAre message count (suc k) gates

abbrev pub MessageHasLength : Type 0
MessageHasLength = (message : ℕ → Instr → List ℕ) (count : Instr → ℕ) (k : ℕ) (gates : List Instr) → LengthsAre message count k gates → length (level_message message k gates) ≡ summed count gates

abbrev pub PieceOfGate : Type 0
PieceOfGate =
    (message : ℕ → Instr → List ℕ) (count : Instr → ℕ) (k : ℕ) (before after : List Instr) (gate : Instr) → LengthsAre message count k (before ++ gate ∷ after) →
    take (count gate) (drop (summed count before) (level_message message k (before ++ gate ∷ after))) ≡ message (k + length before) gate

-- up to 2 ^ 22 gates send fewer than 2 ^ 32 bytes
abbrev pub LevelIsShort : Type 0
LevelIsShort = (level : InstrKind) (role : Role) (gates : List Instr) → AreGatesOf level gates → length gates ≤ 2 ^ 22 → level_sent role gates < 2 ^ 32
