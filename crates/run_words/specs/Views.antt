-- The halves that are made of kept words. A level's gates are taken to be of its sharing, so that the words of the k-th one stand at a place that
-- is known without a walk.
use Rattle.std.specs.Prelude.{ℕ, ◌*◌, Bool, true, false, if◌then◌else◌, List, [], length, take, drop, slice_get, Option, None, Some}
use Rattle.hy_bits.specs.declared.turns.Role.{Role}
use Rattle.share_core.specs.declared.instr.Instr.{Instr}
use Rattle.share_core.specs.declared.instr.InstrKind.{InstrKind}
use Rattle.share_core.specs.declared.instr.InstrKind.TheVariants.{LevelA, LevelB, MulA, AndB, AndY}
use Rattle.share_core.specs.Dealing.{dealt, drawn}
use Rattle.share_core.specs.Instructions.{half_of}
use Rattle.share_core.specs.Levels.{gates_of, is_level}

-- the kind of the gates of a level, and how many words are drawn for each
abbrev pub gate_kind : InstrKind → InstrKind
gate_kind LevelA = MulA
gate_kind LevelB = AndB
gate_kind _ = AndY

abbrev pub gate_words : InstrKind → ℕ
gate_words LevelA = 5
gate_words LevelB = 1
gate_words _ = 0

-- how many words are drawn for an instruction
abbrev pub count_drawn : Instr → List Instr → ℕ
count_drawn i gates = if is_level i.kind then length (gates_of i gates) * gate_words i.kind else drawn i.kind i.width

-- the role's half of a gate of a level, and of an instruction, of the words from its first one on
abbrev pub gate_half : Role → InstrKind → Option Instr → List ℕ → ℕ → List ℕ
gate_half role level None words k = half_of []
gate_half role level (Some gate) words k = half_of (dealt (gate_kind level) gate.width role 0 (take (drawn (gate_kind level) gate.width) (drop (k * gate_words level) words)))

abbrev pub half_by : Role → Instr → List Instr → ℕ → List ℕ → ℕ → List ℕ
half_by role i gates chosen words k =
    if is_level i.kind then gate_half role i.kind (slice_get (gates_of i gates) k) words k else half_of (dealt i.kind i.width role chosen (take (drawn i.kind i.width) words))
