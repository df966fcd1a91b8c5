-- The words of a run, of a source: those of each instruction in turn, and what both parties are dealt of them.
use Rattle.std.specs.Prelude.{ℕ, zero, suc, ◌+◌, List, [], Option, None, Some, slice_get}
use Rattle.hy_bits.specs.declared.turns.Role.{Role}
use Rattle.share_core.specs.declared.instr.Instr.{Instr}
use Rattle.share_core.specs.Dealing.{choice_after}
use Rattle.share_core.specs.Instructions.{half_of}
use Rattle.share_core.specs.Machine.{half_at, words_drawn}
use Rattle.rand_core.specs.Stream.{Stream}
use Rattle.dealer.specs.Drawing.{left, taken}

-- how many words are drawn for an instruction, where one stands, and for the first k of them
abbrev pub drawn_for : List Instr → Option Instr → ℕ
drawn_for gates None = 0
drawn_for gates (Some i) = words_drawn i gates

unfoldable pub drawn_before : (instrs gates : List Instr) → ℕ → ℕ
drawn_before instrs gates zero = 0
drawn_before instrs gates (suc k) = drawn_before instrs gates k + drawn_for gates (slice_get instrs k)

-- the words of the k-th instruction
abbrev pub words_of : Stream → (instrs gates : List Instr) → ℕ → List ℕ
words_of source instrs gates k = taken (drawn_for gates (slice_get instrs k)) (left (drawn_before instrs gates k) source)

-- the word of P1's last choice before the k-th instruction
abbrev pub chosen_by : Option Instr → ℕ → List ℕ → ℕ
chosen_by None chosen words = chosen
chosen_by (Some i) chosen words = choice_after i.kind i.width chosen words

unfoldable pub chosen_before : Stream → (instrs gates : List Instr) → ℕ → ℕ
chosen_before source instrs gates zero = 0
chosen_before source instrs gates (suc k) = chosen_by (slice_get instrs k) (chosen_before source instrs gates k) (words_of source instrs gates k)

-- the role's half of the k-th instruction, and of its gate
abbrev pub half_for : Role → Option Instr → List Instr → ℕ → List ℕ → ℕ → List ℕ
half_for role None gates chosen words gate = half_of []
half_for role (Some i) gates chosen words gate = half_at role i gates chosen words gate

abbrev pub dealt_half : Stream → (instrs gates : List Instr) → Role → ℕ → ℕ → List ℕ
dealt_half source instrs gates role k gate = half_for role (slice_get instrs k) gates (chosen_before source instrs gates k) (words_of source instrs gates k) gate
