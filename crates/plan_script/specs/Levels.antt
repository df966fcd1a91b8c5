-- The gates of a module by depth. The local gates of depth 0 come first, each one instruction, in list order. Then for each depth from 1 on come one
-- Level, of all gates of that depth that need a message, in list order, and then the local gates of that depth.
use Rattle.std.specs.Prelude.{ℕ, ◌==◌, ◌+◌, ◌-◌, max, Bool, true, false, List, [], ◌∷◌, ◌++◌, filter, get_or, length, slice_index, if◌then◌else◌}
use Rattle.std.specs.List.{fold}
use Rattle.hy_bits.specs.declared.width.Width.TheVariants.{W1}
use Rattle.module_split.specs.Cut.{below}
use Rattle.choice_core.specs.declared.sharings.Sharing.{Sharing}
use Rattle.choice_core.specs.declared.sharings.Sharing.TheVariants.{Arithmetic, Boolean, Yao}
use Rattle.share_core.specs.declared.instr.Instr.{Instr}
use Rattle.share_core.specs.declared.instr.InstrKind.{InstrKind}
use Rattle.share_core.specs.declared.instr.InstrKind.TheVariants.{Known, LevelA, LevelB, LevelY, MulA, AndB, AndY}
use Rattle.plan_script.specs.Script.{Script, instr, put}

-- products of two variables, and Ands: they need a message
abbrev pub is_product : InstrKind → Bool
is_product MulA = true
is_product AndB = true
is_product AndY = true
is_product _ = false

abbrev pub level_kind : Sharing → InstrKind
level_kind Arithmetic = LevelA
level_kind Boolean = LevelB
level_kind Yao = LevelY

-- the gate at a place of the circuit's list
abbrev pub gate_at : List Instr → ℕ → Instr
gate_at gates k = get_or gates k (instr Known W1 0 0 0 0)

-- the places of the gates of a depth, ascending
abbrev pub places_at : List ℕ → (depth : ℕ) → List ℕ
places_at depths depth = filter (λ k. slice_index depths k == depth) (below (length depths))

-- a gate of the level that comes next. An And at Y has the next number g; the others have the level's own number
unfoldable pub with_gate : Sharing → Instr → Script → Script
with_gate Arithmetic g s = record s { gates = s.gates ++ record g { number = length s.instrs } ∷ [] }
with_gate Boolean g s = record s { gates = s.gates ++ record g { number = length s.instrs } ∷ [] }
with_gate Yao g s = record s { gates = s.gates ++ record g { number = s.garbled } ∷ []; garbled = s.garbled + 1 }

unfoldable pub with_product : Sharing → List Instr → Script → ℕ → Script
with_product sharing gates s k = if is_product (gate_at gates k).kind then with_gate sharing (gate_at gates k) s else s

-- the level of the gates from `first` on, if there are any
unfoldable pub with_level_from : Sharing → (first : ℕ) → Script → Script
with_level_from sharing first s = if length s.gates == first then s else put (instr (level_kind sharing) W1 first (length s.gates - first) 0 0) s

unfoldable pub with_level : Sharing → List Instr → List ℕ → Script → Script
with_level sharing gates places s = with_level_from sharing (length s.gates) (fold (with_product sharing gates) s places)

unfoldable pub with_local : List Instr → Script → ℕ → Script
with_local gates s k = if is_product (gate_at gates k).kind then s else put (gate_at gates k) s

-- the gates of one depth
unfoldable pub with_depth : Sharing → List Instr → List ℕ → Script → ℕ → Script
with_depth sharing gates depths s depth = fold (with_local gates) (with_level sharing gates (places_at depths depth) s) (places_at depths depth)

-- all gates
unfoldable pub by_depth : Sharing → List Instr → List ℕ → Script → Script
by_depth sharing gates depths s = fold (with_depth sharing gates depths) s (below (1 + fold max 0 depths))
