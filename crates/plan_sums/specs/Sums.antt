-- Sums over the first instructions of a plan.
use Rattle.std.specs.Prelude.{◌≡◌, ℕ, zero, suc, ◌+◌, ◌<◌, ◌≤◌, false, List, slice_get, Option, None, Some}
use Rattle.hy_bits.specs.declared.turns.Role.{Role}
use Rattle.share_core.specs.declared.instr.Instr.{Instr}
use Rattle.plan_figures.specs.Figures.{greatest_stretch, receives, steps_of}

-- the weight of an instruction, where one stands
abbrev pub weight_at : (Instr → ℕ) → Option Instr → ℕ
weight_at weight None = 0
weight_at weight (Some i) = weight i

-- the weights of the first k instructions
unfoldable pub before : (Instr → ℕ) → List Instr → ℕ → ℕ
before weight instrs zero = 0
before weight instrs (suc k) = before weight instrs k + weight_at weight (slice_get instrs k)

-- the weights from the j-th instruction to the n-th, both counted, are within the greatest stretch of a party that receives nothing at those between
abbrev pub WithinStretch : Type 0
WithinStretch =
    (weight : Instr → ℕ) (role : Role) (instrs : List Instr) (j n : ℕ) → j ≤ n →
    ((k : ℕ) (i : Instr) → j < k → k < n → slice_get instrs k ≡ Some i → receives role i ≡ false) →
    before weight instrs (suc n) ≤ before weight instrs j + greatest_stretch (steps_of weight role instrs)
