-- What is asked of the levels of a plan.
use Rattle.std.specs.Prelude.{◌≡◌, ℕ, true, List, Some, slice_get}
use Rattle.share_core.specs.declared.instr.Instr.{Instr}
use Rattle.share_core.specs.Levels.{AreGatesOf, gates_of, is_level}

-- the gates of every level are of its sharing
pub record LevelsMatch (instrs gates : List Instr) : Type 0 where
  pub each : (k : ℕ) (i : Instr) → slice_get instrs k ≡ Some i → is_level i.kind ≡ true → AreGatesOf i.kind (gates_of i gates)
