-- Why a party's turn always finds what it needs: how many bytes wait in a queue, and how many words are kept, by the places of the parties.
use Rattle.std.specs.Prelude.{◌≡◌, ℕ, suc, ◌+◌, Bool, true, false, List, slice_get, Some}
use Rattle.hy_bits.specs.declared.turns.Role.{Role}
use Rattle.share_core.specs.declared.instr.Instr.{Instr}
use Rattle.share_core.specs.Instructions.{has_frame}
use Rattle.share_core.specs.Machine.{words_drawn}
use Rattle.share_core.specs.Roles.{other}
use Rattle.plan_figures.specs.Figures.{frame_length}
use Rattle.plan_sums.specs.Sums.{before}

-- the first instruction for which a party has sent nothing yet
abbrev pub reach_of : Bool → ℕ → ℕ
reach_of true place = suc place
reach_of false place = place

-- `bytes` bytes wait of the role's frames, where the other party stands at `place`: those of the instructions from there up to the role's reach. Where
-- the other is ahead, these have none
pub record Flows (instrs gates : List Instr) (role : Role) (reach place bytes : ℕ) : Type 0 where
  pub waiting : bytes + before (frame_length gates role) instrs place ≡ before (frame_length gates role) instrs reach

-- `words` words are kept: those of the instructions from `ended` up to `begun`
pub record Keeps (instrs gates : List Instr) (ended begun words : ℕ) : Type 0 where
  pub kept : words + before (λ i. words_drawn i gates) instrs ended ≡ before (λ i. words_drawn i gates) instrs begun
