-- A list of instructions under way. Every share made has the next number from 0 on: one word at A, or one bit at B or Y. A share's number is its
-- slot, so that the list can be run as it stands by share_core's machine.
use Rattle.std.specs.Prelude.{ℕ, zero, suc, ◌+◌, ◌*◌, List, [], ◌∷◌, ◌++◌, length}
use Rattle.hy_bits.specs.declared.width.Width.{Width}
use Rattle.share_core.specs.declared.instr.Instr.{Instr}
use Rattle.share_core.specs.declared.instr.InstrKind.{InstrKind}

pub record Script : Type 0 where
  -- the instructions, the gates of their levels, and the codes of words at B and Y
  pub instrs : List Instr
  pub gates : List Instr
  pub codes : List ℕ
  -- how many shares are made, and how many gates are garbled
  pub shares : ℕ
  pub garbled : ℕ

abbrev pub no_script : Script
no_script = record { instrs = []; gates = []; codes = []; shares = 0; garbled = 0 }

-- a list of instructions, and where it has a word that was made last: the code of its share at A, or the place of its codes at B and Y
pub record Made : Type 0 where
  pub script : Script
  pub at : ℕ

-- the code of a share that is not complemented
abbrev pub share_code : ℕ → ℕ
share_code share = 2 * share + 2

-- an instruction, which gets its number where it is put
abbrev pub instr : InstrKind → Width → (left right target value : ℕ) → Instr
instr kind w left right target value = record { kind = kind; number = 0; width = w; left = left; right = right; target = target; value = value }

-- the instruction after the others. Its number is its place from 0
unfoldable pub put : Instr → Script → Script
put i s = record s { instrs = s.instrs ++ record i { number = length s.instrs } ∷ [] }

-- so many new shares
unfoldable pub with_shares : ℕ → Script → Script
with_shares n s = record s { shares = s.shares + n }

-- a new share of a bit, and its code
unfoldable pub with_bit : Script → Script
with_bit s = record s { codes = s.codes ++ share_code s.shares ∷ []; shares = s.shares + 1 }

-- so many
unfoldable pub with_bits : ℕ → Script → Script
with_bits zero s = s
with_bits (suc n) s = with_bit (with_bits n s)

-- a further code
unfoldable pub with_code : ℕ → Script → Script
with_code code s = record s { codes = s.codes ++ code ∷ [] }

-- so many garbled gates
unfoldable pub garbling : ℕ → Script → Script
garbling n s = record s { garbled = s.garbled + n }

-- an instruction that makes a word at A
unfoldable pub making_word : Instr → Script → Made
making_word i s = record { script = with_shares 1 (put (record i { target = s.shares }) s); at = share_code s.shares }

-- an instruction that makes n bits at B or Y
unfoldable pub making_bits : ℕ → Instr → Script → Made
making_bits n i s = record { script = with_bits n (put (record i { target = length s.codes }) s); at = length s.codes }
