-- What is said of the machine's states, whatever is received.
use Rattle.std.specs.Prelude.{◌≡◌, ℕ, ◌<◌, true, List}
use Rattle.hy_bits.specs.Words.{modulus}
use Rattle.share_core.specs.declared.instr.Instr.{Instr}
use Rattle.share_core.specs.Machine.{View, opened}
use Rattle.party.specs.Steps.{Plan, State, is_opening, turned}

-- the word that an opening gives fits its width
abbrev pub OpenedFit : Type 0
OpenedFit = (i : Instr) (v : View) (received : List ℕ) → is_opening i.kind ≡ true → opened i.kind i v received < modulus i.width

-- a turn that moves goes to the receive half of the same instruction, or to the send half of the next one
abbrev pub WaitsStand : Type 0
WaitsStand =
    (plan : Plan) (half : ℕ → List ℕ) (s : State) (inbox : List ℕ) → (turned plan half s inbox).state.receiving ≡ true → (turned plan half s inbox).state.place ≡ s.place
