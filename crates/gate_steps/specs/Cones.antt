-- The cone of a wire above leaves: what the wire depends on without passing a leaf, and what it carries over bits of the leaves.
use Rattle.std.specs.Prelude.{◌≡◌, ◌⊎◌, ℕ, ◌+◌, ◌<◌, ◌≤◌, Bool, false, List, Some, length, slice_get}
use Rattle.std.specs.List.{Contains}
use Rattle.gate_net.specs.declared.literal.Gate.{Gate}
use Rattle.gate_net.specs.Literal.{left_of, right_of, wire_of}
use Rattle.gate_net.specs.Circuit.{Circuit}
use Rattle.gate_net.specs.Paths.{Takes}
use Rattle.gate_arena.specs.Values.{bit_of_gate}

-- the most leaves of a replacement
abbrev pub leaf_limit : ℕ
leaf_limit = 4

-- the most gates of a cone
abbrev pub cone_limit : ℕ
cone_limit = 16

-- the wire is in the cone of the wire `top` above the leaves: it is no leaf, and it is `top` or an input of a gate in the cone
pub data InCone (n : Circuit) (leaves : List ℕ) (top : ℕ) : ℕ → Type 0 where
  tip : (wire : ℕ) → wire ≡ top → ¬ Contains leaves wire → InCone n leaves top wire
  below : (wire x : ℕ) → InCone n leaves top wire → Takes n wire x → ¬ Contains leaves x → InCone n leaves top x

-- the cone of the wire has no input of the circuit, so that it ends in leaves and the constant alone, and it has few gates
pub record IsCone (n : Circuit) (leaves : List ℕ) (top : ℕ) : Type 0 where
  pub ends : (wire : ℕ) → InCone n leaves top wire → (wire ≡ 0) ⊎ (n.ins < wire)
  pub gates : List ℕ
  pub few : length gates ≤ cone_limit
  pub all : (wire : ℕ) → InCone n leaves top wire → n.ins < wire → Contains gates wire

-- the wire carries b where each leaf carries the bit that is given for it
pub data CarriesOver (n : Circuit) (leaves : List ℕ) (given : ℕ → Bool) : ℕ → Bool → Type 0 where
  leaf : (wire : ℕ) (b : Bool) → Contains leaves wire → b ≡ given wire → CarriesOver n leaves given wire b
  constant : (wire : ℕ) (b : Bool) → wire ≡ 0 → b ≡ false → CarriesOver n leaves given wire b
  made : (wire : ℕ) (b : Bool) (place : ℕ) (gate : Gate) (left right : Bool) → ¬ Contains leaves wire → wire ≡ 1 + n.ins + place → slice_get n.gates place ≡ Some gate →
      CarriesOver n leaves given (wire_of (left_of gate)) left → CarriesOver n leaves given (wire_of (right_of gate)) right → b ≡ bit_of_gate gate left right → CarriesOver n leaves given wire b
