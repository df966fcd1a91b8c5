-- The level of a wire where gates may name later wires: the most And gates on a path to it.
use Rattle.std.specs.Prelude.{◌≡◌, ℕ, ◌+◌, ◌≤◌, max, Some, slice_get}
use Rattle.gate_net.specs.declared.literal.Gate.{Gate}
use Rattle.gate_net.specs.declared.literal.Gate.TheVariants.{And, Xor}
use Rattle.gate_net.specs.Literal.{wire_of}
use Rattle.gate_net.specs.Circuit.{Circuit}
use Rattle.gate_arena.specs.Wiring.{left_of, right_of}

-- the level of a gate, over those of its inputs' wires
abbrev pub level_of_gate : Gate → (left right : ℕ) → ℕ
level_of_gate (And a b) left right = 1 + max left right
level_of_gate (Xor a b) left right = max left right

-- the wire has the level: that of the constant and of an input is 0
pub data HasLevel (n : Circuit) : ℕ → ℕ → Type 0 where
  outer : (wire d : ℕ) → wire ≤ n.ins → d ≡ 0 → HasLevel n wire d
  inner : (wire d place : ℕ) (gate : Gate) (left right : ℕ) → wire ≡ 1 + n.ins + place → slice_get n.gates place ≡ Some gate →
      HasLevel n (wire_of (left_of gate)) left → HasLevel n (wire_of (right_of gate)) right → d ≡ level_of_gate gate left right → HasLevel n wire d
