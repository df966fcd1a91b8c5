-- What the wires of a circuit carry where a gate may name later wires.
use Rattle.std.specs.Prelude.{◌≡◌, ◌==◌, ℕ, ◌+◌, ◌%◌, ◌<◌, Bool, false, not, ◌&&◌, List, Some, get_or, length, slice_get, if◌then◌else◌}
use Rattle.gate_net.specs.declared.literal.Lit.{Lit}
use Rattle.gate_net.specs.declared.literal.Gate.{Gate}
use Rattle.gate_net.specs.declared.literal.Gate.TheVariants.{And, Xor}
use Rattle.gate_net.specs.Literal.{wire_of}
use Rattle.gate_net.specs.Circuit.{Circuit}
use Rattle.gate_net.specs.Meaning.{value, xor}
use Rattle.gate_arena.specs.Wiring.{left_of, right_of}

-- the bit of a literal whose wire carries b, and the bit of a wire whose literal has b
abbrev pub bit_of : Lit → Bool → Bool
bit_of l b = if l.code % 2 == 1 then not b else b

-- the bit of a gate, over those of its inputs' wires
abbrev pub bit_of_gate : Gate → (left right : Bool) → Bool
bit_of_gate (And a b) left right = bit_of a left && bit_of b right
bit_of_gate (Xor a b) left right = xor (bit_of a left) (bit_of b right)

-- the wire carries b, where the inputs are these bits; inputs past their end are false
pub data Carries (n : Circuit) (bits : List Bool) : ℕ → Bool → Type 0 where
  constant : (wire : ℕ) (b : Bool) → wire ≡ 0 → b ≡ false → Carries n bits wire b
  given : (wire : ℕ) (b : Bool) (i : ℕ) → i < n.ins → wire ≡ 1 + i → b ≡ get_or bits i false → Carries n bits wire b
  made : (wire : ℕ) (b : Bool) (place : ℕ) (gate : Gate) (left right : Bool) → wire ≡ 1 + n.ins + place → slice_get n.gates place ≡ Some gate →
      Carries n bits (wire_of (left_of gate)) left → Carries n bits (wire_of (right_of gate)) right → b ≡ bit_of_gate gate left right → Carries n bits wire b

-- the literal has the value b
abbrev pub HasValue : Circuit → List Bool → Lit → Bool → Type 0
HasValue n bits l b = Carries n bits (wire_of l) (bit_of l b)

-- the literal m has all values that l has, for all inputs
abbrev pub HasValuesOf : Circuit → Lit → Lit → Type 0
HasValuesOf n l m = (bits : List Bool) (b : Bool) → HasValue n bits l b → HasValue n bits m b

-- every literal keeps its value, and so does every output
pub record KeepsValues (old new : Circuit) : Type 0 where
  pub count : length new.outs ≡ length old.outs
  pub literals : (bits : List Bool) (l : Lit) (b : Bool) → HasValue old bits l b → HasValue new bits l b
  pub outs : (bits : List Bool) (i : ℕ) (d : Lit) (b : Bool) → i < length old.outs → HasValue old bits (get_or old.outs i d) b → HasValue new bits (get_or new.outs i d) b

-- a circuit in order whose outputs have the values that they have here
abbrev pub KeepsOutputs : Circuit → Circuit → Type 0
KeepsOutputs n net = (bits : List Bool) (i : ℕ) (d : Lit) → i < length n.outs → HasValue n bits (get_or n.outs i d) (value net bits (get_or net.outs i d))
