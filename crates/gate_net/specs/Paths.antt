-- Which gates depend on which wires, and which circuits are reduced. A gate may name later wires here.
use Rattle.std.specs.Prelude.{◌≡◌, ◌⊎◌, ℕ, ◌+◌, ◌<◌, length, Some, slice_get}
use Rattle.std.specs.List.{Contains}
use Rattle.gate_net.specs.declared.literal.Gate.{Gate}
use Rattle.gate_net.specs.declared.literal.Lit.{Lit}
use Rattle.gate_net.specs.Literal.{left_of, right_of, wire_of}
use Rattle.gate_net.specs.Circuit.{Circuit}
use Rattle.gate_net.specs.Shape.{IsNormal}

-- the wire is that of a gate, and the gate takes wire x
pub record Takes (n : Circuit) (wire x : ℕ) : Type 0 where
  pub place : ℕ
  pub gate : Gate
  pub here : wire ≡ 1 + n.ins + place
  pub stands : slice_get n.gates place ≡ Some gate
  pub takes : (wire_of (left_of gate) ≡ x) ⊎ (wire_of (right_of gate) ≡ x)

-- the wire is v, or a gate that takes such a wire
pub data DependsOn (n : Circuit) (v : ℕ) : ℕ → Type 0 where
  itself : (wire : ℕ) → wire ≡ v → DependsOn n v wire
  through : (wire x : ℕ) → Takes n wire x → DependsOn n v x → DependsOn n v wire

-- an output depends on the wire
pub record ReachesOutput (n : Circuit) (wire : ℕ) : Type 0 where
  pub out : Lit
  pub among : Contains n.outs out
  pub depends : DependsOn n wire (wire_of out)

-- a reduced circuit: no gate has a constant input or one variable twice, inputs ascend by code, Xor inputs are no complements, no two
-- gates are equal, and each gate reaches an output
pub record IsReduced (n : Circuit) : Type 0 where
  pub normal : IsNormal n.gates
  pub reached : (place : ℕ) → place < length n.gates → ReachesOutput n (1 + n.ins + place)
