-- The order in which a depth-first walk from the outputs ends the gates, and the net in that order.
use Rattle.std.specs.Prelude.{◌≡◌, ◌==◌, ◌⊎◌, ℕ, ◌+◌, ◌-◌, ◌*◌, ◌%◌, ◌≤◌, max, List, [], ◌∷◌, ◌++◌, Some, get_or, length, map, nat_le, slice_get, unwrap_or, if◌then◌else◌}
use Rattle.std.specs.List.{Contains, position}
use Rattle.gate_net.specs.declared.literal.Lit.{Lit}
use Rattle.gate_net.specs.declared.literal.Gate.{Gate}
use Rattle.gate_net.specs.declared.literal.Gate.TheVariants.{And, Xor}
use Rattle.gate_net.specs.Literal.{and_gate, plain_xor_gate, wire_of}
use Rattle.gate_net.specs.Circuit.{Circuit}
use Rattle.gate_arena.specs.Wiring.{left_of, right_of}

-- ---- the walk

-- the wire needs no visit: it is the constant or an input, or its gate has been ended
abbrev pub IsDone : Circuit → List ℕ → ℕ → Type 0
IsDone n ended wire = (wire ≤ n.ins) ⊎ ((place : ℕ) × (wire ≡ 1 + n.ins + place) × Contains ended place)

-- a visit to a wire: a gate that has not been ended is ended after its left and then its right input
pub data Visits (n : Circuit) : List ℕ → ℕ → List ℕ → Type 0 where
  done : (before : List ℕ) (wire : ℕ) (after : List ℕ) → IsDone n before wire → after ≡ before → Visits n before wire after
  fresh : (before : List ℕ) (wire : ℕ) (after : List ℕ) (place : ℕ) (gate : Gate) (middle last : List ℕ) → wire ≡ 1 + n.ins + place → slice_get n.gates place ≡ Some gate → ¬ Contains before place →
      Visits n before (wire_of (left_of gate)) middle → Visits n middle (wire_of (right_of gate)) last → after ≡ last ++ place ∷ [] → Visits n before wire after

-- visits to the wires of these literals, in order
abbrev pub VisitsAll : Circuit → List ℕ → List Lit → List ℕ → Type 0
VisitsAll n before [] after = after ≡ before
VisitsAll n before (l ∷ ls) after = (middle : List ℕ) × Visits n before (wire_of l) middle × VisitsAll n middle ls after

-- the places of the gates that reach an output, in the order in which the walk ends them
abbrev pub IsWalk : Circuit → List ℕ → Type 0
IsWalk n order = VisitsAll n [] n.outs order

-- ---- the net in this order

-- the new wire: that of the constant and of an input stays, and a gate's is that of its place in the order
abbrev pub new_wire : Circuit → List ℕ → ℕ → ℕ
new_wire n order wire = if nat_le wire n.ins then wire else 1 + n.ins + unwrap_or (position (λ k. wire - (1 + n.ins) == k) order) 0

abbrev pub new_lit : Circuit → List ℕ → Lit → Lit
new_lit n order l = record { code = 2 * new_wire n order (wire_of l) + l.code % 2 }

-- a gate whose inputs ascend by their new codes
abbrev pub new_gate : Circuit → List ℕ → Gate → Gate
new_gate n order (And a b) = and_gate (new_lit n order a) (new_lit n order b)
new_gate n order (Xor a b) = plain_xor_gate (new_lit n order a) (new_lit n order b)

abbrev pub new_gate_at : Circuit → List ℕ → ℕ → Gate
new_gate_at n order place = new_gate n order (get_or n.gates place (And (record { code = 0 }) (record { code = 0 })))

abbrev pub ordered_net : Circuit → List ℕ → Circuit
ordered_net n order = record { ins = n.ins; gates = map (new_gate_at n order) order; outs = map (new_lit n order) n.outs; budget = max n.budget (length order) }
