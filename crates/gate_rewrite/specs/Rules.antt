-- Gates below a literal, and what a gate carries where one of its inputs is known.
use Rattle.std.specs.Prelude.{◌≡◌, ℕ, ◌+◌, ◌*◌, ◌<◌, ◌≤◌, Bool, true, false, if◌then◌else◌, List, Some, get_or, slice_get}
use Rattle.gate_net.specs.declared.literal.Lit.{Lit}
use Rattle.gate_net.specs.declared.literal.Gate.{Gate}
use Rattle.gate_net.specs.Literal.{complement_of, wire_of}
use Rattle.gate_net.specs.Circuit.{Circuit}
use Rattle.gate_net.specs.Meaning.{as_bits, as_levels, gate_reading, reading, xor}
use Rattle.gate_net.specs.Shape.{UsesBelow}

-- what an And carries where one of its inputs is known, and the other is this one
abbrev pub both_of : Bool → Lit → Lit
both_of known other = if known then other else record { code = 0 }

-- the same of an Xor
abbrev pub differ_of : Bool → Lit → Lit
differ_of known other = if known then complement_of other else other

-- the literal is of the variable that the gate makes
pub record IsOver (n : Circuit) (l : Lit) (gate : Gate) : Type 0 where
  pub place : ℕ
  pub here : wire_of l ≡ 1 + n.ins + place
  pub stands : slice_get n.gates place ≡ Some gate

-- the literal is of an input of the gate, or constant: it stands where these do, at no greater level
pub record IsBelow (gate : Gate) (l : Lit) : Type 0 where
  pub stands : (wires : ℕ) → 0 < wires → UsesBelow wires gate → l.code < 2 * wires
  pub levels : (ws : List ℕ) → get_or ws 0 0 ≡ 0 → reading as_levels ws l ≤ gate_reading as_levels ws gate

-- over all wires where p is 1, the literal carries what the gate carries
abbrev pub IsWhereTrue : Gate → Lit → Lit → Type 0
IsWhereTrue gate p l = (ws : List Bool) → get_or ws 0 false ≡ false → reading as_bits ws p ≡ true → reading as_bits ws l ≡ gate_reading as_bits ws gate

-- over all wires, the literal carries the exclusive or of p and the gate
abbrev pub IsDifference : Gate → Lit → Lit → Type 0
IsDifference gate p l = (ws : List Bool) → get_or ws 0 false ≡ false → reading as_bits ws l ≡ xor (reading as_bits ws p) (gate_reading as_bits ws gate)
