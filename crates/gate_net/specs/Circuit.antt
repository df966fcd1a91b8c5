-- What contracts see of a net: its four parts.
use Rattle.std.specs.Prelude.{ℕ, ◌+◌, ◌*◌, ◌<◌, List, ◌++◌, ◌∷◌, [], length}
use Rattle.gate_net.specs.declared.literal.Lit.{Lit}
use Rattle.gate_net.specs.declared.literal.Gate.{Gate}

-- a Boolean circuit over `ins` inputs: its gates in order, its outputs, and the most gates that it may have
pub record Circuit : Type 0 where
  pub ins : ℕ
  pub gates : List Gate
  pub outs : List Lit
  pub budget : ℕ

-- how many wires there are: the constant, the inputs and the gates
abbrev pub wire_count : Circuit → ℕ
wire_count n = 1 + n.ins + length n.gates

-- the literal is a constant, or of a variable that the circuit has
abbrev pub Stands : Circuit → Lit → Type 0
Stands n l = l.code < 2 * wire_count n

-- the circuit with one gate more
abbrev pub with_gate : Circuit → Gate → Circuit
with_gate n g = record n { gates = n.gates ++ g ∷ [] }
