-- Which gate lists are circuits, and which are in normal form.
use Rattle.std.specs.Prelude.{◌≡◌, ◌≢◌, ℕ, suc, ◌+◌, ◌*◌, ◌%◌, ◌^◌, ◌<◌, ◌≤◌, List, [], ◌∷◌, length, slice_get, Some}
use Rattle.std.specs.List.{All, Contains}
use Rattle.gate_net.specs.declared.literal.Gate.{Gate}
use Rattle.gate_net.specs.declared.literal.Gate.TheVariants.{And, Xor}
use Rattle.gate_net.specs.Literal.{AreApart}
use Rattle.gate_net.specs.Circuit.{Circuit, Stands}

-- both inputs of the gate are of the first `wires` wires
abbrev pub UsesBelow : ℕ → Gate → Type 0
UsesBelow wires (And a b) = (a.code < 2 * wires) × (b.code < 2 * wires)
UsesBelow wires (Xor a b) = (a.code < 2 * wires) × (b.code < 2 * wires)

-- each gate uses the first `wires` wires and earlier gates alone
abbrev pub AreOrdered : ℕ → List Gate → Type 0
AreOrdered wires [] = Unit {0}
AreOrdered wires (g ∷ gs) = UsesBelow wires g × AreOrdered (suc wires) gs

-- the most inputs, and the most gates, of any circuit
abbrev pub variable_limit : ℕ
variable_limit = 2 ^ 29

-- the most gates of a circuit that a program of hycc keeps
abbrev pub gate_limit : ℕ
gate_limit = 2 ^ 22

-- the parts make a circuit
pub record IsCircuit (n : Circuit) : Type 0 where
  pub ordered : AreOrdered (1 + n.ins) n.gates
  pub outs : All (Stands n) n.outs
  pub gates : length n.gates ≤ n.budget
  pub ins_limit : n.ins ≤ variable_limit
  pub budget_limit : n.budget ≤ variable_limit

-- the gate has no constant input and not one variable twice, its inputs ascend by code, and an Xor's are no complements
abbrev pub IsNormalGate : Gate → Type 0
IsNormalGate (And a b) = AreApart a b × (a.code < b.code)
IsNormalGate (Xor a b) = AreApart a b × (a.code < b.code) × (a.code % 2 ≡ 0) × (b.code % 2 ≡ 0)

-- a reduced gate list, but that gates may not reach an output: each gate is in normal form, and no two are equal
pub record IsNormal (gates : List Gate) : Type 0 where
  pub each : All IsNormalGate gates
  pub distinct : (i j : ℕ) → i < j → j < length gates → slice_get gates i ≢ slice_get gates j

-- a table of the gates: an entry names a place where its gate stands, and each gate has an entry
pub record IsTableOf (gates : List Gate) (entries : List (Gate × ℕ)) : Type 0 where
  pub found : (g : Gate) (k : ℕ) → Contains entries (g, k) → slice_get gates k ≡ Some g
  pub missed : (g : Gate) → Contains gates g → (k : ℕ) × Contains entries (g, k)
