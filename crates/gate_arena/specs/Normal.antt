-- Which arenas give reduced nets: those where no gate that reaches an output has a constant input, one variable twice, an Xor input that is
-- a complement, or an equal.
use Rattle.std.specs.Prelude.{◌≡◌, ◌≢◌, ℕ, ◌+◌, ◌%◌, Some, slice_get}
use Rattle.gate_net.specs.declared.literal.Gate.{Gate}
use Rattle.gate_net.specs.declared.literal.Gate.TheVariants.{And, Xor}
use Rattle.gate_net.specs.Literal.{AreApart, and_gate, plain_xor_gate}
use Rattle.gate_net.specs.Circuit.{Circuit}
use Rattle.gate_net.specs.Paths.{ReachesOutput}

-- a gate in normal form, but that its inputs may come in any order
abbrev pub IsPlainGate : Gate → Type 0
IsPlainGate (And a b) = AreApart a b
IsPlainGate (Xor a b) = AreApart a b × (a.code % 2 ≡ 0) × (b.code % 2 ≡ 0)

-- the gate with its inputs in ascending order
abbrev pub ascending : Gate → Gate
ascending (And a b) = and_gate a b
ascending (Xor a b) = plain_xor_gate a b

pub record IsPlain (n : Circuit) : Type 0 where
  pub each : (k : ℕ) (g : Gate) → ReachesOutput n (1 + n.ins + k) → slice_get n.gates k ≡ Some g → IsPlainGate g
  pub distinct : (j k : ℕ) (g h : Gate) → j ≢ k → ReachesOutput n (1 + n.ins + j) → ReachesOutput n (1 + n.ins + k) → slice_get n.gates j ≡ Some g → slice_get n.gates k ≡ Some h → ascending g ≢ ascending h
