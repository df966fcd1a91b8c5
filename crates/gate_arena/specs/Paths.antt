-- Which gates depend on which wires, where a gate may name later ones.
use Rattle.std.specs.Prelude.{◌==◌, ◌≢◌, ℕ, ◌+◌, ◌<◌, max, List, get_or, length, if◌then◌else◌}
use Rattle.std.specs.List.{Contains}
use Rattle.gate_net.specs.declared.literal.Gate.{Gate}
use Rattle.gate_net.specs.Literal.{wire_of}
use Rattle.gate_net.specs.Circuit.{Circuit, wire_count}
use Rattle.gate_arena.specs.Wiring.{left_of, right_of}
pub use Rattle.gate_net.specs.Paths.{Takes, DependsOn, ReachesOutput, itself, through}

-- no way down from the wire goes on for ever
pub data Ends (n : Circuit) : ℕ → Type 0 where
  ends : (wire : ℕ) → ((x : ℕ) → Takes n wire x → Ends n x) → Ends n wire

-- no gate depends on itself
abbrev pub IsAcyclic : Circuit → Type 0
IsAcyclic n = (wire : ℕ) → Ends n wire

-- a number for each wire that falls along inputs: it says that no gate depends on itself
abbrev pub IsRanked : Circuit → (ℕ → ℕ) → Type 0
IsRanked n rank = (wire x : ℕ) → Takes n wire x → rank x < rank wire

-- the same numbers, where the circuit has one gate more
abbrev pub rank_with : Circuit → Gate → (ℕ → ℕ) → ℕ → ℕ
rank_with n g rank wire = if wire == wire_count n then 1 + max (rank (wire_of (left_of g))) (rank (wire_of (right_of g))) else rank wire

-- the order has exactly the places of the gates that reach an output, each once
pub record IsReachedOrder (n : Circuit) (order : List ℕ) : Type 0 where
  pub all : (place : ℕ) → ReachesOutput n (1 + n.ins + place) → place < length n.gates → Contains order place
  pub only : (place : ℕ) → Contains order place → (place < length n.gates) × ReachesOutput n (1 + n.ins + place)
  pub once : (i j : ℕ) → i < j → j < length order → get_or order i 0 ≢ get_or order j 0
