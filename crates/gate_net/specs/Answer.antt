-- What `and` and `xor` answer.
use Rattle.std.specs.Prelude.{◌≡◌, ◌⊎◌, ℕ, ◌+◌, ◌*◌, ◌≤◌, max, Bool, false, ◌&&◌, List, get_or, slice_get, Some, Result, Ok, Err}
use Rattle.std.specs.List.{Contains}
use Rattle.gate_net.specs.declared.literal.Lit.{Lit}
use Rattle.gate_net.specs.declared.literal.Gate.{Gate}
use Rattle.gate_net.specs.declared.netlist.GateFault.{GateFault}
use Rattle.gate_net.specs.declared.netlist.GateFault.TheVariants.{GateLimit, Memory}
use Rattle.gate_net.specs.Literal.{AreApart}
use Rattle.gate_net.specs.Circuit.{Circuit, with_gate}
use Rattle.gate_net.specs.Meaning.{xor, as_bits, as_levels, reading}

-- a new gate is wanted: no argument is constant, the variables differ, and the gate doesn't stand
pub record Wants (n : Circuit) (a b : Lit) (gate : Gate) : Type 0 where
  pub apart : AreApart a b
  pub absent : ¬ Contains n.gates gate

-- the gate is made exactly where it is wanted, and nothing else changes
abbrev pub AddsIfWanted : Circuit → Circuit → Lit → Lit → Gate → Type 0
AddsIfWanted old new a b gate = (Wants old a b gate × (new ≡ with_gate old gate)) ⊎ (¬ (Wants old a b gate) × (new ≡ old))

-- `GateLimit`, with this number, is answered exactly where P holds
abbrev pub LimitIff : Result Lit GateFault → ℕ → Type 0 → Type 0
LimitIff (Ok l) limit P = ¬ P
LimitIff (Err (GateLimit k)) limit P = P × (k ≡ limit)
LimitIff (Err Memory) limit P = ¬ P

-- the gate stands: it stood before and nothing changes, or it is the one gate more
abbrev pub SharesOrAdds : Circuit → Circuit → Gate → Type 0
SharesOrAdds old new gate = (Contains old.gates gate × (new ≡ old)) ⊎ (¬ (Contains old.gates gate) × (new ≡ with_gate old gate))

-- the literal is the variable of this gate
abbrev pub IsOutputOf : Circuit → Gate → Lit → Type 0
IsOutputOf n gate l = (place : ℕ) × (slice_get n.gates place ≡ Some gate) × (l.code ≡ 2 * (n.ins + place) + 2)

-- an And that needs no gate: one input is constant or both are of one variable, and over all wires the answer is the And at no greater level
pub record FoldsAnd (a b answer : Lit) : Type 0 where
  pub not_apart : ¬ (AreApart a b)
  pub stands : answer.code ≤ max a.code b.code
  pub bits : (ws : List Bool) → get_or ws 0 false ≡ false → reading as_bits ws answer ≡ (reading as_bits ws a && reading as_bits ws b)
  pub levels : (ws : List ℕ) → get_or ws 0 0 ≡ 0 → reading as_levels ws answer ≤ max (reading as_levels ws a) (reading as_levels ws b)

-- the same for an Xor of two literals that are no complements
pub record FoldsXor (a b answer : Lit) : Type 0 where
  pub not_apart : ¬ (AreApart a b)
  pub stands : answer.code ≤ max a.code b.code
  pub bits : (ws : List Bool) → get_or ws 0 false ≡ false → reading as_bits ws answer ≡ xor (reading as_bits ws a) (reading as_bits ws b)
  pub levels : (ws : List ℕ) → get_or ws 0 0 ≡ 0 → reading as_levels ws answer ≤ max (reading as_levels ws a) (reading as_levels ws b)
