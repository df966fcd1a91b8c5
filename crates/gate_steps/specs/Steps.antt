-- Steps from one circuit to another: which are right, what each leaves, and when a list of them replays a circuit into another.
use Rattle.std.specs.Prelude.{◌≡◌, ◌==◌, ◌≢◌, ℕ, ◌+◌, ◌≤◌, Bool, List, [], ◌∷◌, length, map}
use Rattle.std.specs.List.{All, IsDistinct}
use Rattle.gate_net.specs.declared.literal.Lit.{Lit}
use Rattle.gate_net.specs.declared.literal.Gate.TheVariants.{And, Xor}
use Rattle.gate_net.specs.Literal.{wire_of}
use Rattle.gate_net.specs.Circuit.{Circuit, Stands, with_gate}
use Rattle.gate_net.specs.Paths.{DependsOn}
use Rattle.gate_net.specs.Spelled.{values}
use Rattle.gate_arena.specs.Change.{replaced}
use Rattle.gate_arena.specs.Order.{IsWalk, ordered_net}
use Rattle.gate_arena.specs.Values.{bit_of}
use Rattle.gate_arena.specs.Wiring.{HasVariable}
use Rattle.gate_steps.specs.declared.Step.{Step}
use Rattle.gate_steps.specs.declared.Step.TheVariants.{And as AddAnd, Xor as AddXor, Replace}
use Rattle.gate_steps.specs.Cones.{CarriesOver, InCone, IsCone, leaf_limit}

-- ---- a replacement of the variable v by the literal `by`, over leaves, which are variables

-- the wires of the leaves
abbrev pub leaf_wires : List ℕ → List ℕ
leaf_wires leaves = map (λ x. 1 + x) leaves

-- v is a gate, and the literal and the leaves stand
pub record IsInRange (n : Circuit) (v : ℕ) (by : Lit) (leaves : List ℕ) : Type 0 where
  pub gate : n.ins ≤ v
  pub variable : HasVariable n v
  pub by_stands : Stands n by
  pub leaves_stand : All (HasVariable n) leaves

-- there are few leaves, they are distinct, none is v, and each is reached from v
pub record AreLeaves (n : Circuit) (v : ℕ) (leaves : List ℕ) : Type 0 where
  pub few : length leaves ≤ leaf_limit
  pub distinct : IsDistinct (λ x y. x == y) leaves
  pub others : All (λ x. x ≢ v) leaves
  pub reached : All (λ x. DependsOn n (1 + x) (1 + v)) leaves

-- the cones of v and of the literal above the leaves end in leaves and constants and have few gates, and v is not in the literal's
pub record AreCones (n : Circuit) (v : ℕ) (by : Lit) (leaves : List ℕ) : Type 0 where
  pub of_variable : IsCone n (leaf_wires leaves) (1 + v)
  pub of_literal : IsCone n (leaf_wires leaves) (wire_of by)
  pub apart : ¬ InCone n (leaf_wires leaves) (wire_of by) (1 + v)

-- v and the literal agree for all bits of the leaves
abbrev pub AreEqualOver : Circuit → ℕ → Lit → List ℕ → Type 0
AreEqualOver n v by leaves =
    (given : ℕ → Bool) (b : Bool) → CarriesOver n (leaf_wires leaves) given (1 + v) b → CarriesOver n (leaf_wires leaves) given (wire_of by) (bit_of by b)

pub record IsRightReplacement (n : Circuit) (v : ℕ) (by : Lit) (leaves : List ℕ) : Type 0 where
  pub range : IsInRange n v by leaves
  pub leaves_of : AreLeaves n v leaves
  pub cones : AreCones n v by leaves
  pub equal : AreEqualOver n v by leaves

-- ---- steps

-- the step is right: a new gate is over literals that stand, and a replacement is one of the above
abbrev pub IsRight : Circuit → Step → Type 0
IsRight n (AddAnd a b) = Stands n a × Stands n b
IsRight n (AddXor a b) = Stands n a × Stands n b
IsRight n (Replace v by leaves) = IsRightReplacement n v by leaves.items

-- what the step leaves of a circuit, whose gates may name later wires: a new gate makes the next variable
abbrev pub stepped : Circuit → Step → Circuit
stepped n (AddAnd a b) = with_gate n (And a b)
stepped n (AddXor a b) = with_gate n (Xor a b)
stepped n (Replace v by leaves) = replaced (1 + v) by n

-- each of the steps is right where those before it have been made
abbrev pub AreRight : Circuit → List Step → Type 0
AreRight n [] = Unit {0}
AreRight n (s ∷ ss) = IsRight n s × AreRight (stepped n s) ss

-- what they leave
abbrev pub after : Circuit → List Step → Circuit
after n [] = n
after n (s ∷ ss) = after (stepped n s) ss

-- every step is right, and the gates that then reach an output, in the order of a depth-first walk from the outputs, are the new circuit
pub record Replays (old : Circuit) (steps : List Step) (new : Circuit) : Type 0 where
  pub right : AreRight old steps
  pub order : List ℕ
  pub walk : IsWalk (after old steps) order
  pub same : new ≡ ordered_net (after old steps) order

-- two circuits have equal outputs on all inputs
abbrev pub HaveEqualOutputs : Circuit → Circuit → Type 0
HaveEqualOutputs old new = (bits : List Bool) → values new bits new.outs ≡ values old bits old.outs
