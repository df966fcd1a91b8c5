-- What the parts of an arena stand for. Private to the crate: contracts of `Arena` name none of it.
use Rattle.std.specs.Prelude.{◌≡◌, ◌==◌, ◌⊎◌, ℕ, ◌+◌, ◌*◌, ◌<◌, ◌≤◌, List, [], ◌∷◌, Option, Some, None, get_or, length, option_map, slice_get, if◌then◌else◌}
use Rattle.std.specs.List.{All, Contains, position}
use Rattle.hy_links.specs.declared.Link.{Link}
use Rattle.hy_links.specs.Arena.{Arena, chain, max_nodes}
use Rattle.gate_net.specs.declared.literal.Lit.{Lit}
use Rattle.gate_net.specs.declared.literal.Gate.{Gate}
use Rattle.gate_net.specs.declared.literal.Gate.TheVariants.{And, Xor}
use Rattle.gate_net.specs.Literal.{wire_of}
use Rattle.gate_net.specs.Shape.{UsesBelow, variable_limit}
use Rattle.gate_net.specs.Circuit.{Circuit, Stands, wire_count}
use Rattle.gate_arena.specs.Wiring.{left_of, right_of, wire_at}
use Rattle.gate_arena.specs.Paths.{IsAcyclic, Takes}
use Rattle.gate_arena.specs.Order.{IsDone, Visits}

-- ---- gates and their uses

-- the gate with another input
abbrev pub with_input : Gate → ℕ → Lit → Gate
with_input (And a b) side l = if side == 0 then And l b else And a l
with_input (Xor a b) side l = if side == 0 then Xor l b else Xor a l

-- gates over the first `starts` wires and their own, and for each wire the places that hold it
pub record Wired : Type 0 where
  pub starts : ℕ
  pub gates : List Gate
  pub uses : List (List Link)

-- each input place of a gate stands in the list of its wire, and no other link stands in a list
pub record IsMirror (gates : List Gate) (a : Arena) : Type 0 where
  pub nodes : a.nodes ≡ length gates
  pub within : All (UsesBelow (a.lists + length gates)) gates
  pub all : (link : Link) (wire : ℕ) → wire_at gates link ≡ Some wire → Contains (chain a wire) link
  pub sides : (link : Link) (wire : ℕ) → Contains (chain a wire) link → link.side < 2

-- ---- outputs, and for each wire the outputs that hold it

-- the outputs, where there are so many wires
pub record OutList : Type 0 where
  pub lits : List Lit
  pub wires : ℕ

-- the wire that an output holds
abbrev pub wire_of_out : List Lit → ℕ → Option ℕ
wire_of_out lits i = option_map wire_of (slice_get lits i)

-- from this place on, each place and then the one that `next` names for it
abbrev pub IsPath : List (Option ℕ) → Option ℕ → List ℕ → Type 0
IsPath next None [] = Unit {0}
IsPath next None (x ∷ xs) = ⊥
IsPath next (Some i) [] = ⊥
IsPath next (Some i) (x ∷ xs) = (i ≡ x) × IsPath next (get_or next x None) xs

-- no place comes twice
abbrev pub AreOnce : List ℕ → Type 0
AreOnce [] = Unit {0}
AreOnce (x ∷ xs) = ¬ Contains xs x × AreOnce xs

-- the places from `start` on are those of the outputs that hold the wire
pub record IsChainOf (lits : List Lit) (next : List (Option ℕ)) (wire : ℕ) (start : Option ℕ) : Type 0 where
  pub places : List ℕ
  pub path : IsPath next start places
  pub once : AreOnce places
  pub only : (i : ℕ) → Contains places i → wire_of_out lits i ≡ Some wire
  pub all : (i : ℕ) → wire_of_out lits i ≡ Some wire → Contains places i

-- each wire's outputs are chained from its first
pub record AreChained (lits : List Lit) (first next : List (Option ℕ)) : Type 0 where
  pub one_for_each : length next ≡ length lits
  pub stand : (i wire : ℕ) → wire_of_out lits i ≡ Some wire → wire < length first
  pub chain : (wire : ℕ) → wire < length first → IsChainOf lits next wire (get_or first wire None)

-- ---- an arena

-- the gates of a circuit use its wires
pub record AreWithin (n : Circuit) : Type 0 where
  pub each : (k : ℕ) (g : Gate) → slice_get n.gates k ≡ Some g → UsesBelow (wire_count n) g

-- the circuit of an arena, whose gates have so many wires before them and whose outputs know so many wires
pub record IsArena (n : Circuit) (before known : ℕ) : Type 0 where
  pub starts : before ≡ 1 + n.ins
  pub wires : known ≡ wire_count n
  pub within : AreWithin n
  pub outs : All (Stands n) n.outs
  pub acyclic : IsAcyclic n
  pub few_ins : n.ins ≤ variable_limit
  pub low_budget : n.budget ≤ variable_limit
  pub few_gates : length n.gates ≤ max_nodes

-- ---- a walk under way

-- of so many gates: those that have been ended, in order, and those on the way down to the present one
pub record Walked : Type 0 where
  pub count : ℕ
  pub order : List ℕ
  pub stack : List ℕ

-- each gate's number is its place in the order
pub record AreNumbers (order : List ℕ) (numbers : List (Option ℕ)) : Type 0 where
  pub right : (k i : ℕ) → get_or numbers k None ≡ Some i → (i < length order) × (get_or order i 0 ≡ k)
  pub all : (i : ℕ) → i < length order → get_or numbers (get_or order i 0) None ≡ Some i

-- the gate's number, if it has been ended
abbrev pub number_of : List ℕ → ℕ → Option ℕ
number_of order k = position (λ p. k == p) order

-- the gate of a wire that has not been ended
abbrev pub OpenGate : Circuit → List ℕ → ℕ → Option ℕ → Type 0
OpenGate n order wire None = IsDone n order wire
OpenGate n order wire (Some k) = (wire ≡ 1 + n.ins + k) × (k < length n.gates) × ¬ Contains order k

-- the first input of a gate whose gate has not been ended
abbrev pub OpenInput : Circuit → List ℕ → Gate → Option ℕ → Type 0
OpenInput n order g None = IsDone n order (wire_of (left_of g)) × IsDone n order (wire_of (right_of g))
OpenInput n order g (Some k) = OpenGate n order (wire_of (left_of g)) (Some k) ⊎ (IsDone n order (wire_of (left_of g)) × OpenGate n order (wire_of (right_of g)) (Some k))

-- the gates on the way down from the last one: each takes the next
abbrev pub IsWayDown : Circuit → List ℕ → Type 0
IsWayDown n [] = Unit {0}
IsWayDown n (k ∷ []) = Unit {0}
IsWayDown n (k ∷ j ∷ ks) = Takes n (1 + n.ins + k) (1 + n.ins + j) × IsWayDown n (j ∷ ks)

-- what is left of a walk: the gates on the way are visited, the last one first
abbrev pub Finishes : Circuit → List ℕ → List ℕ → List ℕ → Type 0
Finishes n order [] after = after ≡ order
Finishes n order (k ∷ ks) after = (middle : List ℕ) × Finishes n order ks middle × Visits n middle (1 + n.ins + k) after

-- a walk to one wire is under way
pub record IsOnWay (n : Circuit) (begun : List ℕ) (wire : ℕ) (w : Walked) : Type 0 where
  pub count : w.count ≡ length n.gates
  pub finishes : (after : List ℕ) → Finishes n w.order w.stack after → Visits n begun wire after
  pub way : IsWayDown n w.stack
  pub ahead : (k : ℕ) → Contains w.stack k → (k < length n.gates) × ¬ Contains w.order k
  pub once : AreOnce w.stack
  pub order_once : AreOnce w.order
  pub order_low : (k : ℕ) → Contains w.order k → k < length n.gates

-- a walk that is on no way
pub record IsAtRest (n : Circuit) (w : Walked) : Type 0 where
  pub count : w.count ≡ length n.gates
  pub empty : w.stack ≡ []
  pub order_once : AreOnce w.order
  pub order_low : (k : ℕ) → Contains w.order k → k < length n.gates

-- how far a walk has come
abbrev pub distance : Walked → ℕ
distance w = 2 * length w.order + length w.stack
