-- What contracts see of an arena of gates, and where its wires are used.
use Rattle.std.specs.Prelude.{◌≡◌, ◌==◌, ℕ, ◌+◌, ◌-◌, ◌<◌, List, [], Option, Some, None, get_or, length, nat_lt, slice_get, option_map, if◌then◌else◌}
use Rattle.std.specs.List.{Contains, IsDistinct}
use Rattle.hy_links.specs.declared.Link.{Link}
use Rattle.hy_links.specs.Arena.{same_link}
use Rattle.gate_net.specs.declared.literal.Lit.{Lit}
use Rattle.gate_net.specs.declared.literal.Gate.{Gate}
use Rattle.gate_net.specs.Literal.{wire_of}
pub use Rattle.gate_net.specs.Literal.{left_of, right_of}
use Rattle.gate_net.specs.Circuit.{Circuit}

-- the gates as they now stand, with inputs, outputs and budget, and for each wire the input places that hold it. A gate may
-- name later variables
pub record Wiring : Type 0 where
  pub circuit : Circuit
  pub uses : List (List Link)

-- ---- gates

-- the input of a gate at a side: left is side 0, and right is side 1
abbrev pub input_of : Gate → ℕ → Lit
input_of g side = if side == 0 then left_of g else right_of g

-- the gate of a variable
abbrev pub gate_of : Circuit → ℕ → Option Gate
gate_of n var = if nat_lt var n.ins then None else slice_get n.gates (var - n.ins)

-- the variable is an input or of a gate made
abbrev pub HasVariable : Circuit → ℕ → Type 0
HasVariable n var = var < n.ins + length n.gates

-- ---- uses: links 0 and 1 of a gate's node are its input places

-- the wire that an input place holds
abbrev pub wire_at : List Gate → Link → Option ℕ
wire_at gates link = if nat_lt link.side 2 then option_map (λ (g : Gate). wire_of (input_of g link.side)) (slice_get gates link.node) else None

-- these are the input places that hold the wire, each once
pub record AreUses (gates : List Gate) (wire : ℕ) (links : List Link) : Type 0 where
  pub all : (link : Link) → wire_at gates link ≡ Some wire → Contains links link
  pub only : (link : Link) → Contains links link → wire_at gates link ≡ Some wire
  pub once : IsDistinct same_link links

-- the input places that hold a variable, in the order of a walk
abbrev pub uses_of : Wiring → ℕ → List Link
uses_of w var = get_or w.uses (1 + var) []
