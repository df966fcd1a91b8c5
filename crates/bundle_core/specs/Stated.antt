-- The numbers that are stated of the circuits of a module: And gates of the compact one, and And gates on a path of the shallow one.
-- Each node has those of its operation, as far as it has any.
use Rattle.std.specs.Prelude.{◌≡◌, ℕ, ◌+◌, ◌<◌, ◌≤◌, true, List, Option, Some, None, is_some, slice_get, unwrap_or}
use Rattle.std.specs.List.{All, Contains, sum_by}
use Rattle.hy_bits.specs.Sizes.{Stated, stated, without_ands}
use Rattle.word_graph.specs.declared.entry.Entry.{Entry}
use Rattle.word_graph.specs.Term.{argument, arity, term_of, width_at}
use Rattle.gate_net.specs.Circuit.{Circuit}
use Rattle.gate_net.specs.Meaning.{and_count, depth_of}

-- the stated numbers of the node at a place
abbrev pub stated_entry : List Entry → Option Entry → Stated
stated_entry es None = without_ands
stated_entry es (Some e) = stated e.op e.width (width_at es (argument (term_of e) 0))

abbrev pub stated_at : List Entry → ℕ → Stated
stated_at es k = stated_entry es (slice_get es k)

-- ---- And gates

abbrev pub ands_at : List Entry → ℕ → ℕ
ands_at es k = unwrap_or (stated_at es k).ands 0

-- where a number of And gates is stated of each of the nodes, the circuit has no more of them than their sum
abbrev pub HasStatedAnds : List Entry → List ℕ → Circuit → Type 0
HasStatedAnds es nodes n = All (λ k. is_some (stated_at es k).ands ≡ true) nodes → and_count n.gates ≤ sum_by (ands_at es) nodes

-- ---- And gates on paths

abbrev pub depth_at : List Entry → ℕ → ℕ
depth_at es k = unwrap_or (stated_at es k).depth 0

-- the node at place k takes that at place x
abbrev pub TakesNode : List Entry → (k x : ℕ) → Type 0
TakesNode es k x = (e : Entry) × (i : ℕ) × (slice_get es k ≡ Some e) × (i < arity e.op) × (argument (term_of e) i ≡ x)

-- a path through some nodes that ends at the node k, with this sum of stated depths, the end counted: it begins at one of the nodes, and
-- goes on from a node to one that takes it
pub data EndsPath (es : List Entry) (nodes : List ℕ) : (k sum : ℕ) → Type 0 where
  starts : (k sum : ℕ) → Contains nodes k → sum ≡ depth_at es k → EndsPath es nodes k sum
  onward : (k sum x before : ℕ) → Contains nodes k → TakesNode es k x → EndsPath es nodes x before → sum ≡ before + depth_at es k → EndsPath es nodes k sum

-- no path that ends at the node has a greater sum than d
abbrev pub EndsWithin : List Entry → List ℕ → (k d : ℕ) → Type 0
EndsWithin es nodes k d = (sum : ℕ) → EndsPath es nodes k sum → sum ≤ d

-- where a depth is stated of each of the nodes, the circuit is no deeper than the greatest sum of them along a path: than any number d that
-- no path exceeds
abbrev pub HasStatedDepth : List Entry → List ℕ → Circuit → Type 0
HasStatedDepth es nodes n =
    All (λ k. is_some (stated_at es k).depth ≡ true) nodes → (d : ℕ) → ((k : ℕ) → EndsWithin es nodes k d) → depth_of n ≤ d
