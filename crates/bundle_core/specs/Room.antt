-- What the buffers hold that a bundle's circuits are computed in, and which words fit a graph.
use Rattle.std.specs.Prelude.{◌≡◌, ℕ, ◌+◌, ◌≤◌, List, Option, None, Some, get_or, length}
use Rattle.hy_bits.specs.Words.{IsWord}
use Rattle.word_graph.specs.declared.entry.Entry.{Entry}
use Rattle.word_graph.specs.Term.{width_at}
use Rattle.ring_net.specs.Ring.{Ring}
use Rattle.bundle_core.specs.declared.parts.Variant.{Variant}

-- one word for each node, in its width
pub record FitsNodes (es : List Entry) (ws : List ℕ) : Type 0 where
  pub count : length ws ≡ length es
  pub each : (k : ℕ) → IsWord (width_at es k) (get_or ws k 0)

-- how many variables the ring circuit has, if there is one
abbrev pub ring_variables : Option Ring → ℕ
ring_variables None = 0
ring_variables (Some r) = length r.ins + length r.gates

-- the circuits of gates of a module have no more variables than so many places
pub record FitsBuffer (places : ℕ) (v : Variant) : Type 0 where
  pub compact : v.compact.ins + length v.compact.gates ≤ places
  pub shallow : v.shallow.ins + length v.shallow.gates ≤ places

-- the same of all of its circuits
pub record FitsRoom (bits words : ℕ) (v : Variant) : Type 0 where
  pub nets : FitsBuffer bits v
  pub ring : ring_variables v.ring ≤ words
