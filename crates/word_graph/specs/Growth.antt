-- How a graph grows by calls: the relations between the graph before and after that the layers above compose.
use Rattle.std.specs.Prelude.{◌≡◌, ◌≢◌, ℕ, ◌+◌, ◌<◌, ◌≤◌, List, ◌++◌, length}
use Rattle.std.specs.List.{All}
use Rattle.hy_bits.specs.declared.op.Op.TheVariants.{In}
use Rattle.word_graph.specs.declared.entry.Entry.{Entry}
use Rattle.word_graph.specs.declared.graph.GraphFault.{GraphFault}
use Rattle.word_graph.specs.declared.graph.GraphFault.TheVariants.{NodeLimit, Memory}
use Rattle.word_graph.specs.Shape.{node_limit}
use Rattle.word_graph.specs.Size.{graph_size}
use Rattle.word_graph.specs.Term.{region_of}

-- the new graph is the old one with at most `nodes` nodes more, whose circuits may take at most `gates` gates; so old
-- nodes keep their values
pub record Grows (old new : List Entry) (nodes gates : ℕ) : Type 0 where
  pub added : List Entry
  pub appended : new ≡ old ++ added
  pub few_nodes : length added ≤ nodes
  pub few_gates : graph_size new ≤ graph_size old + gates

-- the entry is no input, and of this region, or of region 0 where it is a constant
abbrev pub IsMadeIn : ℕ → Entry → Type 0
IsMadeIn region e = (e.op ≢ In) × (e.region ≡ region_of e.op region)

-- the same growth by nodes of one region alone, none of which is an input; so inputs that fit the old graph fit the new one
pub record GrowsIn (region : ℕ) (old new : List Entry) (nodes gates : ℕ) : Type 0 where
  pub added : List Entry
  pub appended : new ≡ old ++ added
  pub few_nodes : length added ≤ nodes
  pub few_gates : graph_size new ≤ graph_size old + gates
  pub made : All (IsMadeIn region) added

-- a call that makes at most `nodes` nodes stopped: at the limit the graph holds as many nodes as it may, of which the call made
-- fewer than `nodes`
abbrev pub StopsWithin : List Entry → List Entry → ℕ → GraphFault → Type 0
StopsWithin old new nodes (NodeLimit limit) = (limit ≡ node_limit) × (length new ≡ node_limit) × (length new < length old + nodes)
StopsWithin old new nodes Memory = Unit {0}
