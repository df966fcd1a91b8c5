-- Nodes of a graph that grows: which stand, what they carry, and what calls that make nodes keep.
use Rattle.std.specs.Prelude.{◌≡◌, ℕ, ◌<◌, List, [], ◌∷◌, ◌++◌, length, map}
use Rattle.std.specs.List.{All}
use Rattle.hy_bits.specs.declared.width.Width.{Width}
use Rattle.word_graph.specs.declared.entry.Entry.{Entry}
use Rattle.word_graph.specs.declared.entry.Node.{Node}
use Rattle.word_graph.specs.declared.graph.GraphFault.{GraphFault}
use Rattle.word_graph.specs.declared.graph.GraphFault.TheVariants.{NodeLimit, Memory}
use Rattle.word_graph.specs.Growth.{IsMadeIn}
use Rattle.word_graph.specs.Meaning.{value, InputsFit}
use Rattle.word_graph.specs.Shape.{node_limit}
use Rattle.word_graph.specs.Term.{width_at}

-- the node stands in the graph, and has the width
pub record Stands (es : List Entry) (w : Width) (n : Node) : Type 0 where
  pub within : n.index < length es
  pub width : width_at es n.index ≡ w

-- nodes of these widths stand in the graph
abbrev pub AllStand : List Entry → List Width → List Node → Type 0
AllStand es [] [] = Unit {0}
AllStand es [] (n ∷ ns) = ⊥
AllStand es (w ∷ ws) [] = ⊥
AllStand es (w ∷ ws) (n ∷ ns) = Stands es w n × AllStand es ws ns

-- the value of a node where the inputs are these words
abbrev pub worth : List Entry → List ℕ → Node → ℕ
worth es ins n = value es ins n.index

abbrev pub worths : List Entry → List ℕ → List Node → List ℕ
worths es ins ns = map (worth es ins) ns

-- the new graph is the old one with nodes more, of which none is an input and each is of the region, or of region 0 where it is a
-- constant. So old nodes keep their widths and values, and inputs fit the new graph where they fit the old one
pub record Extends (region : ℕ) (old new : List Entry) : Type 0 where
  pub added : List Entry
  pub appended : new ≡ old ++ added
  pub made : All (IsMadeIn region) added

-- a limit that is told is that of nodes, and the graph is full
abbrev pub IsFull : List Entry → GraphFault → Type 0
IsFull es (NodeLimit limit) = (limit ≡ node_limit) × (length es ≡ node_limit)
IsFull es Memory = Unit {0}

-- for all inputs that fit, a node of the new graph has the value f of the value of a node of the old one
abbrev pub IsOfOne : (ℕ → ℕ) → (old new : List Entry) → Node → Node → Type 0
IsOfOne f old new a n = (ins : List ℕ) → InputsFit old ins → worth new ins n ≡ f (worth old ins a)

-- the same of two, and of three
abbrev pub IsOfTwo : (ℕ → ℕ → ℕ) → (old new : List Entry) → Node → Node → Node → Type 0
IsOfTwo f old new a b n = (ins : List ℕ) → InputsFit old ins → worth new ins n ≡ f (worth old ins a) (worth old ins b)

abbrev pub IsOfThree : (ℕ → ℕ → ℕ → ℕ) → (old new : List Entry) → Node → Node → Node → Node → Type 0
IsOfThree f old new a b c n =
    (ins : List ℕ) → InputsFit old ins → worth new ins n ≡ f (worth old ins a) (worth old ins b) (worth old ins c)
