-- What the Boolean circuit of a part of a graph computes: over the bits of some nodes, those of others.
use Rattle.std.specs.Prelude.{◌≡◌, ℕ, ◌<◌, Bool, List}
use Rattle.std.specs.List.{flat_map}
use Rattle.hy_bits.specs.Bits.{low_bits}
use Rattle.hy_bits.specs.Words.{bits}
use Rattle.word_graph.specs.declared.entry.Entry.{Entry}
use Rattle.word_graph.specs.Meaning.{InputsFit, value}
use Rattle.word_graph.specs.Term.{width_at}
use Rattle.gate_net.specs.declared.netlist.GateFault.{GateFault}
use Rattle.gate_net.specs.declared.netlist.GateFault.TheVariants.{GateLimit, Memory}
use Rattle.gate_net.specs.Circuit.{Circuit}
use Rattle.gate_net.specs.Spelled.{values}

-- the number of bits of the node at a place
abbrev pub bits_at : List Entry → ℕ → ℕ
bits_at es k = bits (width_at es k)

-- the bits of its word, lowest first, where the inputs of the graph are these words
abbrev pub node_bits : List Entry → List ℕ → ℕ → List Bool
node_bits es inputs k = low_bits (bits_at es k) (value es inputs k)

-- the bits of the words of some nodes, word by word
abbrev pub bits_of_nodes : List Entry → List ℕ → List ℕ → List Bool
bits_of_nodes es inputs ks = flat_map (node_bits es inputs) ks

-- for all inputs that fit the graph: over the bits of the nodes `ins`, the circuit's outputs are the bits of the nodes `outs`
abbrev pub Computes : List Entry → (ins outs : List ℕ) → Circuit → Type 0
Computes es ins outs n = (inputs : List ℕ) → InputsFit es inputs → values n (bits_of_nodes es inputs ins) n.outs ≡ bits_of_nodes es inputs outs

-- `GateLimit` is answered, with the budget, only where the part may take more gates than the budget
abbrev pub LimitOver : (size budget : ℕ) → GateFault → Type 0
LimitOver size budget (GateLimit limit) = (limit ≡ budget) × (budget < size)
LimitOver size budget Memory = Unit {0}
