-- Nodes that are inputs, and words that fit widths.
use Rattle.std.specs.Prelude.{◌≡◌, ℕ, ◌<◌, List, length, get_or}
use Rattle.hy_bits.specs.declared.width.Width.{Width}
use Rattle.hy_bits.specs.declared.width.Width.TheVariants.{W1}
use Rattle.hy_bits.specs.Words.{IsWord}
use Rattle.word_graph.specs.declared.entry.Entry.{Entry}
use Rattle.word_graph.specs.declared.entry.Node.{Node}
use Rattle.word_graph.specs.Meaning.{InputsFit}
use Rattle.word_nodes.specs.Nodes.{worth}

-- the node is the word of this number of the inputs, which all inputs that fit have
abbrev pub IsInput : List Entry → (number : ℕ) → Node → Type 0
IsInput es number n = (ins : List ℕ) → InputsFit es ins → (number < length ins) × (worth es ins n ≡ get_or ins number 0)

-- for each width a word of it, from the first on; there may be more
abbrev pub HasWords : List Width → List ℕ → Type 0
HasWords widths words = (k : ℕ) → k < length widths → (k < length words) × IsWord (get_or widths k W1) (get_or words k 0)

-- as many words as widths, each of its width
abbrev pub AreWords : List Width → List ℕ → Type 0
AreWords widths words = (length words ≡ length widths) × HasWords widths words
