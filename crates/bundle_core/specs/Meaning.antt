-- What a bundle computes under a list of choices: module by module, each by its chosen circuit.
use Rattle.std.specs.Prelude.{ℕ, Bool, List, [], ◌∷◌, ◌++◌, Option, None, Some, drop, get_or, map, slice_set, take}
use Rattle.hy_bits.specs.declared.op.Op.{Op}
use Rattle.hy_bits.specs.declared.op.Op.TheVariants.{In, Const}
use Rattle.hy_bits.specs.declared.width.Width.{Width}
use Rattle.hy_bits.specs.Bits.{low_bits, number}
use Rattle.hy_bits.specs.Words.{bits}
use Rattle.word_graph.specs.declared.entry.Entry.{Entry}
use Rattle.word_graph.specs.declared.entry.Node.{Node}
use Rattle.word_graph.specs.Meaning.{Word}
use Rattle.module_split.specs.declared.module.Module.{Module}
use Rattle.ring_net.specs.Ring.{Ring, outputs}
use Rattle.gate_net.specs.Circuit.{Circuit}
use Rattle.gate_net.specs.Spelled.{values}
use Rattle.choice_core.specs.declared.sharings.Choice.{Choice}
use Rattle.choice_core.specs.declared.sharings.Choice.TheVariants.{A, Y, C, S}
use Rattle.bundle_core.specs.declared.parts.Parts.{Parts}
use Rattle.bundle_core.specs.declared.parts.Variant.{Variant}
use Rattle.bundle_core.specs.Parts.{widths_at}

-- ---- one circuit on words

-- the bits of words of these widths, word by word, the lowest bit of each first
abbrev pub bits_of_words : List Width → List ℕ → List Bool
bits_of_words [] xs = []
bits_of_words (w ∷ widths) [] = []
bits_of_words (w ∷ widths) (x ∷ xs) = low_bits (bits w) x ++ bits_of_words widths xs

-- the words of these widths that the bits spell
abbrev pub words_of_bits : List Width → List Bool → List ℕ
words_of_bits [] bs = []
words_of_bits (w ∷ widths) bs = number (take (bits w) bs) ∷ words_of_bits widths (drop (bits w) bs)

-- what a Boolean circuit gives of words of the widths `ins`, as words of the widths `outs`
abbrev pub net_words : Circuit → (ins outs : List Width) → List ℕ → List ℕ
net_words net ins outs xs = words_of_bits outs (values net (bits_of_words ins xs) net.outs)

-- what a ring circuit gives, where there is one
abbrev pub ring_words : Option Ring → List ℕ → List ℕ
ring_words None xs = []
ring_words (Some ring) xs = map (λ (w : Word). w.value) (outputs ring xs)

-- what the chosen circuit gives: A takes the ring circuit, Y and C the compact one, S the shallow one
abbrev pub chosen_words : Variant → Choice → (ins outs : List Width) → List ℕ → List ℕ
chosen_words variant A ins outs xs = ring_words variant.ring xs
chosen_words variant Y ins outs xs = net_words variant.compact ins outs xs
chosen_words variant C ins outs xs = net_words variant.compact ins outs xs
chosen_words variant S ins outs xs = net_words variant.shallow ins outs xs

-- ---- the words of all nodes

-- the word of a node before any module: that of an input or of a constant, and else 0
abbrev pub given_word : List ℕ → Op → ℕ → ℕ
given_word inputs In number = get_or inputs number 0
given_word inputs Const number = number
given_word inputs _ number = 0

abbrev pub given_words : List Entry → List ℕ → List ℕ
given_words es inputs = map (λ (e : Entry). given_word inputs e.op e.number) es

-- the words at these places
abbrev pub words_at : List ℕ → List ℕ → List ℕ
words_at ws places = map (λ k. get_or ws k 0) places

-- the words xs put at these places, one by one
abbrev pub put_words : List ℕ → (places xs : List ℕ) → List ℕ
put_words ws [] xs = ws
put_words ws (k ∷ places) [] = ws
put_words ws (k ∷ places) (x ∷ xs) = put_words (slice_set ws k x) places xs

-- the words that a module makes of those before it
abbrev pub module_words : List Entry → Module → Variant → Choice → List ℕ → List ℕ
module_words es part variant c ws = chosen_words variant c (widths_at es part.ins) (widths_at es part.outs) (words_at ws part.ins)

-- the words of all nodes after a module
abbrev pub after_module : List Entry → Module → Variant → Choice → List ℕ → List ℕ
after_module es part variant c ws = put_words ws part.outs (module_words es part variant c ws)

-- the same after several modules, in order
unfoldable pub after_modules : List Entry → List Module → List Variant → List Choice → List ℕ → List ℕ
after_modules es [] variants choices ws = ws
after_modules es (part ∷ parts) [] choices ws = ws
after_modules es (part ∷ parts) (variant ∷ variants) [] ws = ws
after_modules es (part ∷ parts) (variant ∷ variants) (c ∷ choices) ws = after_modules es parts variants choices (after_module es part variant c ws)

-- ---- the value

-- the words of all nodes after all modules
abbrev pub all_words : Parts → List Choice → List ℕ → List ℕ
all_words b choices inputs = after_modules b.graph b.modules.list b.variants choices (given_words b.graph inputs)

-- what the bundle's parts give under these choices where the inputs are these words: the bound word, and the output words
abbrev pub value : Parts → List Choice → List ℕ → List ℕ
value b choices inputs = map (λ (node : Node). get_or (all_words b choices inputs) node.index 0) b.results
