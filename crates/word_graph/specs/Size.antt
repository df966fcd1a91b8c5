-- The most gates that a node's Boolean circuit may take, and those of a whole graph.
use Rattle.std.specs.Prelude.{ℕ, ◌+◌, List, [], ◌∷◌, ◌++◌, Option, None, Some, slice_get}
use Rattle.hy_bits.specs.Sizes.{operation_size}
use Rattle.word_graph.specs.declared.entry.Entry.{Entry}
use Rattle.word_graph.specs.declared.entry.Term.{Term}
use Rattle.word_graph.specs.Term.{argument, term_of, width_at}

-- of a term over earlier nodes
abbrev pub term_size : List Entry → Term → ℕ
term_size es t = operation_size t.op t.width (width_at es (argument t 0)) (width_at es (argument t 1))

-- of nodes after earlier ones
abbrev pub size_after : List Entry → List Entry → ℕ
size_after before [] = 0
size_after before (e ∷ es) = term_size before (term_of e) + size_after (before ++ e ∷ []) es

-- of all nodes of a graph
abbrev pub graph_size : List Entry → ℕ
graph_size es = size_after [] es

-- of an entry of a graph
abbrev pub entry_size : List Entry → Option Entry → ℕ
entry_size es None = 0
entry_size es (Some e) = term_size es (term_of e)

-- of the node at a place
abbrev pub size_at : List Entry → ℕ → ℕ
size_at es k = entry_size es (slice_get es k)
