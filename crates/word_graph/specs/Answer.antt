-- What a call that asks for a node leaves.
use Rattle.std.specs.Prelude.{◌≡◌, ◌⊎◌, ℕ, List, [], ◌∷◌, ◌++◌, slice_get, Some, Result, Ok, Err}
use Rattle.std.specs.List.{Contains}
use Rattle.word_graph.specs.declared.entry.Entry.{Entry}
use Rattle.word_graph.specs.declared.entry.Node.{Node}
use Rattle.word_graph.specs.declared.entry.Term.{Term}
use Rattle.word_graph.specs.declared.folding.Outcome.{Outcome}
use Rattle.word_graph.specs.declared.folding.Outcome.TheVariants.{Known, Makes}
use Rattle.word_graph.specs.declared.graph.GraphFault.{GraphFault}
use Rattle.word_graph.specs.declared.graph.GraphFault.TheVariants.{NodeLimit, Memory}
use Rattle.word_graph.specs.Term.{terms_of, entry_of}

-- a new node is wanted: the term folds to no node that stands, and no node has the term that it folds to
abbrev pub Wants : List Entry → Outcome → Type 0
Wants es (Known k) = ⊥
Wants es (Makes t) = ¬ Contains (terms_of es) t

-- a node has this term: one that stood before, and nothing changes, or one node more
abbrev pub SharesOrAdds : List Entry → List Entry → Term → ℕ → Type 0
SharesOrAdds old new t region = (¬ Contains (terms_of old) t × (new ≡ old ++ entry_of t region ∷ [])) ⊎ (Contains (terms_of old) t × (new ≡ old))

-- one node is added at the end, of the region given, exactly where it is wanted, and nothing else changes
abbrev pub AddsIfWanted : List Entry → List Entry → Outcome → ℕ → Type 0
AddsIfWanted old new (Known k) region = new ≡ old
AddsIfWanted old new (Makes t) region = SharesOrAdds old new t region

-- the node at this place is what the term folds to
abbrev pub IsNodeOf : List Entry → Outcome → ℕ → Type 0
IsNodeOf es (Known k) place = place ≡ k
IsNodeOf es (Makes t) place = slice_get (terms_of es) place ≡ Some t

-- `NodeLimit`, with this number, is answered exactly where P holds
abbrev pub LimitIff : Result Node GraphFault → ℕ → Type 0 → Type 0
LimitIff (Ok node) limit P = ¬ P
LimitIff (Err (NodeLimit number)) limit P = P × (number ≡ limit)
LimitIff (Err Memory) limit P = ¬ P
