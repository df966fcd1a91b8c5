use Rattle.std.proofs.Common.{◌≡◌, take}
use Rattle.word_graph.specs.Term.{terms_of}
use Rattle.word_graph.proofs.graph.distinct_terms.Given as goal

abbrev pub invariant-loop-entry : goal.invariant-loop-entry
invariant-loop-entry l = l.terms.keys ≡ terms_of (take l.entry-index l.entries)
