use Rattle.std.proofs.Common.{◌≡◌, take}
use Rattle.word_graph.specs.Meaning.{values}
use Rattle.word_graph.proofs.graph.Graph.value.Given as goal

abbrev pub invariant-loop-place : goal.invariant-loop-place
invariant-loop-place l = take l.place l.buffer ≡ values (take l.place l.entries) l.words
