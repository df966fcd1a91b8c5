use Rattle.std.proofs.Common.{◌≡◌, ◌-◌}
use Rattle.c_grammar.specs.Counting.{Few}
use Rattle.c_grammar.specs.Types.{read_words}
use Rattle.c_reader.proofs.Gathering.{gathered}
use Rattle.c_grammar.proofs.spelling.words_after.Given as goal

abbrev pub invariant-loop-turn : goal.invariant-loop-turn
invariant-loop-turn l = record {
  few : Few 2 l.counts;
  is : gathered l.fn.found (read_words l.fn.size l.fn.left l.fn.counts l.fn.cursor) ≡ gathered l.found (read_words (l.size - l._turn) l.left l.counts l.cursor);
}
