use Rattle.word_graph.proofs.LoopLaws.{terms-more}
use Rattle.word_graph.proofs.graph.distinct_terms.Goals as goal

pub loop-entry-preserved : goal.loop-entry-preserved
loop-entry-preserved c =
    terms-more c.args.entries.now c.requires c.loop-entry.entry-index _ c.loop-entry-test.true c.loop-entry.terms.keys c.insert.new.self.keys c.term.result c.loop-entry.invariant c.term.ensures c.in_ok-insert.ensures.keys
