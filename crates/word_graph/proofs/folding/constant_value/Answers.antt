use Rattle.word_graph.proofs.EntryLaws.{constant_value-taken}
use Rattle.word_graph.proofs.folding.constant_value.Goals as goal

pub value-requires : goal.value-requires
value-requires c =
    rw (c.width_at-from.ensures, c.unwrap_or-a.ensures, c.constant_at.ensures, c.unwrap_or-b.ensures, c.constant_at-2.ensures, c.unwrap_or-c.ensures, c.constant_at-3.ensures)
    (constant_value-taken c.args.entries.now c.args.term.now c.requires.graph c.requires.fits c.requires.constants)
