use Rattle.std.proofs.Common.{sym, ◌∙◌}
use Rattle.word_graph.proofs.EntryLaws.{constant_at-word}
use Rattle.lower_bool.proofs.nodes.add_operand.Goals as goal

pub constants-requires : goal.constants-requires
constants-requires c = rw (c.width_at.ensures, c.entries.ensures.value) (constant_at-word c.args.graph.now c.args.node c.in-Some.number c.entries.ensures.graph (sym c.constant_of.ensures ∙ c.in-Some.is))
