use Rattle.std.proofs.Common.{codes, rules}
use Rattle.c_reader.specs.Tokens.{is_word}
use Rattle.c_syntax.proofs.items.more_inlines.Goals as goal

pub returns : goal.returns
unfolding Rattle.c_syntax.specs.Items.read_inlines
returns c = c.many_after.ensures (is_word (codes "inline")) _ (record { tests = λ t r p. search rules }) (record { reads = λ old new r p. search rules })
