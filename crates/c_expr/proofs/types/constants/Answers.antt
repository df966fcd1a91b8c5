use Rattle.std.proofs.Common.{rules, codes}
use Rattle.c_reader.specs.Tokens.{is_word, read_word_at}
use Rattle.c_grammar.specs.Types.{read_constants}
use Rattle.c_expr.proofs.types.constants.Goals as goal

pub returns : goal.returns
unfolding read_constants
returns c = c.many.ensures (is_word (codes "const")) (read_word_at (codes "const") c.args.left) (record { tests = λ t r p. search rules }) (record { reads = λ old new r p. search rules })
