use Rattle.std.proofs.Common.{rules}
use Rattle.c_grammar.specs.Tokens.{is_suffix}
use Rattle.c_grammar.specs.Expressions.{read_suffix}
use Rattle.c_operand.proofs.grammar.Grammar.suffixes.Goals as goal

pub returns : goal.returns
returns g c = c.many.ensures is_suffix (read_suffix _ _) (record { tests = λ t r p. search rules }) (record { reads = λ old new r p. search rules })
