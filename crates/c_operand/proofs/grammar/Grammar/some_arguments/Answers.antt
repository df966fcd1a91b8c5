use Rattle.std.proofs.Common.{rules}
use Rattle.c_operand.proofs.grammar.Grammar.some_arguments.Goals as goal

pub returns : goal.returns
returns g c = c.separated_by.ensures _ (record { reads = λ old new r p. search rules })
