use Rattle.std.proofs.Common.{rules}
use Rattle.c_statement.specs.Starts.{starts_statement}
use Rattle.c_statement.proofs.inner.Inner.more_statements.Goals as goal

pub returns : goal.returns
returns g c = c.many_after.ensures starts_statement _ (record { tests = λ t r p. search rules }) (record { reads = λ old new r p. search rules })
