use Rattle.std.proofs.Common.{rules}
use Rattle.c_grammar.specs.Tokens.{starts_type}
use Rattle.c_expr.proofs.types.TypeRules.more_members.Goals as goal

pub returns : goal.returns
returns g c = c.many_after.ensures starts_type _ (record { tests = λ t r p. search rules }) (record { reads = λ old new r p. search rules })
