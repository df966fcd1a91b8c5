use Rattle.std.proofs.Common.{rules}
use Rattle.c_tree.specs.declared.token.TokenKind.TheVariants.{Name}
use Rattle.c_reader.specs.Tokens.{is_kind}
use Rattle.c_expr.proofs.types.TypeRules.more_enumerators.Goals as goal

pub returns : goal.returns
returns g c = c.more_after.ensures (is_kind Name) _ (record { tests = λ t r p. search rules }) (record { reads = λ old new r p. search rules })
