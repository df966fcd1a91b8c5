use Rattle.std.proofs.Common.{rules, codes}
use Rattle.c_reader.specs.Tokens.{is_mark}
use Rattle.c_grammar.specs.Types.{read_dimensions}
use Rattle.c_expr.proofs.sizes.Sizes.dimensions.Goals as goal

pub returns : goal.returns
unfolding read_dimensions
returns g c = c.many.ensures (is_mark (codes "[")) _ (record { tests = λ t r p. search rules }) (record { reads = λ old new r p. search rules })
