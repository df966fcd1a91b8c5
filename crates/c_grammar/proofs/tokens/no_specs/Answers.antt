use Rattle.std.proofs.Common.{sym}
use Rattle.c_reader.proofs.Tokening.{no_level}
use Rattle.c_grammar.proofs.tokens.no_specs.Goals as goal

pub returns : goal.returns
returns c = no_level _ _ _ _ _ (sym c.sees_type.ensures) c.without_level.ensures
