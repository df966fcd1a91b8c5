use Rattle.c_grammar.proofs.Oneness.{exprs_alike}
use Rattle.c_grammar.proofs.laws.expressions_nest_alike.Goals as goal

pub returns : goal.returns
returns c = λ nesting most tokens a b low s. exprs_alike nesting most tokens a b low s
