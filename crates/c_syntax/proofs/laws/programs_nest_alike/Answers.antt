use Rattle.c_syntax.proofs.First.{programs_alike}
use Rattle.c_syntax.proofs.laws.programs_nest_alike.Goals as goal

pub returns : goal.returns
returns c = λ most tokens a b low s. programs_alike most tokens a b s
