use Rattle.c_syntax.proofs.First.{one_program}
use Rattle.c_syntax.proofs.laws.one_program.Goals as goal

pub returns : goal.returns
returns c = one_program
