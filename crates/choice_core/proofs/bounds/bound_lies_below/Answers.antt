use Rattle.choice_core.proofs.Laws.{bound_below}
use Rattle.choice_core.proofs.bounds.bound_lies_below.Goals as goal

pub returns : goal.returns
returns c = bound_below c.args.problem.now c.requires c.args.prefix.now
