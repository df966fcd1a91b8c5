use Rattle.choice_core.proofs.Laws.{bound_rises}
use Rattle.choice_core.proofs.bounds.bound_never_falls.Goals as goal

pub returns : goal.returns
returns c = bound_rises c.args.problem.now c.requires c.args.prefix.now
