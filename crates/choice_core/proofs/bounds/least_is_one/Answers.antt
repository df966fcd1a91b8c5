use Rattle.choice_core.proofs.Laws.{least_same}
use Rattle.choice_core.proofs.bounds.least_is_one.Goals as goal

pub returns : goal.returns
returns c = least_same c.args.problem.now c.args.choices.now c.args.others.now c.requires.first c.requires.second
