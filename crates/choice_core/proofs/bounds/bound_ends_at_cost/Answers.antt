use Rattle.choice_core.proofs.Laws.{bound_of_whole}
use Rattle.choice_core.proofs.bounds.bound_ends_at_cost.Goals as goal

pub returns : goal.returns
returns c = bound_of_whole c.args.problem.now c.requires.problem c.args.choices.now c.requires.assigned.whole
