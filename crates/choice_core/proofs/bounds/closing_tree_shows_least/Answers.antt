use Rattle.choice_core.proofs.Laws.{closes_least}
use Rattle.choice_core.proofs.bounds.closing_tree_shows_least.Goals as goal

pub returns : goal.returns
returns c = closes_least c.args.problem.now c.requires.problem c.args.choices.now c.requires.assigned c.args.tree.now.nodes c.requires.closes
