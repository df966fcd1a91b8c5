use Rattle.choice_check.proofs.Dues.{surplus}
use Rattle.choice_check.proofs.walks.step.Goals as goal

pub returns-then-walk-eq0-clause-node : goal.returns-then-walk-eq0-clause-node
returns-then-walk-eq0-clause-node c = surplus c.args.problem.now c.args.choices.now c.args.number c.args.node c.args.path.now c.args.walk c.if-walk-eq0.true
