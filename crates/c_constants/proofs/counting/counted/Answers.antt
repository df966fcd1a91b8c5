use Rattle.c_constants.proofs.Turns.{counts}
use Rattle.c_constants.proofs.counting.counted.Goals as goal

pub returns-clause-counts : goal.returns-clause-counts
returns-clause-counts c =
    counts c.args.object c.args.first.now c.args.condition.now c.args.step.now c.turns_of.result c.turns_of.ensures
