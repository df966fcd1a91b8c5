use Rattle.c_constants.specs.Counted.{turns_counted}
use Rattle.c_constants.proofs.counting.turns_counted.Goals as goal

pub returns : goal.returns
unfolding turns_counted
returns c = c.turns_within.ensures
