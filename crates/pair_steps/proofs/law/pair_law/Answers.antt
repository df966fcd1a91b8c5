use Rattle.pair_steps.proofs.Pairs.{begins_at_start, turns_are_steps}
use Rattle.pair_steps.proofs.law.pair_law.Goals as goal

-- src/law.rt:6:1
pub returns-clause-begins : goal.returns-clause-begins
returns-clause-begins c = begins_at_start

pub returns-clause-turns : goal.returns-clause-turns
returns-clause-turns c = turns_are_steps
