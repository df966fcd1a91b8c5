use Rattle.exec_steps.proofs.GatherLaws.{either_exits, either_stand}
use Rattle.exec_steps.proofs.StepLaws.{only_then}
use Rattle.exec_steps.proofs.ways.ways_either.Goals as goal

pub returns-in_err-normal-clause-grows : goal.returns-in_err-normal-clause-grows
returns-in_err-normal-clause-grows c = only_then c.args.region c.args.running.now c.ways_then.new.running c.either.new.running c.in_ok-jumps.ensures.grows c.in_err-normal.ensures.grows

pub returns-clause-stands : goal.returns-clause-stands
returns-clause-stands c = either_stand c.args.region c.args.running.now c.ways_then.new.running c.either.new.running c.args.first c.args.second c.in_ok-jumps.jumps c.in_ok-normal.normal c.requires.first c.requires.second c.in_ok-jumps.ensures.grows c.in_ok-normal.ensures.grows c.in_ok-jumps.ensures.stands c.in_ok-normal.ensures.stands

pub returns-clause-value : goal.returns-clause-value
returns-clause-value c = either_exits c.args.region c.args.running.now c.ways_then.new.running c.either.new.running c.args.first c.args.second c.in_ok-jumps.jumps c.in_ok-normal.normal c.requires.first c.requires.second c.in_ok-jumps.ensures.grows c.in_ok-normal.ensures.grows c.in_ok-jumps.ensures.stands c.in_ok-normal.ensures.stands c.in_ok-jumps.ensures.value c.in_ok-normal.ensures.value

pub returns-clause-grows : goal.returns-clause-grows
returns-clause-grows c = only_then c.args.region c.args.running.now c.ways_then.new.running c.either.new.running c.in_ok-jumps.ensures.grows c.in_ok-normal.ensures.grows
