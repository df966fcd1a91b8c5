use Rattle.exec_steps.proofs.GatherLaws.{gathered_exits, gathered_stand}
use Rattle.exec_steps.proofs.StepLaws.{only_then}
use Rattle.exec_steps.proofs.ways.ways_then.Goals as goal

pub returns-in_err-continues-clause-grows : goal.returns-in_err-continues-clause-grows
returns-in_err-continues-clause-grows c = only_then c.args.region c.args.running.now c.either.new.running c.either-2.new.running c.in_ok-breaks.ensures.grows c.in_err-continues.ensures.grows

pub returns-in_err-returns-clause-grows : goal.returns-in_err-returns-clause-grows
returns-in_err-returns-clause-grows c =
    only_then c.args.region c.args.running.now c.either-2.new.running c.either-3.new.running
    (only_then c.args.region c.args.running.now c.either.new.running c.either-2.new.running c.in_ok-breaks.ensures.grows c.in_ok-continues.ensures.grows) c.in_err-returns.ensures.grows

pub returns-clause-stands : goal.returns-clause-stands
returns-clause-stands c = gathered_stand c.args.region c.args.running.now c.either.new.running c.either-2.new.running c.either-3.new.running c.args.first c.args.next c.in_ok-breaks.breaks c.in_ok-continues.continues c.in_ok-returns.returns c.requires.first c.requires.next c.in_ok-breaks.ensures.grows c.in_ok-continues.ensures.grows c.in_ok-returns.ensures.grows c.in_ok-breaks.ensures.stands c.in_ok-continues.ensures.stands c.in_ok-returns.ensures.stands

pub returns-clause-value : goal.returns-clause-value
returns-clause-value c = gathered_exits c.args.region c.args.running.now c.either.new.running c.either-2.new.running c.either-3.new.running c.args.first c.args.next c.in_ok-breaks.breaks c.in_ok-continues.continues c.in_ok-returns.returns c.requires.first c.requires.next c.in_ok-breaks.ensures.grows c.in_ok-continues.ensures.grows c.in_ok-returns.ensures.grows c.in_ok-breaks.ensures.stands c.in_ok-continues.ensures.stands c.in_ok-returns.ensures.stands c.in_ok-breaks.ensures.value c.in_ok-continues.ensures.value c.in_ok-returns.ensures.value

pub returns-clause-grows : goal.returns-clause-grows
returns-clause-grows c =
    only_then c.args.region c.args.running.now c.either-2.new.running c.either-3.new.running
    (only_then c.args.region c.args.running.now c.either.new.running c.either-2.new.running c.in_ok-breaks.ensures.grows c.in_ok-continues.ensures.grows) c.in_ok-returns.ensures.grows
