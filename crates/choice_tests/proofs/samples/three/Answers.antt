use Rattle.choice_tests.proofs.Three.{all_are_fans, three_is, three_assigned, three_long}
use Rattle.choice_tests.proofs.samples.three.Goals as goal

pub of-requires-clause-fans : goal.of-requires-clause-fans
of-requires-clause-fans c =
    all_are_fans _ _
    (rw (c.in_ok-push-3.ensures.items, c.in_ok-push-2.ensures.items, c.in_ok-push.ensures.items, c.new-own.ensures.items) at c.new-2.ensures)
    (rw (c.in_ok-push-5.ensures.items, c.new-fans.ensures.items, c.new.ensures, c.in_ok-push-4.ensures.items, c.new-consumers.ensures.items) at c.new-3.ensures)

pub returns-clause-problem : goal.returns-clause-problem
returns-clause-problem c = three_is c.of.result (rw (c.new-2.ensures, c.in_ok-push-3.ensures.items, c.in_ok-push-2.ensures.items, c.in_ok-push.ensures.items, c.new-own.ensures.items, c.new-3.ensures, c.in_ok-push-5.ensures.items, c.new-fans.ensures.items, c.new.ensures, c.in_ok-push-4.ensures.items, c.new-consumers.ensures.items) at c.of.ensures)

pub returns-clause-assigned : goal.returns-clause-assigned
returns-clause-assigned c = three_assigned c.of.result (rw (c.new-2.ensures, c.in_ok-push-3.ensures.items, c.in_ok-push-2.ensures.items, c.in_ok-push.ensures.items, c.new-own.ensures.items, c.new-3.ensures, c.in_ok-push-5.ensures.items, c.new-fans.ensures.items, c.new.ensures, c.in_ok-push-4.ensures.items, c.new-consumers.ensures.items) at c.of.ensures)

pub returns-clause-three : goal.returns-clause-three
returns-clause-three c = three_long c.of.result (rw (c.new-2.ensures, c.in_ok-push-3.ensures.items, c.in_ok-push-2.ensures.items, c.in_ok-push.ensures.items, c.new-own.ensures.items, c.new-3.ensures, c.in_ok-push-5.ensures.items, c.new-fans.ensures.items, c.new.ensures, c.in_ok-push-4.ensures.items, c.new-consumers.ensures.items) at c.of.ensures)
