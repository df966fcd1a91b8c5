use Rattle.choice_tests.proofs.Parts.{one_consumer, two_consumers}
use Rattle.choice_tests.proofs.samples.fan.Goals as goal
use Rattle.choice_tests.proofs.samples.fan.Goals.{then-last-to+in_ok-push-2, else-last-to}

pub returns-clause-fan : goal.returns-clause-fan
returns-clause-fan c = elim c.if-last-to.branch [
  | then-last-to+in_ok-push-2 w ↦ rw (c.new.ensures, w.consumers-is, w.in_ok-push-2.ensures.items, c.in_ok-push.ensures.items, c.new-consumers.ensures.items) (two_consumers c.args.from c.args.to c.args.last c.args.count c.args.price c.requires.below c.requires.within w.if-last-to.true c.requires.last c.requires.free)
  | else-last-to w ↦ rw (c.new.ensures, w.consumers-is, c.in_ok-push.ensures.items, c.new-consumers.ensures.items) (one_consumer c.args.from c.args.to c.args.count c.args.price c.requires.below c.requires.within c.requires.free)
]
