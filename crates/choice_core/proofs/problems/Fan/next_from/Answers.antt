use Rattle.std.proofs.Common.{sym, ◌∙◌}
use Rattle.choice_core.proofs.Walks.{next_found, next_passed, next_none}
use Rattle.choice_core.proofs.problems.Fan.next_from.Goals as goal

pub returns-then-number-count-clause-is : goal.returns-then-number-count-clause-is
returns-then-number-count-clause-is c =
    sym (sym c.loop-consumer.invariant ∙ next_found c.args.count _ c.loop-consumer.consumer-index c.loop-consumer-test.true c.if-number-count.true)

pub loop-consumer-preserved : goal.loop-consumer-preserved
loop-consumer-preserved c = next_passed c.args.count _ c.loop-consumer.consumer-index c.loop-consumer-test.true c.if-number-count.false ∙ c.loop-consumer.invariant

pub returns-clause-is : goal.returns-clause-is
returns-clause-is c = sym (sym c.loop-consumer.invariant ∙ next_none c.args.count _ c.loop-consumer.consumer-index c.loop-consumer-test.false)
