use Rattle.std.proofs.Common.{sym, ◌∙◌}
use Rattle.choice_core.specs.Problems.{reaches, sharing_at, is_in}
use Rattle.choice_core.proofs.Walks.{any_found, any_none}
use Rattle.choice_core.proofs.problems.Fan.reaches.Goals as goal

pub returns-then-is_in : goal.returns-then-is_in
unfolding reaches
returns-then-is_in c =
    sym (sym c.loop-consumer.invariant ∙ any_found (λ m. is_in (sharing_at c.args.choices.now m) c.args.sharing) _ c.loop-consumer.consumer-index c.loop-consumer-test.true (sym c.is_in.ensures ∙ c.if-is_in.true))

pub returns : goal.returns
unfolding reaches
returns c =
    sym (sym c.loop-consumer.invariant ∙ any_none (λ m. is_in (sharing_at c.args.choices.now m) c.args.sharing) _ c.loop-consumer.consumer-index c.loop-consumer-test.false)
