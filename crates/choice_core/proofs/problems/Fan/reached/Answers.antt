use Rattle.std.proofs.Common.{◌∙◌, ap, List, ℕ}
use Rattle.std.specs.List.{list_any}
use Rattle.std.proofs.lemmas.List.{take_all}
use Rattle.choice_core.specs.Problems.{reaches, sharing_at, is_in}
use Rattle.choice_core.proofs.problems.Fan.reached.Goals as goal

pub returns : goal.returns
unfolding reaches
returns c = λ t. (
    let every = take_all c.loop-consumer.consumer-index _ c.loop-consumer-test.false in
    c.loop-consumer.invariant t ∙ ap (λ (ms : List ℕ). list_any (λ m. is_in (sharing_at c.args.choices.now m) t) ms) (every ∙ c.as_slice-consumer-items.ensures))
