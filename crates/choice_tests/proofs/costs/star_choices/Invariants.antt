use Rattle.std.proofs.Common.{◌≡◌, ◌≢◌, ◌+◌, length}
use Rattle.std.specs.List.{All}
use Rattle.choice_core.specs.declared.sharings.Choice.TheVariants.{A}
use Rattle.choice_tests.proofs.costs.star_choices.Given as goal

-- no choice so far is A
abbrev pub invariant-loop : goal.invariant-loop
invariant-loop l = All (λ c. c ≢ A) l.choices.items × (length l.choices.items ≡ l.counter + 1)
