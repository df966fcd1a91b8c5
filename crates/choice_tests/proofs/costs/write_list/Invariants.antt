use Rattle.std.proofs.Common.{◌≢◌, take}
use Rattle.std.specs.List.{All}
use Rattle.choice_core.specs.declared.sharings.Choice.TheVariants.{A}
use Rattle.choice_tests.proofs.costs.write_list.Given as goal

-- no choice so far is A
abbrev pub invariant-loop-choice : goal.invariant-loop-choice
invariant-loop-choice l = All (λ c. c ≢ A) (take l.choice-index l.choices)
