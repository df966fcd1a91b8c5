use Rattle.std.proofs.Common.{◌≡◌}
use Rattle.choice_check.specs.Walks.{choices_from}
use Rattle.choice_check.proofs.paths.next_choice.Given as goal

-- no choice before this place is allowed
abbrev pub invariant-loop-number : goal.invariant-loop-number
invariant-loop-number l = choices_from l.row l.number ≡ choices_from l.row l.low
