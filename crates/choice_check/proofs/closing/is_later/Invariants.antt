use Rattle.std.proofs.Common.{◌≡◌, drop}
use Rattle.choice_check.specs.Walks.{later}
use Rattle.choice_check.proofs.closing.is_later.Given as goal

-- what is left of both lists decides
abbrev pub invariant-loop-number : goal.invariant-loop-number
invariant-loop-number l = later (drop l.number l.prefix) (drop l.number l.choices) ≡ later l.prefix l.choices
