use Rattle.std.proofs.Common.{◌≡◌, ◌+◌, drop, length}
use Rattle.choice_core.specs.Bound.{least_past}
use Rattle.choice_core.proofs.bounds.least_past.Given as goal

-- with what is left, the whole
abbrev pub invariant-loop-number : goal.invariant-loop-number
invariant-loop-number l = l.total + least_past l.problem.fans l.prefix l.number (drop l.number l.problem.own) ≡ least_past l.problem.fans l.prefix (length l.prefix) (drop (length l.prefix) l.problem.own)
