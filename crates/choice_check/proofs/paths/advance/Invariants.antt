use Rattle.std.proofs.Common.{◌≡◌, ◌-◌, ◌≤◌, take}
use Rattle.choice_core.specs.Bound.{bound_of}
use Rattle.choice_check.specs.Walks.{siblings}
use Rattle.choice_check.proofs.paths.advance.Given as goal

-- nothing is due below the dropped choices, and the bound is that of the others
abbrev pub invariant-loop-number : goal.invariant-loop-number
invariant-loop-number l = (siblings l.problem l.path l.number ≡ siblings l.problem l.fn.path l.depth) × (l.path ≡ l.fn.path) × (l.number ≤ l.depth) × (l.bound ≡ bound_of l.problem (take l.number l.path)) × (l.parent ≡ bound_of l.problem (take (l.number - 1) l.path))
