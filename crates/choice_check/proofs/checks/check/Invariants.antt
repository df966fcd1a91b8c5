use Rattle.std.proofs.Common.{◌≡◌, ◌+◌, ◌-◌, ◌*◌, ◌≤◌, take}
use Rattle.choice_core.specs.Bound.{bound_of}
use Rattle.choice_check.specs.Walks.{IsPath}
use Rattle.choice_check.proofs.Dues.{IsBehind}
use Rattle.choice_check.proofs.checks.check.Given as goal

-- what is left of the nodes decides
abbrev pub invariant-loop-number : goal.invariant-loop-number
invariant-loop-number l = IsBehind l.problem l.choices l.tree.nodes l.buffer l.walk l.number × IsPath l.problem l.buffer l.walk.depth × (l.walk.count ≤ 3 * l.number + 1) × (l.walk.lowest ≤ l.number) × (l.walk.bound ≡ bound_of l.problem (take l.walk.depth l.buffer)) × (l.walk.parent ≡ bound_of l.problem (take (l.walk.depth - 1) l.buffer))
