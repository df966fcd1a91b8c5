use Rattle.std.proofs.Common.{◌≡◌, ◌+◌, take, drop}
use Rattle.choice_core.proofs.Rises.{picked}
use Rattle.choice_core.proofs.rising.followed.Given as goal

abbrev pub invariant-loop-next : goal.invariant-loop-next
invariant-loop-next l = l.total ≡ picked l.problem l.prefix (take l.next-index l.next-items) (l.number + 1) (drop (l.number + 1) l.problem.own)
