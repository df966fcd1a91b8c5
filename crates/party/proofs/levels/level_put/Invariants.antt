use Rattle.std.proofs.Common.{◌≡◌, map, take}
use Rattle.share_core.specs.Machine.{written}
use Rattle.party.proofs.levels.level_put.Given as goal

abbrev pub invariant-loop-number : goal.invariant-loop-number
invariant-loop-number l = l.slots ≡ written l.fn.slots (map (λ gate. gate.target) (take l.number l.gates)) (take l.number l.shares)
