use Rattle.std.proofs.Common.{◌≡◌, ◌≤◌, replicate, length, take}
use Rattle.std.specs.List.{All}
use Rattle.ring_net.specs.Ring.{depths_after}
use Rattle.ring_net.proofs.ring.RingNet.depths.Given as goal

abbrev pub invariant-loop-gate : goal.invariant-loop-gate
invariant-loop-gate l = record {
  value : l.depths.items ≡ depths_after (replicate (length l.self.ins) 0) (take l.gate-index l.gates);
  low : All (λ d. d ≤ l.gate-index) l.depths.items;
}
