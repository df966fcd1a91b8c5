use Rattle.std.proofs.Common.{◌≡◌, ◌≤◌, take}
use Rattle.ring_net.specs.Ring.{product_count}
use Rattle.ring_net.proofs.ring.RingNet.products.Given as goal

abbrev pub invariant-loop-gate : goal.invariant-loop-gate
invariant-loop-gate l = record {
  value : l.count ≡ product_count l.w (take l.gate-index l.gate-items);
  low : l.count ≤ l.gate-index;
}
