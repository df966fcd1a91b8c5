use Rattle.std.proofs.Common.{◌≡◌, ℕ, replicate, length, rules}
use Rattle.ring_net.specs.Ring.{depths_after}
use Rattle.ring_net.proofs.RingLaws.{depths-more, depths-low, zeros-low}
use Rattle.ring_net.proofs.ring.RingNet.depths.Goals as goal

pub loop-gate-init : goal.loop-gate-init
unfolding depths_after
loop-gate-init c =
    let zeros : c.in_ok-depths.depths.items ≡ replicate {A = ℕ} (length c.args.self.now.ins) 0 = search rules in
    record { value = zeros; low = rw zeros (zeros-low (length c.args.self.now.ins)) }

pub loop-gate-preserved : goal.loop-gate-preserved
loop-gate-preserved c =
    let depth = rw c.deref.ensures.value at c.gate_depth-depth.ensures in
    record {
      value = depths-more (replicate {A = ℕ} (length c.args.self.now.ins) 0) c.loop-gate.depths.items c.push.new.self.items c.gates-gates.result.now c.loop-gate.gate-index _ c.gate_depth-depth.result c.loop-gate-test.true c.loop-gate.invariant.value depth c.in_ok-push.ensures.items;
      low = depths-low c.loop-gate.depths.items c.push.new.self.items c.gates-gates.result.now c.loop-gate.gate-index _ c.gate_depth-depth.result c.loop-gate.invariant.low depth c.in_ok-push.ensures.items;
    }
