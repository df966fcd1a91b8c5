use Rattle.gate_arena.proofs.WalkLaws.{visits-next}
use Rattle.gate_arena.proofs.walk.Walk.over.Goals as goal

pub loop-out-preserved : goal.loop-out-preserved
loop-out-preserved c = record {
  visits = visits-next c.args.arena.now.circuit c.outs-out-items.result.now c.loop-out.out-index _ c.loop-out.walk.order c.visit.new.self.order c.wire_of.result c.loop-out-test.true c.loop-out.invariant.visits c.wire_of.ensures c.in_ok-visit.ensures.visits;
  rest = c.in_ok-visit.ensures.rest;
}
