use Rattle.ring_net.proofs.DepthLaws.{AreGreatest-depths, AreStepwise-depths, AreStepwise-one}
use Rattle.ring_net.proofs.ring.RingNet.has_depths.Goals as goal

pub returns-clause-paths : goal.returns-clause-paths
returns-clause-paths c = rw (← c.self.view_is) (AreGreatest-depths _ c.self.invariant)

pub returns-clause-stepwise : goal.returns-clause-stepwise
returns-clause-stepwise c = rw (← c.self.view_is) (AreStepwise-depths _ c.self.invariant)

pub returns-clause-one : goal.returns-clause-one
returns-clause-one c = rw (← c.self.view_is) (AreStepwise-one _ c.self.invariant)
