use Rattle.std.proofs.Common.{length, take}
use Rattle.share_plan.specs.Inbound.{AreInbound}
use Rattle.share_plan.proofs.words.add_edges.Given as goal

abbrev pub invariant-loop-edge : goal.invariant-loop-edge
invariant-loop-edge l = AreInbound (take l.edge-index l.edges) (length l.initial.lists) l.lists
