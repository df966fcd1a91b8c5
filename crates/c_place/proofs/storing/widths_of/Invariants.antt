use Rattle.std.proofs.Common.{◌≡◌, take}
use Rattle.c_place.specs.Boards.{widths_at}
use Rattle.c_place.proofs.storing.widths_of.Given as goal

abbrev pub invariant-loop-node : goal.invariant-loop-node
invariant-loop-node l = l.widths.items ≡ widths_at l.graph (take l.node-index l.nodes)
