use Rattle.std.proofs.Common.{◌≡◌, take}
use Rattle.c_place.specs.Accesses.{placed}
use Rattle.c_place.proofs.storing.place.Given as goal

abbrev pub invariant-loop-k : goal.invariant-loop-k
invariant-loop-k l = l.cells.items ≡ placed l.fn.cells.items l.at (take l.k l.nodes)
