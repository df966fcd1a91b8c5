use Rattle.std.proofs.Common.{◌≡◌, map, take}
use Rattle.c_place.specs.Boards.{zero_of}
use Rattle.c_place.proofs.cells.Cells.zeros.Given as goal

abbrev pub invariant-loop-width : goal.invariant-loop-width
invariant-loop-width l = l.zeros.items ≡ map (zero_of l.self) (take l.width-index l.widths)
