use Rattle.std.proofs.Common.{◌≡◌, ℕ, ◌+◌, ◌*◌, Bool, List, map, take}
use Rattle.std.specs.List.{All}
use Rattle.gate_net.specs.Growth.{Grows}
use Rattle.adder_blocks.specs.Cells.{CellStands, CellWithin, carried}
use Rattle.adder_blocks.proofs.lookahead.after.Given as goal

abbrev pub invariant-loop-cell : goal.invariant-loop-cell
invariant-loop-cell l =
    Grows l.fn.net l.net (3 * l.cell-index) (2 * l.cell-index)
    × All (CellStands l.net) l.out.items
    × ((bits : List Bool) (c : Bool) → map (carried l.net bits c) l.out.items ≡ map (carried l.fn.net bits (carried l.fn.net bits c l.low)) (take l.cell-index l.cells))
    × ((p : ℕ) → All (CellWithin l.fn.net p) l.cells → CellWithin l.fn.net p l.low → All (CellWithin l.net (p + 1)) l.out.items)
