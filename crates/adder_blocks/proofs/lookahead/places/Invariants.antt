use Rattle.std.proofs.Common.{◌≡◌, ℕ, ◌*◌, Bool, List, length, map, take}
use Rattle.std.specs.List.{All}
use Rattle.hy_bits.specs.Bits.{bitwise, next_carry}
use Rattle.gate_net.specs.Growth.{Grows}
use Rattle.gate_net.specs.Spelled.{values, AllWithin}
use Rattle.adder_blocks.specs.Cells.{CellStands, CellWithin, carried}
use Rattle.adder_blocks.proofs.lookahead.places.Given as goal

abbrev pub invariant-loop-place : goal.invariant-loop-place
invariant-loop-place l =
    Grows l.fn.net l.net (2 * l.place) l.place
    × All (CellStands l.net) l.out.items
    × (length l.out.items ≡ l.place)
    × ((bits : List Bool) (s : Bool) → map (carried l.net bits s) l.out.items ≡ bitwise (λ x y. next_carry x y s) (take l.place (values l.fn.net bits l.a)) (take l.place (values l.fn.net bits l.b)))
    × ((d : ℕ) → AllWithin l.fn.net d l.a → AllWithin l.fn.net d l.b → All (CellWithin l.net d) l.out.items)
