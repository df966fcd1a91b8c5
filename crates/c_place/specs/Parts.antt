-- Parts of what a pointer points to, as its members and the rows of an array (C11 6.3.2.1p3, 6.5.2.1, 6.5.2.3).
use Rattle.std.specs.Prelude.{ℕ, ◌+◌, ◌*◌, Option, None, Some, List, [], ◌∷◌}
use Rattle.hy_bits.specs.Bits.{bit}
use Rattle.c_meaning.specs.State.{Address, Spot, element_of, pointer_into}
use Rattle.c_place.specs.Aims.{Aim, is_hit}

abbrev pub part_at : (offset size count : ℕ) → Option Spot → Address
part_at offset size count None = None
part_at offset size count (Some spot) = Some (pointer_into size count (record spot { at = spot.at + offset }))

-- a pointer to the first of `count` elements of `size` cells that begin at the cell `offset` of the element; null where there is none
abbrev pub part_of : (offset size count : ℕ) → Address → Address
part_of offset size count p = part_at offset size count (element_of p)

-- the same of a target that hits an element
abbrev pub part_aim : (offset size count : ℕ) → Aim → Aim
part_aim offset size count a = record { guard = 1; object = a.object; first = a.first + a.index * a.size + offset; size = size; length = count; index = 0 }

-- how many targets hit an element
abbrev pub hits_there : List Aim → ℕ
hits_there [] = 0
hits_there (a ∷ more) = bit (is_hit a) + hits_there more
