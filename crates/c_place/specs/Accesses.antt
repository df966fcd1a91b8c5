-- Reads and writes through pointers that may be null or point outside (C11 6.5.3.2p4, 6.5.6p8), over the cells of objects.
use Rattle.std.specs.Prelude.{◌≡◌, ℕ, suc, ◌+◌, ◌*◌, ◌<◌, ◌≤◌, if◌then◌else◌, ◌==◌, ◌&&◌, nat_lt, List, [], ◌∷◌, Option, None, Some, map, get_or, set, length, take, drop, replicate, IsSome}
use Rattle.hy_bits.specs.declared.width.Width.{Width}
use Rattle.word_graph.specs.declared.entry.Entry.{Entry}
use Rattle.word_graph.specs.Shape.{constant_at}
use Rattle.c_place.specs.declared.targets.Targets.{Targets}
use Rattle.c_meaning.specs.declared.values.Cell.{Cell}
use Rattle.c_meaning.specs.declared.values.Cell.TheVariants as cell
use Rattle.c_meaning.specs.Programs.{word_of_cell}
use Rattle.c_meaning.specs.State.{Address, Spot, element_of, cells_from, overwritten}
use Rattle.c_place.specs.declared.targets.Target.{Target}
use Rattle.c_place.specs.Aims.{Aim}
use Rattle.c_place.specs.Boards.{Layout}

-- ---- what an access means

abbrev pub words_at : List (List Cell) → (offset count : ℕ) → Option Spot → List ℕ
words_at objects offset count None = replicate count 0
words_at objects offset count (Some spot) = map word_of_cell (cells_from count (spot.at + offset) (get_or objects spot.object []))

-- `count` words from the cell `offset` of the element on; zeros where there is none
abbrev pub words_read : List (List Cell) → Address → (offset count : ℕ) → List ℕ
words_read objects p offset count = words_at objects offset count (element_of p)

abbrev pub written_at : List (List Cell) → (offset : ℕ) → List ℕ → Option Spot → List (List Cell)
written_at objects offset words None = objects
written_at objects offset words (Some spot) =
    set objects spot.object (overwritten (get_or objects spot.object []) (spot.at + offset) (map (λ w. cell.Int w) words))

-- the words are written from the cell `offset` of the element on, if there is one
abbrev pub words_written : List (List Cell) → Address → (offset : ℕ) → List ℕ → List (List Cell)
words_written objects p offset words = written_at objects offset words (element_of p)

-- one target's part of a write under a guard
abbrev pub written_where : (guard : ℕ) → List (List Cell) → (offset : ℕ) → List ℕ → Aim → List (List Cell)
written_where guard objects offset words a =
    if (guard * a.guard == 1) && nat_lt a.index a.length
    then written_at objects offset words (Some (record { object = a.object; at = a.first + a.index * a.size; life = 0 }))
    else objects

-- a list in which these elements stand from a place on
abbrev pub placed : {A : Type 0} → List A → ℕ → List A → List A
placed xs at [] = xs
placed xs at (y ∷ ys) = placed (set xs at y) (suc at) ys

-- ---- what an access asks for

abbrev pub widths_in : Option (List Width) → List Width
widths_in None = []
widths_in (Some widths) = widths

-- the first cell of an access to the element k of a target
abbrev pub cell_at : Target → (offset k : ℕ) → ℕ
cell_at t offset k = t.first + k * t.size + offset

-- the words from the cell `offset` of each element of the target on have these widths, and lie in the element
abbrev pub ReadsAs : Layout → (offset : ℕ) → List Width → Target → Type 0
ReadsAs layout offset widths t =
    (offset + length widths ≤ t.size)
    × ((k : ℕ) → k < t.length → take (length widths) (drop (cell_at t offset k) (widths_in (get_or layout t.object None))) ≡ widths)

-- the number by which the nodes of an access to `count` cells are bounded: for each target one, and for each element one and the cells
abbrev pub reach : (count : ℕ) → List Target → ℕ
reach count [] = 0
reach count (t ∷ ts) = 1 + t.length * (count + 1) + reach count ts

-- the only target, whose guard is the constant 1 and whose index is a constant
abbrev pub IsEasy : List Entry → Targets → Type 0
IsEasy es p = (t : Target) × (p.list.items ≡ t ∷ []) × (t.length ≡ 1) × (constant_at es t.guard.index ≡ Some 1) × IsSome (constant_at es t.index.index)
