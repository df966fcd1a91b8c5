-- Reads and writes of objects as they are seen (C11 6.5.2.1, 6.5.2.3, 6.5.3.2), and which part of an element an lvalue designates.
use Rattle.std.specs.Prelude.{◌≡◌, ℕ, ◌+◌, ◌<◌, ◌^◌, List, [], ◌∷◌, Option, None, Some, get_or, set, map, length, replicate}
use Rattle.c_meaning.specs.declared.values.Cell.{Cell}
use Rattle.c_meaning.specs.declared.values.Cell.TheVariants as cell
use Rattle.c_meaning.specs.Programs.{word_of_cell}
use Rattle.c_meaning.specs.State.{Address, Spot, cells_from, overwritten, element_of, pointer_into}

-- ---- reads and writes

-- the word in a cell, 0 where there is no element
abbrev pub word_at : List (List Cell) → Option Spot → ℕ
word_at objects None = 0
word_at objects (Some spot) = word_of_cell (get_or (get_or objects spot.object []) spot.at cell.Unset)

-- the words from a cell on
abbrev pub words_at : List (List Cell) → (count : ℕ) → Option Spot → List ℕ
words_at objects count None = replicate count 0
words_at objects count (Some spot) = map word_of_cell (cells_from count spot.at (get_or objects spot.object []))

-- the cells from a cell on become these, if there is an element
abbrev pub stored_in : List (List Cell) → Option Spot → List Cell → List (List Cell)
stored_in objects None cells = objects
stored_in objects (Some spot) cells = set objects spot.object (overwritten (get_or objects spot.object []) spot.at cells)

-- ---- parts of elements

-- `cells` cells from the cell `offset` of an element on
pub record Cut : Type 0 where
  pub offset : ℕ
  pub cells : ℕ

abbrev pub part_into : (offset size count : ℕ) → Option Spot → Address
part_into offset size count None = None
part_into offset size count (Some spot) = Some (pointer_into size count (record spot { at = spot.at + offset }))

-- what an address designates, or a part of its element
abbrev pub designated : Address → Option Cut → Address
designated a None = a
designated a (Some cut) = part_into cut.offset cut.cells 1 (element_of a)

-- the element that is accessed, by its cell in its object
abbrev pub moved_spot : ℕ → Option Spot → Option Spot
moved_spot offset None = None
moved_spot offset (Some spot) = Some (record spot { at = spot.at + offset })

-- numbers of cells are below 2^32
abbrev pub IsInReach : ℕ → Option Spot → Type 0
IsInReach offset None = Unit {0}
IsInReach offset (Some spot) = spot.at + offset < 2 ^ 32

-- ---- objects that get values

-- the objects get these values, one after another
abbrev pub arguments_in : List (List Cell) → List ℕ → List (List Cell) → List (List Cell)
arguments_in objects [] values = objects
arguments_in objects (k ∷ ks) [] = objects
arguments_in objects (k ∷ ks) (v ∷ vs) = arguments_in (set objects k v) ks vs

-- each value has the cells of its object
abbrev pub ArgumentsFill : List (List Cell) → List ℕ → List (List Cell) → Type 0
ArgumentsFill objects [] values = Unit {0}
ArgumentsFill objects (k ∷ ks) [] = Unit {0}
ArgumentsFill objects (k ∷ ks) (v ∷ vs) = (length (get_or objects k []) ≡ length v) × ArgumentsFill (set objects k v) ks vs
