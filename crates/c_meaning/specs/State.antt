-- Objects, pointers and the state of a run (C11 6.2.4, 6.5.2.1, 6.5.6).
use Rattle.std.specs.Prelude.{ℕ, zero, suc, ◌+◌, ◌-◌, ◌*◌, ◌%◌, ◌^◌, ◌==◌, min, Bool, true, false, ◌&&◌, nat_lt, if◌then◌else◌, Option, None, Some, List, [], ◌∷◌, set, get_or, ℤ, pos, negsuc, ◌+ℤ◌, int_le, length, replicate}
use Rattle.hy_bits.specs.Words.{signed, residue}
use Rattle.c_tree.specs.declared.token.Place.{Place}
use Rattle.c_meaning.specs.declared.values.Pointer.{Pointer}
use Rattle.c_meaning.specs.declared.values.Cell.{Cell}
use Rattle.c_meaning.specs.declared.values.Cell.TheVariants as cell
use Rattle.c_meaning.specs.declared.values.Undefined.{Undefined}
use Rattle.c_meaning.specs.declared.values.UndefinedAt.{UndefinedAt}

-- ---- what a run changes

-- an object: the number of lives that it has begun and ended so far, and its cells
pub record Stored : Type 0 where
  pub life : ℕ
  pub cells : List Cell

-- all objects by their numbers, the value of the last `return`, and the first undefined operation
pub record State : Type 0 where
  pub objects : List Stored
  pub returned : List Cell
  pub undefined : Option UndefinedAt

abbrev pub no_object : Stored
no_object = record { life = 0; cells = [] }

abbrev pub object_at : State → ℕ → Stored
object_at s k = get_or s.objects k no_object

-- one object changed
abbrev pub with_object : ℕ → Stored → State → State
with_object k stored s = record s { objects = set s.objects k stored }

-- the first undefined operation stays
abbrev pub flagged : Undefined → Place → State → State
flagged kind place s = record s { undefined = (elim s.undefined [ None ↦ Some (record { kind = kind; place = place }) | Some first ↦ Some first ]) }

abbrev pub flagged_where : Option Undefined → Place → State → State
flagged_where None place s = s
flagged_where (Some kind) place s = flagged kind place s

-- ---- lifetimes (C11 6.2.4)

-- the number of lives stands still at its greatest
abbrev pub next_life : ℕ → ℕ
next_life n = min (n + 1) (2 ^ 64 - 1)

-- a visit of the declaration: a new life, with unset cells
abbrev pub begun : ℕ → State → State
begun k s = with_object k (record { life = next_life (object_at s k).life; cells = replicate (length (object_at s k).cells) cell.Unset }) s

-- the end of the block: the cells stay
abbrev pub ended : ℕ → State → State
ended k s = with_object k (record { life = next_life (object_at s k).life; cells = (object_at s k).cells }) s

abbrev pub all_ended : List ℕ → State → State
all_ended [] s = s
all_ended (k ∷ ks) s = all_ended ks (ended k s)

-- ---- cells

-- n cells from `at` on; one that doesn't stand is unset
abbrev pub cells_from : ℕ → ℕ → List Cell → List Cell
cells_from zero at cells = []
cells_from (suc n) at cells = get_or cells at cell.Unset ∷ cells_from n (at + 1) cells

-- the cells from `at` on are these; one that doesn't stand stays away
abbrev pub overwritten : List Cell → ℕ → List Cell → List Cell
overwritten cells at [] = cells
overwritten cells at (value ∷ values) = overwritten (set cells at value) (at + 1) values

abbrev pub written : ℕ → ℕ → List Cell → State → State
written k at values s = with_object k (record { life = (object_at s k).life; cells = overwritten (object_at s k).cells at values }) s

-- ---- pointers

-- a pointer that may be null
abbrev pub Address : Type 0
Address = Option Pointer

abbrev pub cell_of : Address → Cell
cell_of None = cell.Null
cell_of (Some p) = cell.Pointer p

-- a first cell of an object
pub record Spot : Type 0 where
  pub object : ℕ
  pub at : ℕ
  pub life : ℕ

abbrev pub element_from : ℤ → Pointer → Option Spot
element_from (pos i) p = if nat_lt i p.length then Some (record { object = p.object; at = p.first + i * p.size; life = p.life }) else None
element_from (negsuc i) p = None

-- the element that a pointer points to: none of a null pointer, nor at an index outside of 0 to below the length
abbrev pub element_of : Address → Option Spot
element_of None = None
element_of (Some p) = element_from p.index p

-- a pointer to the first of `count` elements of `size` cells from the spot on. Numbers of cells are below 2^32
abbrev pub pointer_into : ℕ → ℕ → Spot → Pointer
pointer_into size count spot = record { object = spot.object; first = spot.at % 2 ^ 32; size = size; length = count; index = pos 0; life = spot.life }

-- a pointer to one element
abbrev pub pointer_to : ℕ → Spot → Pointer
pointer_to size spot = pointer_into size 1 spot

-- C11 6.5.6p8: by the exact numbers; what is out of range is kept modulo 2^64
abbrev pub index_moved : ℤ → Pointer → ℤ
index_moved by p = p.index +ℤ by

abbrev pub is_in_reach : ℤ → Pointer → Bool
is_in_reach i p = int_le (pos 0) i && int_le i (pos p.length)

abbrev pub moved : ℤ → Pointer → Pointer
moved by p = record p { index = signed (2 ^ 64) (residue (2 ^ 64) (index_moved by p)) }

-- C11 6.5.9p6: both null, or the same cell of one object, by numbers modulo 2^64
abbrev pub cell_number : Pointer → ℕ
cell_number p = (p.first + residue (2 ^ 64) p.index * p.size) % 2 ^ 64

abbrev pub points_alike : Address → Address → Bool
points_alike None None = true
points_alike None (Some q) = false
points_alike (Some p) None = false
points_alike (Some p) (Some q) = (p.object == q.object) && (cell_number p == cell_number q)
