-- What of values and states is seen in words: an unset cell is 0 as a null pointer is, and no life of an object has a part in values.
use Rattle.std.specs.Prelude.{◌≡◌, ℕ, Bool, List, None, Some, map}
use Rattle.hy_bits.specs.Bits.{bit}
use Rattle.c_meaning.specs.declared.values.Cell.{Cell}
use Rattle.c_meaning.specs.declared.values.Cell.TheVariants as cell
use Rattle.c_meaning.specs.declared.values.Pointer.{Pointer}
use Rattle.c_meaning.specs.State.{State, Stored, Address}
use Rattle.c_meaning.specs.Expressions.{Value}

-- a pointer without its life
abbrev pub seen_pointer : Pointer → Pointer
seen_pointer p = record p { life = 0 }

abbrev pub seen : Cell → Cell
seen cell.Unset = cell.Int 0
seen (cell.Int w) = cell.Int w
seen cell.Null = cell.Int 0
seen (cell.Pointer p) = cell.Pointer (seen_pointer p)

abbrev pub seen_address : Address → Address
seen_address None = None
seen_address (Some p) = Some (seen_pointer p)

abbrev pub seen_object : Stored → List Cell
seen_object stored = map seen stored.cells

abbrev pub seen_objects : State → List (List Cell)
seen_objects s = map seen_object s.objects

-- what words hold at a point of a run, where the inputs are given: whether a loop has passed its bound, the cells of all objects, and those of
-- the value that is returned
pub record Picture : Type 0 where
  pub past : ℕ
  pub objects : List (List Cell)
  pub returned : List Cell

-- no loop has passed its bound, and the objects are those of the state
pub record Shows (picture : Picture) (s : State) : Type 0 where
  pub kept : picture.past ≡ 0
  pub objects : picture.objects ≡ seen_objects s

-- what stands for a value, a pointer, a truth and values
abbrev pub IsSeen : List Cell → Value → Type 0
IsSeen v u = v ≡ map seen u

abbrev pub IsSeenAddress : Address → Address → Type 0
IsSeenAddress a p = a ≡ seen_address p

abbrev pub IsTruth : ℕ → Bool → Type 0
IsTruth c b = c ≡ bit b

abbrev pub AreSeen : List (List Cell) → List Value → Type 0
AreSeen vs us = vs ≡ map (map seen) us
