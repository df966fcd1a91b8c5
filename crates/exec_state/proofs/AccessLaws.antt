-- Reads and writes through what lvalues designate are what the meaning says, as they are seen.
use Rattle.std.proofs.Common.{◌≡◌, ℕ, zero, suc, ◌+◌, ◌==◌, Bool, true, false, if◌then◌else◌, ℤ, pos, List, [], ◌∷◌, get_or, set, map, replicate, refl, sym, ap, ◌∙◌, subst, arith}
use Rattle.std.specs.Prelude.{Option, None, Some, option_map}
use Rattle.hy_bits.specs.declared.scalar.Scalar.{Scalar}
use Rattle.c_tree.specs.declared.token.Place.{Place}
use Rattle.c_meaning.specs.declared.types.ValueKind.TheVariants as kind
use Rattle.c_meaning.specs.declared.values.Cell.{Cell}
use Rattle.c_meaning.specs.declared.values.Cell.TheVariants as cell
use Rattle.c_meaning.specs.declared.values.Pointer.{Pointer}
use Rattle.c_meaning.specs.declared.values.Undefined.TheVariants as undefined
use Rattle.c_meaning.specs.Programs.{word_of_cell}
use Rattle.c_meaning.specs.State.{State, Address, Spot, object_at, overwritten, cells_from, element_of, cell_of, flagged, moved, index_moved, is_in_reach, pointer_into}
use Rattle.c_meaning.specs.Expressions.{Gives, World, Value, read_integer, read_pointer, read_at, moved_from, part_at, row_at}
use Rattle.c_meaning.specs.Statements.{stored_at}
use Rattle.exec_state.specs.Seen.{Picture, Shows, IsSeen, IsSeenAddress, seen, seen_address, seen_objects}
use Rattle.exec_state.specs.Access.{word_at, words_at, stored_in, part_into, designated, moved_spot, IsInReach}
use Rattle.exec_state.specs.Follow.{Ended}
use Rattle.exec_state.proofs.SeenLaws.{object_seen, written_seen, element_seen}

-- ---- elements by their cells, whatever the life

abbrev pub lifeless : Option Spot → Option Spot
lifeless spot = option_map (λ (spot : Spot). record spot { life = 0 }) spot

word_lifeless : (objects : List (List Cell)) (e : Option Spot) → word_at objects (lifeless e) ≡ word_at objects e
word_lifeless objects None = refl
word_lifeless objects (Some spot) = refl

words_lifeless : (objects : List (List Cell)) (n : ℕ) (e : Option Spot) → words_at objects n (lifeless e) ≡ words_at objects n e
words_lifeless objects n None = refl
words_lifeless objects n (Some spot) = refl

stored_lifeless : (objects : List (List Cell)) (e : Option Spot) (cells : List Cell) → stored_in objects (lifeless e) cells ≡ stored_in objects e cells
stored_lifeless objects None cells = refl
stored_lifeless objects (Some spot) cells = refl

-- ---- integers (C11 6.3.2.1p2)

word_of_seen : (c : Cell) → word_of_cell (seen c) ≡ word_of_cell c
word_of_seen cell.Unset = refl
word_of_seen (cell.Int w) = refl
word_of_seen cell.Null = refl
word_of_seen (cell.Pointer p) = refl

word_in_seen : (cells : List Cell) (at : ℕ) → word_of_cell (get_or (map seen cells) at cell.Unset) ≡ word_of_cell (get_or cells at cell.Unset)
word_in_seen [] at = refl
word_in_seen (c ∷ cs) zero = word_of_seen c
word_in_seen (c ∷ cs) (suc at) = word_in_seen cs at

integer_at : (b : Picture) (place : Place) (c : Cell) (s : State) → Shows b s → Ended b (IsSeen (cell.Int (word_of_cell c) ∷ [])) (read_integer place c s)
integer_at b place cell.Unset s shows = (record { kept = shows.kept; objects = shows.objects }, refl)
integer_at b place (cell.Int w) s shows = (shows, refl)
integer_at b place cell.Null s shows = (record { kept = shows.kept; objects = shows.objects }, refl)
integer_at b place (cell.Pointer p) s shows = (record { kept = shows.kept; objects = shows.objects }, refl)

pub integer_read : (b : Picture) (world : World) (t : Scalar) (place : Place) (e : Option Spot) (s : State) → Shows b s → Ended b (IsSeen (cell.Int (word_at b.objects e) ∷ [])) (read_at world (kind.Integer t) place e s)
integer_read b world t place None s shows = (record { kept = shows.kept; objects = shows.objects }, refl)
integer_read b world t place (Some spot) s shows =
    let c : Cell = get_or (object_at s spot.object).cells spot.at cell.Unset in
    let word : word_at b.objects (Some spot) ≡ word_of_cell c =
    ap (λ (objects : List (List Cell)). word_at objects (Some spot)) shows.objects
    ∙ ap (λ (cells : List Cell). word_of_cell (get_or cells spot.at cell.Unset)) (object_seen s spot.object)
    ∙ word_in_seen (object_at s spot.object).cells spot.at in
    subst (λ (w : ℕ). Ended b (IsSeen (cell.Int w ∷ [])) (read_integer place c s)) (sym word) (integer_at b place c s shows)

-- ---- structs

-- the cells hold words
abbrev pub AreInts : List Cell → Type 0
AreInts cells = (k : ℕ) → seen (get_or cells k cell.Unset) ≡ cell.Int (word_of_cell (get_or cells k cell.Unset))

ints_from : (n at : ℕ) (cells : List Cell) → AreInts (map seen cells) → map seen (cells_from n at cells) ≡ map (λ w. cell.Int w) (map word_of_cell (cells_from n at (map seen cells)))
ints_from zero at cells h = refl
ints_from (suc n) at cells h =
    ap (λ (c : Cell). c ∷ map seen (cells_from n (at + 1) cells)) (first cells at (h at))
    ∙ ap (λ (cs : List Cell). cell.Int (word_of_cell (get_or (map seen cells) at cell.Unset)) ∷ cs) (ints_from n (at + 1) cells h)
  where
    twice : (c : Cell) → seen (seen c) ≡ seen c
    twice cell.Unset = refl
    twice (cell.Int w) = refl
    twice cell.Null = refl
    twice (cell.Pointer p) = refl

    first : (cells : List Cell) (at : ℕ) → seen (get_or (map seen cells) at cell.Unset) ≡ cell.Int (word_of_cell (get_or (map seen cells) at cell.Unset)) → seen (get_or cells at cell.Unset) ≡ cell.Int (word_of_cell (get_or (map seen cells) at cell.Unset))
    first [] at e = refl
    first (c ∷ cs) zero e = sym (twice c) ∙ e
    first (c ∷ cs) (suc at) e = first cs at e

zeros_seen : (n : ℕ) → map (λ (w : ℕ). cell.Int w) (replicate n 0) ≡ map seen (replicate n (cell.Int 0))
zeros_seen zero = refl
zeros_seen (suc n) = ap (λ (cs : List Cell). cell.Int 0 ∷ cs) (zeros_seen n)

abbrev pub HoldsInts : List (List Cell) → Option Spot → Type 0
HoldsInts objects None = Unit {0}
HoldsInts objects (Some spot) = AreInts (get_or objects spot.object [])

pub struct_read : (b : Picture) (world : World) (number : ℕ) (place : Place) (e : Option Spot) (s : State) → HoldsInts b.objects e → Shows b s →
    Ended b (IsSeen (map (λ w. cell.Int w) (words_at b.objects (get_or world.structs number 0) e))) (read_at world (kind.Struct number) place e s)
struct_read b world number place None s ints shows = (record { kept = shows.kept; objects = shows.objects }, zeros_seen (get_or world.structs number 0))
struct_read b world number place (Some spot) s ints shows =
    let is : get_or b.objects spot.object [] ≡ map seen (object_at s spot.object).cells = ap (λ (objects : List (List Cell)). get_or objects spot.object []) shows.objects ∙ object_seen s spot.object in
    let n = get_or world.structs number 0 in (
      shows,
      ap (λ (cells : List Cell). map (λ (w : ℕ). cell.Int w) (map word_of_cell (cells_from n spot.at cells))) is
          ∙ sym (ints_from n spot.at (object_at s spot.object).cells (subst AreInts is ints)),
    )

-- ---- pointers

-- an object that is a pointer shows its address
pub pointer_read : (b : Picture) (world : World) (place : Place) (k life : ℕ) (a : Address) (s : State) → get_or b.objects k [] ≡ seen (cell_of a) ∷ [] → Shows b s →
    Ended b (IsSeen (seen (cell_of a) ∷ [])) (read_at world kind.Pointer place (Some (record { object = k; at = 0; life = life })) s)
pointer_read b world place k life a s is shows =
    by_cells (object_at s k).cells (sym (ap (λ (objects : List (List Cell)). get_or objects k []) shows.objects ∙ object_seen s k) ∙ is)
  where
    by_dead : (p : Pointer) (dead : Bool) → seen (cell.Pointer p) ≡ seen (cell_of a) → Ended b (IsSeen (seen (cell_of a) ∷ [])) (Gives (cell.Pointer p ∷ []) (if dead then s else flagged undefined.Dead place s))
    by_dead p true e = (shows, ap (λ (c : Cell). c ∷ []) (sym e))
    by_dead p false e = (record { kept = shows.kept; objects = shows.objects }, ap (λ (c : Cell). c ∷ []) (sym e))

    none : (w : ℕ) (a : Address) → cell.Int w ≡ seen (cell_of a) → seen (cell_of a) ∷ [] ≡ cell.Int 0 ∷ []
    none w None e = refl
    none w (Some p) e = absurd (cc)

    by_cell : (c : Cell) → seen c ≡ seen (cell_of a) → Ended b (IsSeen (seen (cell_of a) ∷ [])) (read_pointer place c s)
    by_cell cell.Unset e = (record { kept = shows.kept; objects = shows.objects }, none 0 a e)
    by_cell (cell.Int w) e = (record { kept = shows.kept; objects = shows.objects }, none w a e)
    by_cell cell.Null e = (shows, none 0 a e)
    by_cell (cell.Pointer p) e = by_dead p (p.life == (object_at s p.object).life) e

    by_cells : (cells : List Cell) → map seen cells ≡ seen (cell_of a) ∷ [] → Ended b (IsSeen (seen (cell_of a) ∷ [])) (read_pointer place (get_or cells 0 cell.Unset) s)
    by_cells [] e = absurd (cc)
    by_cells (c ∷ cs) e = by_cell c (ap (λ (xs : List Cell). get_or xs 0 cell.Unset) e)

-- ---- moved pointers, parts and rows (C11 6.5.6, 6.5.2.3, 6.3.2.1p3)

abbrev pub moved_address : ℤ → Address → Address
moved_address by None = None
moved_address by (Some p) = Some (moved by p)

pub pointer_moved : (b : Picture) (place : Place) (by : ℤ) (a p : Address) (s : State) → IsSeenAddress a p → Shows b s → Ended b (IsSeenAddress (moved_address by a)) (moved_from place by p s)
pointer_moved b place by a None s is shows = (record { kept = shows.kept; objects = shows.objects }, ap (moved_address by) is)
pointer_moved b place by a (Some p) s is shows = by_reach (is_in_reach (index_moved by p) p)
  where
    by_reach : (near : Bool) → Ended b (IsSeenAddress (moved_address by a)) (Gives (Some (moved by p)) (if near then s else flagged undefined.PointerRange place s))
    by_reach true = (shows, ap (moved_address by) is)
    by_reach false = (record { kept = shows.kept; objects = shows.objects }, ap (moved_address by) is)

pub part_seen : (offset size count : ℕ) (p : Address) → part_into offset size count (element_of (seen_address p)) ≡ seen_address (part_into offset size count (element_of p))
part_seen offset size count p = ap (part_into offset size count) (sym (element_seen p)) ∙ by_element (element_of p)
  where
    by_element : (e : Option Spot) → part_into offset size count (lifeless e) ≡ seen_address (part_into offset size count e)
    by_element None = refl
    by_element (Some spot) = refl

-- a part of what an address designates
pub part_shown : (b : Picture) (place : Place) (offset cells : ℕ) (a p : Address) (s : State) → IsSeenAddress a p → Shows b s →
    Ended b (IsSeenAddress (designated a (Some (record { offset = offset; cells = cells })))) (part_at place offset cells (element_of p) s)
part_shown b place offset cells a p s is shows =
    by_element (element_of p) (ap (λ (q : Address). part_into offset cells 1 (element_of q)) is ∙ part_seen offset cells 1 p)
  where
    by_element : (e : Option Spot) → part_into offset cells 1 (element_of a) ≡ seen_address (part_into offset cells 1 e) → Ended b (IsSeenAddress (part_into offset cells 1 (element_of a))) (part_at place offset cells e s)
    by_element None h = (record { kept = shows.kept; objects = shows.objects }, h)
    by_element (Some spot) h = (shows, h)

-- a row of what an address designates, as a pointer to its first element
pub row_shown : (b : Picture) (place : Place) (size count : ℕ) (a p : Address) (s : State) → IsSeenAddress a p → Shows b s →
    Ended b (IsSeenAddress (part_into 0 size count (element_of a))) (row_at place size count (element_of p) s)
row_shown b place size count a p s is shows =
    by_element (element_of p) (ap (λ (q : Address). part_into 0 size count (element_of q)) is ∙ part_seen 0 size count p)
  where
    by_element : (e : Option Spot) → part_into 0 size count (element_of a) ≡ seen_address (part_into 0 size count e) → Ended b (IsSeenAddress (part_into 0 size count (element_of a))) (row_at place size count e s)
    by_element None h = (record { kept = shows.kept; objects = shows.objects }, h)
    by_element (Some spot) h = (shows, h ∙ ap (λ (n : ℕ). Some (pointer_into size count (record { object = spot.object; at = n; life = 0 }))) (omega arith))

-- a part of a part
pub part_of_part : (o c offset size count : ℕ) (a : Address) → part_into offset size count (element_of (part_into o c 1 (element_of a))) ≡ part_into (o + offset) size count (element_of a)
part_of_part o c offset size count a = by_element (element_of a)
  where
    by_element : (e : Option Spot) → part_into offset size count (element_of (part_into o c 1 e)) ≡ part_into (o + offset) size count e
    by_element None = refl
    by_element (Some spot) =
        ap (λ (n : ℕ). Some (record { object = spot.object; first = n; size = size; length = count; index = pos 0; life = spot.life })) (omega arith)

-- the element of a part, where cells are numbered below 2^32
pub part_element : (o c : ℕ) (a : Address) → IsInReach o (element_of a) → element_of (part_into o c 1 (element_of a)) ≡ moved_spot o (element_of a)
part_element o c a = by_element (element_of a)
  where
    by_element : (e : Option Spot) → IsInReach o e → element_of (part_into o c 1 e) ≡ moved_spot o e
    by_element None h = refl
    by_element (Some spot) h = ap (λ (n : ℕ). Some (record { object = spot.object; at = n; life = spot.life })) (omega arith)

-- ---- writes

pub stored_shown : (b : Picture) (place : Place) (e : Option Spot) (v : List Cell) (u : Value) (s : State) → IsSeen v u → Shows b s →
    Shows (record b { objects = stored_in b.objects e v }) (stored_at place e u s).state
stored_shown b place None v u s is shows = record { kept = shows.kept; objects = shows.objects }
stored_shown b place (Some spot) v u s is shows = record {
  kept = shows.kept;
  objects = ap (λ (objects : List (List Cell)). stored_in objects (Some spot) v) shows.objects
      ∙ ap (λ (cells : List Cell). set (seen_objects s) spot.object (overwritten (get_or (seen_objects s) spot.object []) spot.at cells)) is
      ∙ sym (written_seen spot.object spot.at u s);
}
