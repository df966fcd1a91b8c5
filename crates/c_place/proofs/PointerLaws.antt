-- Boards of which one pointer is changed.
use Rattle.std.proofs.Common.{Vec, Global, ◌≡◌, inl, inr, ℕ, zero, suc, ◌+◌, ◌*◌, ◌≤◌, ◌<◌, List, [], ◌∷◌, Bool, true, false, if◌then◌else◌, Option, Some, None, slice_get, length, map, get_or, set, refl, sym, ap, ◌∙◌, subst, arith}
use Rattle.std.specs.List.{All}
use Rattle.std.proofs.lemmas.List.{map-set, set-get_or}
use Rattle.hy_bits.specs.declared.width.Width.{Width}
use Rattle.hy_bits.specs.declared.width.Width.TheVariants.{W1, W8, W16, W32, W64}
use Rattle.word_graph.specs.declared.entry.Entry.{Entry}
use Rattle.word_graph.specs.declared.entry.Node.{Node}
use Rattle.word_nodes.specs.Nodes.{Extends}
use Rattle.c_meaning.specs.declared.values.Cell.{Cell}
use Rattle.c_meaning.specs.State.{Address, cell_of}
use Rattle.c_place.specs.declared.targets.Place.{Place}
use Rattle.c_place.specs.declared.targets.Target.{Target}
use Rattle.c_place.specs.declared.targets.Targets.{Targets}
use Rattle.c_place.specs.declared.cells.Held.{Held}
use Rattle.c_place.specs.declared.cells.Held.TheVariants as held
use Rattle.c_place.specs.declared.cells.Board.{Board}
use Rattle.c_place.specs.declared.cells.Zeros.{Zeros}
use Rattle.c_place.specs.Aims.{IsPlacedIn, IsPointer, address, place_of}
use Rattle.c_place.specs.Boards.{Layout, LiesIn, IsBoard, IsZero, HeldFits, held_layout, layout, cells_held, objects_held, pointer_in, pointer_at, list_in, targets_at}
use Rattle.c_place.proofs.BoardLaws.{map-set-alike, All-set, layouts-later, cells-later, HeldFits-later, IsBoard-later}
use Rattle.c_place.proofs.ChoiceLaws.{places-member, All-member}

-- ---- where a pointer stands

pub pointer-within : (hs : List Held) (k : ℕ) (p : Targets) → pointer_in (slice_get hs k) ≡ Some p → k < length hs
pointer-within [] k p e = absurd (cc)
pointer-within (h ∷ hs) zero p e = omega arith
pointer-within (h ∷ hs) (suc k) p e = omega (arith, pointer-within hs k p e)

held-pointer : (h : Held) (p : Targets) → pointer_in (Some h) ≡ Some p → h ≡ held.Pointer p
held-pointer (held.Words nodes) p e = absurd (cc)
held-pointer (held.Pointer q) p e = let same : q ≡ p = cc in ap (λ (t : Targets). held.Pointer t) same

pub pointer-get : (hs : List Held) (k : ℕ) (p : Targets) (d : Held) → pointer_in (slice_get hs k) ≡ Some p → get_or hs k d ≡ held.Pointer p
pointer-get [] k p d e = absurd (cc)
pointer-get (h ∷ hs) zero p d e = held-pointer h p e
pointer-get (h ∷ hs) (suc k) p d e = pointer-get hs k p d e

-- what f tells of it
pointer-map : {B : Type 0} (f : Held → B) (hs : List Held) (k : ℕ) (p : Targets) (d : B) → pointer_in (slice_get hs k) ≡ Some p → get_or (map f hs) k d ≡ f (held.Pointer p)
pointer-map f [] k p d e = absurd (cc)
pointer-map f (h ∷ hs) zero p d e = ap f (held-pointer h p e)
pointer-map f (h ∷ hs) (suc k) p d e = pointer-map f hs k p d e

-- a pointer of a board, and what it points to
pub board-pointer : (es : List Entry) (board : Board) (k : ℕ) (p : Targets) → IsBoard es board → pointer_at board k ≡ Some p → IsPointer es p × All (LiesIn (layout es board)) p.list.items
board-pointer es board k p fit known =
    let d : Held = held.Pointer p in
    subst (λ (h : Held). HeldFits es (layout es board) h) (pointer-get board.objects.items k p d known) (fit.objects k d (pointer-within board.objects.items k p known))

-- ---- targets that lie within objects

abbrev LiesAt : Layout → Place → Type 0
LiesAt l p = (widths : List Width) × (get_or l p.object None ≡ Some widths) × (p.first + p.length * p.size ≤ length widths)

pub lies-through : (l : Layout) (xs ys out : List Target) → All (LiesIn l) xs → All (LiesIn l) ys → All (IsPlacedIn xs ys) out → All (LiesIn l) out
lies-through l xs ys out p q s = λ k t h. elim (s k t h) [
  | inl c ↦ let m = places-member xs (place_of (get_or out k t)) c in subst (LiesAt l) m.2 (All-member (LiesIn l) xs m.0 p m.1)
  | inr c ↦ let m = places-member ys (place_of (get_or out k t)) c in subst (LiesAt l) m.2 (All-member (LiesIn l) ys m.0 q m.1)
]

-- ---- one pointer changed while the graph grows

get-set-same : {A : Type 0} (xs : List A) (k : ℕ) (x : A) → k < length xs → slice_get (set xs k x) k ≡ Some x
get-set-same [] k x h = absurd (omega arith)
get-set-same (y ∷ xs) zero x h = refl
get-set-same (y ∷ xs) (suc k) x h = get-set-same xs k x (omega arith)

pub get-set-other : {A : Type 0} (xs : List A) (k j : ℕ) (x : A) → (j ≡ k → ⊥) → slice_get (set xs k x) j ≡ slice_get xs j
get-set-other [] k j x h = refl
get-set-other (y ∷ xs) zero zero x h = absurd (h refl)
get-set-other (y ∷ xs) zero (suc j) x h = refl
get-set-other (y ∷ xs) (suc k) zero x h = refl
get-set-other (y ∷ xs) (suc k) (suc j) x h = get-set-other xs k j x (λ e. h (ap (λ (n : ℕ). suc n) e))

cell-chosen : (b : Bool) (objects : List (List Cell)) (k : ℕ) (x y : Address) → get_or objects k [] ≡ cell_of y ∷ [] →
    set objects k (cell_of (if b then x else y) ∷ []) ≡ (if b then set objects k (cell_of x ∷ []) else objects)
cell-chosen true objects k x y e = refl
cell-chosen false objects k x y e = ap (λ (c : List Cell). set objects k c) (sym e) ∙ set-get_or objects k []

module _ {region : ℕ} {old new : List Entry} (f : Extends region old new) (board after : Board) (fit : IsBoard old board) (k : ℕ) (before p : Targets)
    (known : pointer_at board k ≡ Some before) (objects : after.objects.items ≡ set board.objects.items k (held.Pointer p)) where
  pub pointed-targets : targets_at after k ≡ p.list.items
  pointed-targets =
      ap (λ (hs : List Held). list_in (pointer_in (slice_get hs k))) objects
      ∙ ap (λ (o : Option Held). list_in (pointer_in o)) (get-set-same board.objects.items k (held.Pointer p) (pointer-within board.objects.items k before known))

  pub pointed-layout : layout new after ≡ layout old board
  pointed-layout =
      ap (map (held_layout new)) objects
      ∙ map-set-alike (held_layout new) board.objects.items k (held.Pointer p) None (sym (pointer-map (held_layout new) board.objects.items k before None known))
      ∙ layouts-later f (layout old board) board.objects.items fit.objects

  pub pointed-board : IsPointer new p → All (LiesIn (layout old board)) p.list.items → after.zeros ≡ board.zeros → IsBoard new after
  pointed-board stands within zeros =
      let later = IsBoard-later f board fit in
      record {
        objects =
            subst (λ (l : Layout). All (HeldFits new l) after.objects.items) (sym pointed-layout)
            (subst (λ (hs : List Held). All (HeldFits new (layout old board)) hs) (sym objects)
            (All-set (HeldFits new (layout old board)) board.objects.items k (held.Pointer p)
            (λ j d i. HeldFits-later f (layout old board) (get_or board.objects.items j d) (fit.objects j d i))
            (stands, within)));
        w1 = subst (λ (z : Zeros). IsZero new W1 z.w1) (sym zeros) later.w1;
        w8 = subst (λ (z : Zeros). IsZero new W8 z.w8) (sym zeros) later.w8;
        w16 = subst (λ (z : Zeros). IsZero new W16 z.w16) (sym zeros) later.w16;
        w32 = subst (λ (z : Zeros). IsZero new W32 z.w32) (sym zeros) later.w32;
        w64 = subst (λ (z : Zeros). IsZero new W64 z.w64) (sym zeros) later.w64;
      }

  pub pointed-objects : (ins : List ℕ) (b : Bool) (to : Address) → address new ins p ≡ (if b then to else address old ins before) →
      objects_held new ins after ≡ (if b then set (objects_held old ins board) k (cell_of to ∷ []) else objects_held old ins board)
  pointed-objects ins b to e =
      ap (map (cells_held new ins)) objects
      ∙ map-set (cells_held new ins) board.objects.items k (held.Pointer p)
      ∙ ap (λ (os : List (List Cell)). set os k (cell_of (address new ins p) ∷ [])) (cells-later f (layout old board) ins board.objects.items fit.objects)
      ∙ ap (λ (a : Address). set (objects_held old ins board) k (cell_of a ∷ [])) e
      ∙ cell-chosen b (objects_held old ins board) k to (address old ins before) (pointer-map (cells_held old ins) board.objects.items k before [] known)

-- ---- nodes of one object changed: pointers stay

pub pointers-kept : (es : List Entry) (hs after : List Held) (k : ℕ) (ws : List Width) (h : Held) (cells : Vec Node Global) → get_or (map (held_layout es) hs) k None ≡ Some ws →
    after ≡ set (set hs k h) k (held.Words cells) → (j : ℕ) → pointer_in (slice_get after j) ≡ pointer_in (slice_get hs j)
pointers-kept es hs after k ws h cells known e j = ap (λ (xs : List Held). pointer_in (slice_get xs j)) e ∙ kept hs k j known
  where
    words : (x : Held) → held_layout es x ≡ Some ws → None ≡ pointer_in (Some x)
    words (held.Words nodes) f = refl
    words (held.Pointer p) f = absurd (cc)

    kept : (hs : List Held) (k j : ℕ) → get_or (map (held_layout es) hs) k None ≡ Some ws → pointer_in (slice_get (set (set hs k h) k (held.Words cells)) j) ≡ pointer_in (slice_get hs j)
    kept [] k j f = absurd (cc)
    kept (x ∷ hs) zero zero f = words x f
    kept (x ∷ hs) zero (suc j) f = refl
    kept (x ∷ hs) (suc k) zero f = refl
    kept (x ∷ hs) (suc k) (suc j) f = kept hs k j f
