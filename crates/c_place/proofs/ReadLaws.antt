-- Reads: what is gathered from targets one after another is what the pointer's element holds.
use Rattle.std.proofs.Common.{◌≡◌, ℕ, zero, suc, ◌+◌, ◌*◌, ◌^◌, ◌≤◌, ◌<◌, ◌==◌, nat_lt, List, [], ◌∷◌, ◌++◌, Bool, true, false, if◌then◌else◌, length, map, take, drop, get_or, replicate, refl, sym, ap, ◌∙◌, subst, add-one, arith}
use Rattle.std.specs.Prelude.{slice_get, Option, Some, None}
use Rattle.std.specs.List.{All}
use Rattle.std.proofs.lemmas.Grind.{common_steps}
use Rattle.hy_bits.specs.declared.width.Width.{Width}
use Rattle.hy_bits.specs.Words.{is_negative}
use Rattle.word_graph.specs.declared.entry.Entry.{Entry}
use Rattle.word_graph.specs.declared.entry.Node.{Node}
use Rattle.word_graph.specs.Term.{width_at}
use Rattle.word_nodes.specs.Nodes.{AllStand, worth, worths}
use Rattle.c_meaning.specs.declared.values.Cell.{Cell}
use Rattle.c_meaning.specs.declared.values.Cell.TheVariants as cell
use Rattle.c_meaning.specs.Programs.{word_of_cell}
use Rattle.c_meaning.specs.State.{Spot, element_of, cells_from}
use Rattle.c_place.specs.declared.cells.Held.{Held}
use Rattle.c_place.specs.declared.cells.Held.TheVariants as held
use Rattle.c_place.specs.Aims.{Aim, pointer_of, aimed_at, aims_there, is_hit}
use Rattle.c_place.specs.Boards.{Layout, held_layout, HeldFits, nodes_in, cells_held}
use Rattle.c_place.specs.Accesses.{words_at, words_read}

-- ---- what is gathered from targets one after another

abbrev pub gathered : (Aim → List ℕ) → List ℕ → List Aim → List ℕ
gathered f r [] = r
gathered f r (a ∷ more) = gathered f (if is_hit a then f a else r) more

pub gathered-push : (f : Aim → List ℕ) (r : List ℕ) (xs : List Aim) (a : Aim) → gathered f r (xs ++ a ∷ []) ≡ (if is_hit a then f a else gathered f r xs)
gathered-push f r [] a = refl
gathered-push f r (x ∷ xs) a = gathered-push f (if is_hit x then f x else r) xs a

gathered-none : (f : Aim → List ℕ) (r : List ℕ) (xs : List Aim) → aims_there xs ≡ 0 → gathered f r xs ≡ r
gathered-none f r [] h = refl
gathered-none f r (x ∷ xs) h =
    let off : is_hit x ≡ false = grind (arith, common_steps) in
    rw off (gathered-none f r xs (omega arith))

-- ---- the element of a pointer

pub element-within : (a : Aim) → a.index < a.length → a.length ≤ 2 ^ 63 → element_of (Some (pointer_of a)) ≡ Some (record { object = a.object; at = a.first + a.index * a.size; life = 0 })
element-within a h few =
    let plain : is_negative (2 ^ 64) a.index ≡ false = grind (arith, common_steps) in
    let inside : nat_lt a.index a.length ≡ true = grind (arith, common_steps) in
    rw plain (rw inside refl)

pub element-outside : (a : Aim) → a.length ≤ a.index → element_of (Some (pointer_of a)) ≡ None
element-outside a h = outside (is_negative (2 ^ 64) a.index) refl
  where
    outside : (b : Bool) → is_negative (2 ^ 64) a.index ≡ b → element_of (Some (pointer_of a)) ≡ None
    outside true e = rw e refl
    outside false e =
        let past : nat_lt a.index a.length ≡ false = grind (arith, common_steps) in
        rw e (rw past refl)

pub gathered-read : (f : Aim → List ℕ) (r : List ℕ) (objects : List (List Cell)) (offset count : ℕ) (xs : List Aim) →
    aims_there xs ≤ 1 → r ≡ replicate count 0 →
    All (λ (a : Aim). a.length ≤ 2 ^ 63) xs →
    All (λ (a : Aim). a.index < a.length → f a ≡ words_at objects offset count (Some (record { object = a.object; at = a.first + a.index * a.size; life = 0 }))) xs →
    gathered f r xs ≡ words_read objects (aimed_at xs) offset count
gathered-read f r objects offset count [] one zeros few reads = zeros
gathered-read f r objects offset count (a ∷ more) one zeros few reads =
    here (gathered-read f r objects offset count more (omega arith) zeros (λ k d h. few (suc k) d (omega arith)) (λ k d h. reads (suc k) d (omega arith))) (a.guard == 1) refl
  where
    hit : (b : Bool) → nat_lt a.index a.length ≡ b → (a.guard == 1) ≡ true → gathered f (if is_hit a then f a else r) more ≡ words_at objects offset count (element_of (Some (pointer_of a)))
    hit true e g =
        let none : aims_there more ≡ 0 = grind (arith, common_steps) in
        let within : a.index < a.length = grind (arith, common_steps) in
        gathered-none f _ more none
        ∙ rw (g, e) (reads zero a (omega arith) within ∙ ap (λ (s : Option Spot). words_at objects offset count s) (sym (element-within a within (few zero a (omega arith)))))
    hit false e g =
        let none : aims_there more ≡ 0 = grind (arith, common_steps) in
        let past : a.length ≤ a.index = grind (arith, common_steps) in
        gathered-none f _ more none
        ∙ rw (g, e) (zeros ∙ ap (λ (s : Option Spot). words_at objects offset count s) (sym (element-outside a past)))

    here : gathered f r more ≡ words_read objects (aimed_at more) offset count → (b : Bool) → (a.guard == 1) ≡ b → gathered f r (a ∷ more) ≡ words_read objects (aimed_at (a ∷ more)) offset count
    here rest true g = hit (nat_lt a.index a.length) refl g ∙ rw g refl
    here rest false g = rw g rest

-- ---- cells of objects that are nodes

-- the words of cells from a place on
pub words-from : (es : List Entry) (ins : List ℕ) (nodes : List Node) (count at : ℕ) → at + count ≤ length nodes →
    map word_of_cell (cells_from count at (map (λ (n : Node). cell.Int (worth es ins n)) nodes)) ≡ worths es ins (take count (drop at nodes))
words-from es ins nodes zero at h = refl
words-from es ins nodes (suc count) at h =
    let d : Node = record { index = 0 } in
    let first : get_or (map (λ (n : Node). cell.Int (worth es ins n)) nodes) at cell.Unset ≡ cell.Int (worth es ins (get_or nodes at d)) = at-map nodes at (omega arith) in
    rw (first, add-one)
    (ap (λ (xs : List ℕ). worth es ins (get_or nodes at d) ∷ xs) (words-from es ins nodes count (suc at) (omega arith))
    ∙ sym (ap (worths es ins) (take-drop nodes at d (omega arith))))
  where
    at-map : (ns : List Node) (k : ℕ) → k < length ns → get_or (map (λ (n : Node). cell.Int (worth es ins n)) ns) k cell.Unset ≡ cell.Int (worth es ins (get_or ns k (record { index = 0 })))
    at-map [] k h = absurd (omega arith)
    at-map (n ∷ ns) zero h = refl
    at-map (n ∷ ns) (suc k) h = at-map ns k (omega arith)

    take-drop : (ns : List Node) (k : ℕ) (d : Node) → k < length ns → take (suc count) (drop k ns) ≡ get_or ns k d ∷ take count (drop (suc k) ns)
    take-drop [] k d h = absurd (omega arith)
    take-drop (n ∷ ns) zero d h = refl
    take-drop (n ∷ ns) (suc k) d h = take-drop ns k d (omega arith)

-- the nodes of an object that is no pointer stand, with the widths of its layout
pub held-stands : (es : List Entry) (layout : Layout) (hs : List Held) (k : ℕ) (ws : List Width) → All (HeldFits es layout) hs → get_or (map (held_layout es) hs) k None ≡ Some ws → AllStand es ws (nodes_in (slice_get hs k))
held-stands es layout [] k ws fit e = absurd (cc)
held-stands es layout (held.Words nodes ∷ hs) zero ws fit e =
    let same : map (λ (n : Node). width_at es n.index) nodes.items ≡ ws = cc in
    subst (λ (ws : List Width). AllStand es ws nodes.items) same (standing nodes.items (fit zero (held.Words nodes) (omega arith)))
  where
    standing : (ns : List Node) → All (λ (n : Node). n.index < length es) ns → AllStand es (map (λ (n : Node). width_at es n.index) ns) ns
    standing [] h = tt
    standing (n ∷ ns) h = (record { within = h zero n (omega arith); width = refl }, standing ns (λ k d j. h (suc k) d (omega arith)))
held-stands es layout (held.Pointer targets ∷ hs) zero ws fit e = absurd (cc)
held-stands es layout (h ∷ hs) (suc k) ws fit e = held-stands es layout hs k ws (λ j d i. fit (suc j) d (omega arith)) e

-- and its cells are their words
pub held-cells : (es : List Entry) (ins : List ℕ) (hs : List Held) (k : ℕ) (ws : List Width) → get_or (map (held_layout es) hs) k None ≡ Some ws →
    get_or (map (cells_held es ins) hs) k [] ≡ map (λ (n : Node). cell.Int (worth es ins n)) (nodes_in (slice_get hs k))
held-cells es ins [] k ws e = absurd (cc)
held-cells es ins (held.Words nodes ∷ hs) zero ws e = refl
held-cells es ins (held.Pointer targets ∷ hs) zero ws e = absurd (cc)
held-cells es ins (h ∷ hs) (suc k) ws e = held-cells es ins hs k ws e
