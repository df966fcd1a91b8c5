-- Targets while a graph grows, the numbers that accesses reach, and the nodes that a target names.
use Rattle.std.proofs.Common.{◌≡◌, ℕ, zero, suc, ◌+◌, ◌*◌, ◌≤◌, ◌<◌, List, [], ◌∷◌, Bool, true, false, if◌then◌else◌, length, map, take, drop, get_or, replicate, refl, sym, ap, ◌∙◌, subst, arith}
use Rattle.word_graph.specs.Shape.{constant_at}
use Rattle.std.specs.Prelude.{IsSome, Some}
use Rattle.std.specs.List.{All}
use Rattle.std.proofs.lemmas.Grind.{common_steps}
use Rattle.std.proofs.Math.Seq.{take-suc}
use Rattle.std.proofs.lemmas.List.Elements.{All-push}
use Rattle.hy_bits.specs.declared.width.Width.{Width}
use Rattle.hy_bits.specs.declared.width.Width.TheVariants.{W1, W8, W16, W32, W64}
use Rattle.word_graph.specs.declared.entry.Entry.{Entry}
use Rattle.word_graph.specs.declared.entry.Node.{Node}
use Rattle.word_graph.specs.Meaning.{InputsFit}
use Rattle.word_nodes.specs.Nodes.{AllStand, Extends, worth, worths}
use Rattle.word_nodes.proofs.NodeLaws.{Stands-later, worth-later, worths-later, AllStand-take, AllStand-drop, AllStand-length}
use Rattle.c_place.specs.declared.targets.Target.{Target}
use Rattle.c_place.specs.declared.cells.Board.{Board}
use Rattle.c_place.specs.Aims.{Aim, IsTarget, aim, is_hit}
use Rattle.c_place.specs.Boards.{IsBoard, IsZero, zero_of, LiesIn, layout, nodes_of, objects_held}
use Rattle.c_place.specs.Accesses.{ReadsAs, cell_at, reach, words_at}
use Rattle.c_place.proofs.ListLaws.{more_steps}
use Rattle.c_place.proofs.ReadLaws.{words-from, held-stands, held-cells}

abbrev pub no_target : Target
no_target = record { guard = record { index = 0 }; object = 0; first = 0; size = 0; length = 0; index = record { index = 0 } }

pub only-at : (ts : List Target) (t : Target) (j : ℕ) → ts ≡ t ∷ [] → j < length ts → get_or ts j no_target ≡ t
only-at ts t zero e h = rw e refl
only-at ts t (suc j) e h = absurd (omega (arith, ap (λ (xs : List Target). length xs) e))

pub constant-at : (es fs : List Entry) (n m : Node) (k : ℕ) → fs ≡ es → m ≡ n → constant_at es n.index ≡ Some k → IsSome (constant_at fs m.index)
constant-at es fs n m k e f h = rw (e, f, h) refl

pub constant-some : (es fs : List Entry) (n m : Node) → fs ≡ es → m ≡ n → IsSome (constant_at es n.index) → IsSome (constant_at fs m.index)
constant-some es fs n m e f h = rw (e, f) h

module _ {region : ℕ} {old new : List Entry} (f : Extends region old new) where
  pub IsTarget-later : (t : Target) → IsTarget old t → IsTarget new t
  IsTarget-later t s = record { guard = Stands-later f W1 t.guard s.guard; index = Stands-later f W64 t.index s.index }

  pub aim-later : (ins : List ℕ) (t : Target) → IsTarget old t → aim new ins t ≡ aim old ins t
  aim-later ins t s =
      rw (worth-later f ins t.guard s.guard.within, worth-later f ins t.index s.index.within) refl

-- ---- numbers

pub reach-suc : (count : ℕ) (ts : List Target) (j : ℕ) (d : Target) → j < length ts → reach count (take (suc j) ts) ≡ reach count (take j ts) + (1 + (get_or ts j d).length * (count + 1))
reach-suc count [] j d h = absurd (omega arith)
reach-suc count (t ∷ ts) zero d h = omega arith
reach-suc count (t ∷ ts) (suc j) d h = omega (arith, reach-suc count ts j d (omega arith))

pub reach-take : (count : ℕ) (ts : List Target) (j : ℕ) → reach count (take j ts) ≤ reach count ts
reach-take count ts zero = omega arith
reach-take count [] (suc j) = omega arith
reach-take count (t ∷ ts) (suc j) = omega (arith, reach-take count ts j)

-- ---- facts of all targets so far

pub All-suc : (P : Target → Type 0) (ts : List Target) (j : ℕ) (d : Target) → All P (take j ts) → j < length ts → P (get_or ts j d) → All P (take (suc j) ts)
All-suc P ts j d h k p = rw (take-suc ts j d k) (All-push P (take j ts) (get_or ts j d) h p)

pub All-aims : (f : Target → Aim) (P : Aim → Type 0) (ts : List Target) → All (λ (t : Target). P (f t)) ts → All P (map f ts)
All-aims f P [] h = λ k d j. absurd (omega arith)
All-aims f P (t ∷ ts) h = cons (h zero t (omega arith)) (All-aims f P ts (λ k d j. h (suc k) d (omega arith)))
  where
    cons : P (f t) → All P (map f ts) → All P (f t ∷ map f ts)
    cons p ps zero d j = p
    cons p ps (suc k) d j = ps k d (omega arith)

-- ---- the zeros of a board

zero_at : (es : List Entry) (board : Board) → IsBoard es board → (w : Width) → IsZero es w (zero_of board w)
zero_at es board fit W1 = fit.w1
zero_at es board fit W8 = fit.w8
zero_at es board fit W16 = fit.w16
zero_at es board fit W32 = fit.w32
zero_at es board fit W64 = fit.w64

pub zeros-stand : (es : List Entry) (board : Board) → IsBoard es board → (ws : List Width) → AllStand es ws (map (zero_of board) ws)
zeros-stand es board fit [] = tt
zeros-stand es board fit (w ∷ ws) = ((zero_at es board fit w).stands, zeros-stand es board fit ws)

pub zeros-worth : (es : List Entry) (board : Board) → IsBoard es board → (ins : List ℕ) → InputsFit es ins → (ws : List Width) → worths es ins (map (zero_of board) ws) ≡ replicate (length ws) 0
zeros-worth es board fit ins h [] = refl
zeros-worth es board fit ins h (w ∷ ws) =
    ap (λ (x : ℕ). x ∷ worths es ins (map (zero_of board) ws)) ((zero_at es board fit w).zero ins h) ∙ ap (λ (xs : List ℕ). 0 ∷ xs) (zeros-worth es board fit ins h ws)

-- ---- a hit

pub is_hit-within : (a : Aim) → is_hit a ≡ true → a.index < a.length
is_hit-within a h = grind (arith, common_steps)

pub chosen-same : {A : Type 0} (b : Bool) (x u y v : A) → (b ≡ true → x ≡ u) → y ≡ v → (if b then x else y) ≡ (if b then u else v)
chosen-same true x u y v f g = f refl
chosen-same false x u y v f g = g

-- ---- the nodes that a target names

module _ (es : List Entry) (board : Board) (fit : IsBoard es board) (t : Target) (lies : LiesIn (layout es board) t) where
  pub target-stands : AllStand es lies.0 (nodes_of board t.object)
  target-stands = held-stands es (layout es board) board.objects.items t.object lies.0 fit.objects lies.1

  pub target-room : t.first + t.length * t.size ≤ length (nodes_of board t.object)
  target-room = omega (arith, AllStand-length es lies.0 (nodes_of board t.object) target-stands, lies.2)

  module _ (offset : ℕ) (widths : List Width) (reads : ReadsAs (layout es board) offset widths t) where
    pub target-nodes : (k : ℕ) → k < t.length → AllStand es widths (take (length widths) (drop (cell_at t offset k) (nodes_of board t.object)))
    target-nodes k h =
        let same : take (length widths) (drop (cell_at t offset k) lies.0) ≡ widths = rw lies.1 at (reads.1 k h) in
        subst (λ (ws : List Width). AllStand es ws (take (length widths) (drop (cell_at t offset k) (nodes_of board t.object)))) same
        (AllStand-take es (length widths) _ _ (AllStand-drop es (cell_at t offset k) _ _ target-stands))

    pub target-last : (k : ℕ) → k < t.length → cell_at t offset k + length widths ≤ length (nodes_of board t.object)
    target-last k h = omega (arith, target-room, reads.0, more_steps k t.length t.size h)

    -- they are the words of the element's cells
    pub target-words : (ins : List ℕ) (k : ℕ) → k < t.length →
        worths es ins (take (length widths) (drop (cell_at t offset k) (nodes_of board t.object)))
        ≡ words_at (objects_held es ins board) offset (length widths) (Some (record { object = t.object; at = t.first + k * t.size; life = 0 }))
    target-words ins k h =
        rw (held-cells es ins board.objects.items t.object lies.0 lies.1)
        (sym (words-from es ins (nodes_of board t.object) (length widths) (cell_at t offset k) (target-last k h)))

-- one target more, in a graph that has grown
pub load-step : {region : ℕ} {old mid : List Entry} (f : Extends region old mid) (ins : List ℕ) (offset : ℕ) (widths : List Width) (nodes : List Node) (t : Target) (got : List Node) (so_far : List ℕ) →
    IsTarget old t →
    ((k : ℕ) → k < t.length → AllStand old widths (take (length widths) (drop (cell_at t offset k) nodes))) →
    worths mid ins got ≡ so_far →
    (if is_hit (aim mid ins t) then worths mid ins (take (length widths) (drop (cell_at t offset (worth mid ins t.index)) nodes)) else worths mid ins got)
    ≡ (if is_hit (aim old ins t) then worths old ins (take (length widths) (drop (cell_at t offset (worth old ins t.index)) nodes)) else so_far)
load-step {region} {old} {mid} f ins offset widths nodes t got so_far target stand same =
    rw (worth-later f ins t.guard target.guard.within, worth-later f ins t.index target.index.within)
    (chosen-same (is_hit (aim old ins t)) _ _ _ _
    (λ b. worths-later f ins widths _ (stand (worth old ins t.index) (is_hit-within (aim old ins t) b)))
    same)
