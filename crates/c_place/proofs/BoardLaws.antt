-- Boards while a graph grows, and boards of which one object is changed.
use Rattle.std.proofs.Common.{Vec, Global, ◌≡◌, ℕ, zero, suc, ◌*◌, ◌^◌, ◌≤◌, ◌<◌, ◌==◌, ◌&&◌, nat_lt, List, [], ◌∷◌, ◌++◌, Bool, true, false, if◌then◌else◌, length, map, get_or, set, refl, sym, ap, ◌∙◌, subst, arith}
use Rattle.std.specs.Prelude.{Option, Some, None}
use Rattle.std.specs.List.{All}
use Rattle.std.proofs.lemmas.List.{map-set, set-get_or}
use Rattle.hy_bits.specs.declared.width.Width.{Width}
use Rattle.hy_bits.specs.declared.width.Width.TheVariants.{W1, W8, W16, W32, W64}
use Rattle.word_graph.specs.declared.entry.Entry.{Entry}
use Rattle.word_graph.specs.declared.entry.Node.{Node}
use Rattle.word_graph.specs.Term.{width_at}
use Rattle.word_nodes.specs.Nodes.{AllStand, Extends, worth, worths}
use Rattle.word_nodes.proofs.NodeLaws.{Extends-length, Extends-inputs_before, Stands-later, worth-later}
use Rattle.c_meaning.specs.declared.values.Cell.{Cell}
use Rattle.c_meaning.specs.declared.values.Cell.TheVariants as cell
use Rattle.c_meaning.specs.State.{cell_of, element_of, overwritten}
use Rattle.c_place.specs.declared.targets.Target.{Target}
use Rattle.c_place.specs.declared.targets.Targets.{Targets}
use Rattle.c_place.specs.declared.cells.Held.{Held}
use Rattle.c_place.specs.declared.cells.Held.TheVariants as held
use Rattle.c_place.specs.declared.cells.Board.{Board}
use Rattle.c_place.specs.declared.cells.Zeros.{Zeros}
use Rattle.c_place.specs.Aims.{Aim, pointer_of, IsTarget, IsPointer, aim, aims, aims_there, aimed_at}
use Rattle.c_place.specs.Boards.{Layout, IsBoard, IsZero, HeldFits, held_layout, layout, cells_held, objects_held, widths_at}
use Rattle.c_place.specs.Accesses.{placed, written_at, written_where, words_written}
use Rattle.c_place.proofs.ReadLaws.{element-within, element-outside}
use Rattle.std.proofs.lemmas.Grind.{common_steps}
use Rattle.c_place.proofs.PlaceLaws.{overwritten-words}
use Rattle.c_place.proofs.TargetLaws.{IsTarget-later, aim-later}

-- ---- while a graph grows

module _ {region : ℕ} {old new : List Entry} (f : Extends region old new) where
  pub aims-later : (ins : List ℕ) (ts : List Target) → All (IsTarget old) ts → aims new ins ts ≡ aims old ins ts
  aims-later ins [] h = refl
  aims-later ins (t ∷ ts) h =
      ap (λ (a : Aim). a ∷ aims new ins ts) (aim-later f ins t (h zero t (omega arith)))
      ∙ ap (λ (as' : List Aim). aim old ins t ∷ as') (aims-later ins ts (λ k d j. h (suc k) d (omega arith)))

  pub IsPointer-later : (p : Targets) → IsPointer old p → IsPointer new p
  IsPointer-later p s = record {
    null = Stands-later f W1 p.null s.null;
    targets = λ k d h. IsTarget-later f _ (s.targets k d h);
    one = λ ins fit.
        rw (worth-later f ins p.null s.null.within, aims-later ins p.list.items s.targets) (s.one ins (Extends-inputs_before f ins fit));
  }

  pub held-layout-later : (layout : Layout) (h : Held) → HeldFits old layout h → held_layout new h ≡ held_layout old h
  held-layout-later layout (held.Words nodes) fit = ap (λ (ws : List Width). Some ws) (same nodes.items fit)
    where
      same : (ns : List Node) → All (λ (n : Node). n.index < length old) ns → map (λ (n : Node). width_at new n.index) ns ≡ map (λ (n : Node). width_at old n.index) ns
      same [] h = refl
      same (n ∷ ns) h =
          let here = Stands-later f (width_at old n.index) n (record { within = h zero n (omega arith); width = refl }) in
          ap (λ (w : Width). w ∷ map (λ (n : Node). width_at new n.index) ns) here.width
          ∙ ap (λ (ws : List Width). width_at old n.index ∷ ws) (same ns (λ k d j. h (suc k) d (omega arith)))
  held-layout-later layout (held.Pointer targets) fit = refl

  pub HeldFits-later : (layout : Layout) (h : Held) → HeldFits old layout h → HeldFits new layout h
  HeldFits-later layout (held.Words nodes) fit = λ k d h. omega (arith, fit k d h, Extends-length f)
  HeldFits-later layout (held.Pointer targets) fit = (IsPointer-later targets fit.0, fit.1)

  pub cells_held-later : (layout : Layout) (ins : List ℕ) (h : Held) → HeldFits old layout h → cells_held new ins h ≡ cells_held old ins h
  cells_held-later layout ins (held.Words nodes) fit = same nodes.items fit
    where
      same : (ns : List Node) → All (λ (n : Node). n.index < length old) ns → map (λ (n : Node). cell.Int (worth new ins n)) ns ≡ map (λ (n : Node). cell.Int (worth old ins n)) ns
      same [] h = refl
      same (n ∷ ns) h =
          ap (λ (x : ℕ). cell.Int x ∷ map (λ (n : Node). cell.Int (worth new ins n)) ns) (worth-later f ins n (h zero n (omega arith)))
          ∙ ap (λ (cs : List Cell). cell.Int (worth old ins n) ∷ cs) (same ns (λ k d j. h (suc k) d (omega arith)))
  cells_held-later layout ins (held.Pointer targets) fit =
      ap (λ (as' : List Aim). cell_of (aimed_at as') ∷ []) (aims-later ins targets.list.items fit.0.targets)

  pub IsZero-later : (w : Width) (n : Node) → IsZero old w n → IsZero new w n
  IsZero-later w n z = record {
    stands = Stands-later f w n z.stands;
    zero = λ ins fit. worth-later f ins n z.stands.within ∙ z.zero ins (Extends-inputs_before f ins fit);
  }

  pub layouts-later : (l : Layout) (hs : List Held) → All (HeldFits old l) hs → map (held_layout new) hs ≡ map (held_layout old) hs
  layouts-later l [] h = refl
  layouts-later l (x ∷ hs) h =
      ap (λ (o : Option (List Width)). o ∷ map (held_layout new) hs) (held-layout-later l x (h zero x (omega arith)))
      ∙ ap (λ (os : Layout). held_layout old x ∷ os) (layouts-later l hs (λ k d j. h (suc k) d (omega arith)))

  pub cells-later : (l : Layout) (ins : List ℕ) (hs : List Held) → All (HeldFits old l) hs → map (cells_held new ins) hs ≡ map (cells_held old ins) hs
  cells-later l ins [] h = refl
  cells-later l ins (x ∷ hs) h =
      ap (λ (c : List Cell). c ∷ map (cells_held new ins) hs) (cells_held-later l ins x (h zero x (omega arith)))
      ∙ ap (λ (cs : List (List Cell)). cells_held old ins x ∷ cs) (cells-later l ins hs (λ k d j. h (suc k) d (omega arith)))

  pub layout-later : (board : Board) → IsBoard old board → layout new board ≡ layout old board
  layout-later board b = layouts-later (layout old board) board.objects.items b.objects

  pub objects_held-later : (ins : List ℕ) (board : Board) → IsBoard old board → objects_held new ins board ≡ objects_held old ins board
  objects_held-later ins board b = cells-later (layout old board) ins board.objects.items b.objects

  pub IsBoard-later : (board : Board) → IsBoard old board → IsBoard new board
  IsBoard-later board b = record {
    objects = λ k d h. subst (λ (l : Layout). HeldFits new l (get_or board.objects.items k d)) (sym (layout-later board b)) (HeldFits-later (layout old board) (get_or board.objects.items k d) (b.objects k d h));
    w1 = IsZero-later W1 _ b.w1;
    w8 = IsZero-later W8 _ b.w8;
    w16 = IsZero-later W16 _ b.w16;
    w32 = IsZero-later W32 _ b.w32;
    w64 = IsZero-later W64 _ b.w64;
  }

-- ---- a board of which one object is changed

pub widths-stand : (es : List Entry) (ws : List Width) (ns : List Node) → AllStand es ws ns → map (λ (n : Node). width_at es n.index) ns ≡ ws
widths-stand es [] [] h = refl
widths-stand es [] (n ∷ ns) h = absurd h
widths-stand es (w ∷ ws) [] h = absurd h
widths-stand es (w ∷ ws) (n ∷ ns) h =
    ap (λ (v : Width). v ∷ map (λ (n : Node). width_at es n.index) ns) h.0.width ∙ ap (λ (vs : List Width). w ∷ vs) (widths-stand es ws ns h.1)

pub within-stand : (es : List Entry) (ws : List Width) (ns : List Node) → AllStand es ws ns → All (λ (n : Node). n.index < length es) ns
within-stand es [] [] h = λ k d j. absurd (omega arith)
within-stand es [] (n ∷ ns) h = absurd h
within-stand es (w ∷ ws) [] h = absurd h
within-stand es (w ∷ ws) (n ∷ ns) h = both h.0.within (within-stand es ws ns h.1)
  where
    both : n.index < length es → All (λ (n : Node). n.index < length es) ns → All (λ (n : Node). n.index < length es) (n ∷ ns)
    both p ps zero d j = p
    both p ps (suc k) d j = ps k d (omega arith)

-- an element changed to what f tells alike
pub map-set-alike : {A B : Type 0} (f : A → B) (xs : List A) (k : ℕ) (x : A) (d : B) → f x ≡ get_or (map f xs) k d → map f (set xs k x) ≡ map f xs
map-set-alike {A} {B} f xs k x d e = map-set f xs k x ∙ ap (λ (y : B). set (map f xs) k y) e ∙ set-get_or (map f xs) k d

pub All-set : {A : Type 0} (P : A → Type 0) (xs : List A) (k : ℕ) (x : A) → All P xs → P x → All P (set xs k x)
All-set P [] k x h p = h
All-set P (y ∷ xs) zero x h p = first
  where
    first : All P (x ∷ xs)
    first zero d j = p
    first (suc k) d j = h (suc k) d j
All-set P (y ∷ xs) (suc k) x h p = rest (All-set P xs k x (λ j d i. h (suc j) d (omega arith)) p)
  where
    rest : All P (set xs k x) → All P (y ∷ set xs k x)
    rest q zero d j = h zero y (omega arith)
    rest q (suc i) d j = q i d (omega arith)

-- ---- the nodes of an object, changed while the graph grows

module _ {region : ℕ} {old new : List Entry} (f : Extends region old new) (board after : Board) (fit : IsBoard old board) (k : ℕ) (ws : List Width)
    (known : get_or (layout old board) k None ≡ Some ws) (h : Held) (cells : Vec Node Global) (stand : AllStand new ws cells.items)
    (zeros : after.zeros ≡ board.zeros) (objects : after.objects.items ≡ set (set board.objects.items k h) k (held.Words cells)) where
  once : after.objects.items ≡ set board.objects.items k (held.Words cells)
  once = objects ∙ set-twice board.objects.items k h (held.Words cells)
    where
      set-twice : (hs : List Held) (k : ℕ) (x y : Held) → set (set hs k x) k y ≡ set hs k y
      set-twice [] k x y = refl
      set-twice (z ∷ hs) zero x y = refl
      set-twice (z ∷ hs) (suc k) x y = ap (λ (zs : List Held). z ∷ zs) (set-twice hs k x y)

  pub changed-layout : layout new after ≡ layout old board
  changed-layout =
      let kept = layouts-later f (layout old board) board.objects.items fit.objects in
      ap (map (held_layout new)) once
      ∙ map-set-alike (held_layout new) board.objects.items k (held.Words cells) None
      (ap (λ (vs : List Width). Some vs) (widths-stand new ws cells.items stand) ∙ sym known ∙ ap (λ (l : Layout). get_or l k None) (sym kept))
      ∙ kept

  pub changed-board : IsBoard new after
  changed-board =
      let later = IsBoard-later f board fit in
      record {
        objects =
            subst (λ (l : Layout). All (HeldFits new l) after.objects.items) (sym changed-layout)
            (subst (λ (hs : List Held). All (HeldFits new (layout old board)) hs) (sym once)
            (All-set (HeldFits new (layout old board)) board.objects.items k (held.Words cells)
            (λ j d i. HeldFits-later f (layout old board) (get_or board.objects.items j d) (fit.objects j d i))
            (within-stand new ws cells.items stand)));
        w1 = subst (λ (z : Zeros). IsZero new W1 z.w1) (sym zeros) later.w1;
        w8 = subst (λ (z : Zeros). IsZero new W8 z.w8) (sym zeros) later.w8;
        w16 = subst (λ (z : Zeros). IsZero new W16 z.w16) (sym zeros) later.w16;
        w32 = subst (λ (z : Zeros). IsZero new W32 z.w32) (sym zeros) later.w32;
        w64 = subst (λ (z : Zeros). IsZero new W64 z.w64) (sym zeros) later.w64;
      }

  pub changed-objects : (ins : List ℕ) → objects_held new ins after ≡ set (objects_held old ins board) k (map (λ (n : Node). cell.Int (worth new ins n)) cells.items)
  changed-objects ins =
      ap (map (cells_held new ins)) once
      ∙ map-set (cells_held new ins) board.objects.items k (held.Words cells)
      ∙ ap (λ (os : List (List Cell)). set os k (map (λ (n : Node). cell.Int (worth new ins n)) cells.items)) (cells-later f (layout old board) ins board.objects.items fit.objects)

-- words placed in one object where a truth holds
pub objects-chosen : (b : Bool) (objects : List (List Cell)) (k : ℕ) (xs vs : List ℕ) (at : ℕ) → get_or objects k [] ≡ map (λ w. cell.Int w) xs →
    set objects k (map (λ w. cell.Int w) (if b then placed xs at vs else xs)) ≡ (if b then set objects k (overwritten (get_or objects k []) at (map (λ w. cell.Int w) vs)) else objects)
objects-chosen true objects k xs vs at e =
    ap (λ (c : List Cell). set objects k c) (sym (overwritten-words xs at vs) ∙ ap (λ (c : List Cell). overwritten c at (map (λ w. cell.Int w) vs)) (sym e))
objects-chosen false objects k xs vs at e = ap (λ (c : List Cell). set objects k c) (sym e) ∙ set-get_or objects k []

pub hits-same : (n m i j l : ℕ) (xs zs vs us : List ℕ) (at : ℕ → ℕ) → n ≡ m → i ≡ j → xs ≡ zs → vs ≡ us →
    (if (n == 1) && nat_lt i l then placed xs (at i) vs else xs) ≡ (if (m == 1) && nat_lt j l then placed zs (at j) us else zs)
hits-same n m i j l xs zs vs us at e f g h =
    ap (λ (k : ℕ). if (k == 1) && nat_lt i l then placed xs (at i) vs else xs) e
    ∙ ap (λ (k : ℕ). if (m == 1) && nat_lt k l then placed xs (at k) vs else xs) f
    ∙ ap (λ (ys : List ℕ). if (m == 1) && nat_lt j l then placed ys (at j) vs else ys) g
    ∙ ap (λ (ws : List ℕ). if (m == 1) && nat_lt j l then placed zs (at j) ws else zs) h

-- cells of nodes are the cells of their words
pub cells-worths : (es : List Entry) (ins : List ℕ) (ns : List Node) → map (λ (n : Node). cell.Int (worth es ins n)) ns ≡ map (λ (w : ℕ). cell.Int w) (worths es ins ns)
cells-worths es ins [] = refl
cells-worths es ins (n ∷ ns) = ap (λ (cs : List Cell). cell.Int (worth es ins n) ∷ cs) (cells-worths es ins ns)

-- ---- writes of targets one after another

abbrev pub scattered : (guard : ℕ) → List (List Cell) → (offset : ℕ) → List ℕ → List Aim → List (List Cell)
scattered guard objects offset words [] = objects
scattered guard objects offset words (a ∷ more) = scattered guard (written_where guard objects offset words a) offset words more

pub scattered-push : (guard : ℕ) (objects : List (List Cell)) (offset : ℕ) (words : List ℕ) (xs : List Aim) (a : Aim) →
    scattered guard objects offset words (xs ++ a ∷ []) ≡ written_where guard (scattered guard objects offset words xs) offset words a
scattered-push guard objects offset words [] a = refl
scattered-push guard objects offset words (x ∷ xs) a = scattered-push guard (written_where guard objects offset words x) offset words xs a

product-one : (g x : ℕ) → g * x ≡ 1 → g ≡ 1
product-one zero x e = absurd (omega (arith, e))
product-one (suc zero) x e = refl
product-one (suc (suc g)) zero e = absurd (omega (arith, e))
product-one (suc (suc g)) (suc x) e = absurd (omega (arith, e))

off-where : (guard : ℕ) (objects : List (List Cell)) (offset : ℕ) (words : List ℕ) (a : Aim) → (guard * a.guard == 1) ≡ false → written_where guard objects offset words a ≡ objects
off-where guard objects offset words a e = rw e refl

scattered-off : (guard : ℕ) (objects : List (List Cell)) (offset : ℕ) (words : List ℕ) (xs : List Aim) → (guard == 1) ≡ false → scattered guard objects offset words xs ≡ objects
scattered-off guard objects offset words [] e = refl
scattered-off guard objects offset words (a ∷ more) e =
    ap (λ (os : List (List Cell)). scattered guard os offset words more) (off-where guard objects offset words a (off (guard * a.guard == 1) refl))
    ∙ scattered-off guard objects offset words more e
  where
    off : (b : Bool) → (guard * a.guard == 1) ≡ b → (guard * a.guard == 1) ≡ false
    off false h = h
    off true h =
        let one : guard * a.guard ≡ 1 = grind (arith, common_steps) in
        let is : guard ≡ 1 = product-one guard a.guard one in
        absurd (grind (arith, common_steps))

scattered-none : (objects : List (List Cell)) (offset : ℕ) (words : List ℕ) (xs : List Aim) → aims_there xs ≡ 0 → scattered 1 objects offset words xs ≡ objects
scattered-none objects offset words [] e = refl
scattered-none objects offset words (a ∷ more) e =
    let off : (1 * a.guard == 1) ≡ false = grind (arith, common_steps) in
    ap (λ (os : List (List Cell)). scattered 1 os offset words more) (off-where 1 objects offset words a off)
    ∙ scattered-none objects offset words more (omega arith)

scattered-written : (objects : List (List Cell)) (offset : ℕ) (words : List ℕ) (xs : List Aim) → aims_there xs ≤ 1 → All (λ (a : Aim). a.length ≤ 2 ^ 63) xs →
    scattered 1 objects offset words xs ≡ words_written objects (aimed_at xs) offset words
scattered-written objects offset words [] one few = refl
scattered-written objects offset words (a ∷ more) one few =
    here (scattered-written objects offset words more (omega arith) (λ k d h. few (suc k) d (omega arith))) (a.guard == 1) refl
  where
    hit : (b : Bool) → nat_lt a.index a.length ≡ b → (a.guard == 1) ≡ true → scattered 1 (written_where 1 objects offset words a) offset words more ≡ written_at objects offset words (element_of (Some (pointer_of a)))
    hit true e g =
        let none : aims_there more ≡ 0 = grind (arith, common_steps) in
        let within : a.index < a.length = grind (arith, common_steps) in
        let on : (1 * a.guard == 1) ≡ true = grind (arith, common_steps) in
        scattered-none _ offset words more none
        ∙ rw (on, e) (ap (written_at objects offset words) (sym (element-within a within (few zero a (omega arith)))))
    hit false e g =
        let none : aims_there more ≡ 0 = grind (arith, common_steps) in
        let past : a.length ≤ a.index = grind (arith, common_steps) in
        let on : (1 * a.guard == 1) ≡ true = grind (arith, common_steps) in
        scattered-none _ offset words more none
        ∙ rw (on, e) (ap (written_at objects offset words) (sym (element-outside a past)))

    here : scattered 1 objects offset words more ≡ words_written objects (aimed_at more) offset words → (b : Bool) → (a.guard == 1) ≡ b → scattered 1 objects offset words (a ∷ more) ≡ words_written objects (aimed_at (a ∷ more)) offset words
    here rest true g = hit (nat_lt a.index a.length) refl g ∙ rw g refl
    here rest false g =
        let off : (1 * a.guard == 1) ≡ false = grind (arith, common_steps) in
        ap (λ (os : List (List Cell)). scattered 1 os offset words more) (off-where 1 objects offset words a off) ∙ rw g rest

pub scattered-where : (guard : ℕ) (objects : List (List Cell)) (offset : ℕ) (words : List ℕ) (xs : List Aim) → aims_there xs ≤ 1 → All (λ (a : Aim). a.length ≤ 2 ^ 63) xs →
    scattered guard objects offset words xs ≡ (if guard == 1 then words_written objects (aimed_at xs) offset words else objects)
scattered-where guard objects offset words xs one few = cases (guard == 1) refl
  where
    cases : (b : Bool) → (guard == 1) ≡ b → scattered guard objects offset words xs ≡ (if guard == 1 then words_written objects (aimed_at xs) offset words else objects)
    cases true e =
        let is : guard ≡ 1 = grind (arith, common_steps) in
        rw is (scattered-written objects offset words xs one few)
    cases false e = rw e (scattered-off guard objects offset words xs e)

pub where-same : (n m : ℕ) (objects others : List (List Cell)) (offset : ℕ) (vs us : List ℕ) (a b : Aim) → n ≡ m → objects ≡ others → vs ≡ us → a ≡ b → written_where n objects offset vs a ≡ written_where m others offset us b
where-same n m objects others offset vs us a b e f g h =
    ap (λ (k : ℕ). written_where k objects offset vs a) e
    ∙ ap (λ (os : List (List Cell)). written_where m os offset vs a) f
    ∙ ap (λ (ws : List ℕ). written_where m others offset ws a) g
    ∙ ap (written_where m others offset us) h

-- nodes that stand have their widths
pub stand-widths : (es : List Entry) (ns : List Node) → All (λ (n : Node). n.index < length es) ns → AllStand es (widths_at es ns) ns
stand-widths es [] h = tt
stand-widths es (n ∷ ns) h = (record { within = h zero n (omega arith); width = refl }, stand-widths es ns (λ k d j. h (suc k) d (omega arith)))
