-- Objects that begin, and parameters that get their words.
use Rattle.std.proofs.Common.{Vec, Global, ◌≡◌, ℕ, zero, suc, ◌+◌, ◌-◌, ◌*◌, ◌^◌, ◌≤◌, ◌<◌, ◌==◌, List, [], ◌∷◌, ◌++◌, Bool, true, false, if◌then◌else◌, Option, Some, None, length, map, take, drop, get_or, set, slice_get, replicate, pos, length-append, refl, sym, ap, ◌∙◌, subst, add-one, arith}
use Rattle.std.specs.List.{All}
use Rattle.std.proofs.lemmas.List.{length-map, map-append, map-set, drop_more}
use Rattle.std.proofs.lemmas.Option.{get_or_from_slice_get, slice_get_within}
use Rattle.std.proofs.Math.Seq.{take-suc}
use Rattle.hy_bits.specs.declared.width.Width.{Width}
use Rattle.hy_bits.specs.declared.width.Width.TheVariants.{W1, W64}
use Rattle.word_graph.specs.declared.entry.Entry.{Entry}
use Rattle.word_graph.specs.declared.entry.Node.{Node}
use Rattle.word_graph.specs.Growth.{Grows}
use Rattle.word_graph.specs.Size.{graph_size}
use Rattle.word_graph.specs.Meaning.{InputsFit}
use Rattle.word_nodes.specs.Nodes.{AllStand, Extends, Stands, worth, worths}
use Rattle.word_nodes.proofs.NodeLaws.{AllStand-later, Extends-inputs_before, Extends-length, Stands-later, worth-later}
use Rattle.c_meaning.specs.declared.types.Object.{Object}
use Rattle.c_meaning.specs.declared.types.StructType.{StructType}
use Rattle.c_meaning.specs.declared.types.ValueKind.{ValueKind}
use Rattle.c_meaning.specs.declared.types.ValueKind.TheVariants as kind
use Rattle.c_meaning.specs.declared.values.Cell.{Cell}
use Rattle.c_meaning.specs.declared.values.Cell.TheVariants as cell
use Rattle.c_meaning.specs.Programs.{start_cell, start_cells, words_in}
use Rattle.c_meaning.specs.SizeFolds.{is_pointer}
use Rattle.c_meaning.specs.StatementRules.{cells_in}
use Rattle.c_meaning.specs.State.{cell_of}
use Rattle.c_meaning.specs.Types.{kind_of}
use Rattle.cell_widths.specs.Widths.{widths_of}
use Rattle.c_place.specs.declared.cells.Held.{Held}
use Rattle.c_place.specs.declared.cells.Held.TheVariants as held
use Rattle.c_place.specs.declared.cells.Zeros.{Zeros}
use Rattle.c_place.specs.declared.targets.Place.{Place}
use Rattle.c_place.specs.declared.targets.Target.{Target}
use Rattle.c_place.specs.declared.targets.Targets.{Targets}
use Rattle.c_place.specs.Aims.{Aim, IsPointer, IsTarget, address, aim, aimed_at, aims, aims_there}
use Rattle.c_place.specs.Boards.{HeldFits, IsZero, Layout, LiesIn, cells_held, held_layout, widths_at}
use Rattle.c_place.proofs.BoardLaws.{All-set, IsZero-later, cells-worths, map-set-alike, widths-stand, within-stand}
use Rattle.c_place.proofs.PlaceLaws.{worths-slice}
use Rattle.place_start.specs.declared.arguments.Argument.{Argument}
use Rattle.place_start.specs.Starts.{object_layout, settled, start_held, to_first, with_argument, with_pointer}
use Rattle.place_start.specs.Begins.{AreZeros, ArgumentFits, Enters, Holds, IsEntered, IsOne, PlaceFits, PointerEnters, first_target, start_words}

-- ---- constants

pub IsZero-made : {region : ℕ} {old new : List Entry} (f : Extends region old new) (w : Width) (n : Node) → Stands new w n → ((ins : List ℕ) → InputsFit old ins → worth new ins n ≡ 0) → IsZero new w n
IsZero-made f w n s v = record { stands = s; zero = λ ins fit. v ins (Extends-inputs_before f ins fit) }

pub IsOne-made : {region : ℕ} {old new : List Entry} (f : Extends region old new) (n : Node) → Stands new W1 n → ((ins : List ℕ) → InputsFit old ins → worth new ins n ≡ 1) → IsOne new n
IsOne-made f n s v = record { stands = s; one = λ ins fit. v ins (Extends-inputs_before f ins fit) }

pub IsOne-later : {region : ℕ} {old new : List Entry} (f : Extends region old new) (n : Node) → IsOne old n → IsOne new n
IsOne-later f n o = record { stands = Stands-later f W1 n o.stands; one = λ ins fit. worth-later f ins n o.stands.within ∙ o.one ins (Extends-inputs_before f ins fit) }

pub AreZeros-later : {region : ℕ} {old new : List Entry} (f : Extends region old new) (z : Zeros) → AreZeros old z → AreZeros new z
AreZeros-later f z a = record {
  w1 = IsZero-later f _ _ a.w1;
  w8 = IsZero-later f _ _ a.w8;
  w16 = IsZero-later f _ _ a.w16;
  w32 = IsZero-later f _ _ a.w32;
  w64 = IsZero-later f _ _ a.w64;
}

-- ---- objects that begin

settled-unset : (k : ValueKind) → is_pointer k ≡ false → settled k cell.Unset ≡ cell.Int 0
settled-unset kind.Void h = refl
settled-unset (kind.Integer t) h = refl
settled-unset kind.Pointer h = absurd (cc)
settled-unset (kind.Struct number) h = refl

settled-word : (k : ValueKind) (w : ℕ) → is_pointer k ≡ false → settled k (start_cell k w) ≡ cell.Int w
settled-word kind.Void w h = refl
settled-word (kind.Integer t) w h = refl
settled-word kind.Pointer w h = absurd (cc)
settled-word (kind.Struct number) w h = refl

unset-words : (k : ValueKind) (n : ℕ) → is_pointer k ≡ false → map (settled k) (replicate n cell.Unset) ≡ map (λ w. cell.Int w) (replicate n 0)
unset-words k zero h = refl
unset-words k (suc n) h =
    ap (λ (c : Cell). c ∷ map (settled k) (replicate n cell.Unset)) (settled-unset k h) ∙ ap (λ (cs : List Cell). cell.Int 0 ∷ cs) (unset-words k n h)

words-words : (k : ValueKind) (ws : List ℕ) → is_pointer k ≡ false → map (settled k) (map (start_cell k) ws) ≡ map (λ w. cell.Int w) ws
words-words k [] h = refl
words-words k (w ∷ ws) h =
    ap (λ (c : Cell). c ∷ map (settled k) (map (start_cell k) ws)) (settled-word k w h) ∙ ap (λ (cs : List Cell). cell.Int w ∷ cs) (words-words k ws h)

held-words : (object : Object) (start : Option (List ℕ)) → is_pointer (kind_of object.ctype) ≡ false
    → map (settled (kind_of object.ctype)) (start_cells object start) ≡ map (λ w. cell.Int w) (start_words object.cells start)
held-words object None h = unset-words (kind_of object.ctype) object.cells h
held-words object (Some ws) h = words-words (kind_of object.ctype) ws h

module _ (es : List Entry) (structs : List StructType) (object : Object) (plain : is_pointer (kind_of object.ctype) ≡ false) (nodes : Vec Node Global)
    (stand : AllStand es (widths_of structs object.ctype) nodes.items) where
  pub words-fit : (l : Layout) → HeldFits es l (held.Words nodes)
  words-fit l = within-stand es (widths_of structs object.ctype) nodes.items stand

  pub words-layout : held_layout es (held.Words nodes) ≡ object_layout structs object
  words-layout = rw plain (ap (λ (ws : List Width). Some ws) (widths-stand es (widths_of structs object.ctype) nodes.items stand))

  pub words-held : (ins : List ℕ) → worths es ins nodes.items ≡ start_words object.cells object.start → cells_held es ins (held.Words nodes) ≡ start_held object
  words-held ins is = cells-worths es ins nodes.items ∙ ap (map (λ w. cell.Int w)) is ∙ sym (held-words object object.start plain)

-- one more of what two lists tell alike
pub map-push : {A B C : Type 0} (f : A → C) (g : B → C) (xs : List A) (x : A) (ys : List B) (k : ℕ) (d : B) → map f xs ≡ map g (take k ys) → k < length ys → f x ≡ g (get_or ys k d)
    → map f (xs ++ x ∷ []) ≡ map g (take (k + 1) ys)
map-push {A} {B} {C} f g xs x ys k d h within e =
    map-append f xs (x ∷ [])
    ∙ ap (λ (zs : List C). zs ++ f x ∷ []) h
    ∙ ap (λ (z : C). map g (take k ys) ++ z ∷ []) e
    ∙ sym (map-append g (take k ys) (get_or ys k d ∷ []))
    ∙ rw add-one (ap (map g) (sym (take-suc ys k d within)))

pub cells_more : (objects : List Object) (i : ℕ) (object : Object) → i < length objects → object ≡ get_or objects i object → cells_in (drop i objects) ≡ object.cells + cells_in (drop (i + 1) objects)
cells_more objects i object within is =
    ap cells_in (drop_more objects i object within) ∙ ap (λ (o : Object). o.cells + cells_in (drop (i + 1) objects)) (sym is)

-- ---- a parameter that gets its words

module _ (es : List Entry) (l : Layout) (a : Argument) (words : List Node) (one : Node) (zeros : Zeros) (old new : List Held)
    (z : AreZeros es zeros) (o : IsOne es one) (lay : map (held_layout es) old ≡ l) (fit : All (HeldFits es l) old) (arg : ArgumentFits es l a words)
    (is : IsEntered a (take a.cells words) one zeros old new) where
  abbrev mid : List Held
  mid = set old a.object is.0

  one-layout : (h : Held) → Holds h (take a.cells words) → held_layout es h ≡ Some arg.widths
  one-layout (held.Words nodes) e = ap (λ (ns : List Node). Some (widths_at es ns)) e ∙ ap (λ (ws : List Width). Some ws) (widths-stand es arg.widths (take a.cells words) arg.stand)
  one-layout (held.Pointer p) e = absurd e

  one-fits : (h : Held) → Holds h (take a.cells words) → HeldFits es l h
  one-fits (held.Words nodes) e = subst (λ (ns : List Node). All (λ (n : Node). n.index < length es) ns) (sym e) (within-stand es arg.widths (take a.cells words) arg.stand)
  one-fits (held.Pointer p) e = absurd e

  one-held : (ins : List ℕ) (h : Held) → Holds h (take a.cells words) → cells_held es ins h ≡ words_in (take a.cells (worths es ins words))
  one-held ins (held.Words nodes) e =
      cells-worths es ins nodes.items ∙ ap (λ (ns : List Node). map (λ w. cell.Int w) (worths es ins ns)) e ∙ ap (map (λ w. cell.Int w)) (worths-slice es ins words 0 a.cells)
  one-held ins (held.Pointer p) e = absurd e

  known : get_or l a.object None ≡ Some arg.widths
  known = get_or_from_slice_get l a.object (Some arg.widths) None arg.object

  mid-layout : map (held_layout es) mid ≡ l
  mid-layout =
      map-set-alike (held_layout es) old a.object is.0 None (one-layout is.0 is.1 ∙ sym known ∙ ap (λ (m : Layout). get_or m a.object None) (sym lay)) ∙ lay

  mid-fits : All (HeldFits es l) mid
  mid-fits = All-set (HeldFits es l) old a.object is.0 fit (one-fits is.0 is.1)

  mid-held : (ins : List ℕ) → map (cells_held es ins) mid ≡ set (map (cells_held es ins) old) a.object (words_in (take a.cells (worths es ins words)))
  mid-held ins = map-set (cells_held es ins) old a.object is.0 ∙ ap (λ (cs : List Cell). set (map (cells_held es ins) old) a.object cs) (one-held ins is.0 is.1)

  module _ (place : Place) (p : Targets) (null : p.null ≡ zeros.w1) (list : p.list.items ≡ first_target one zeros place ∷ []) where
    abbrev t : Target
    t = first_target one zeros place

    its-aims : (ins : List ℕ) → aims es ins p.list.items ≡ aim es ins t ∷ []
    its-aims ins = ap (aims es ins) list

    its-target : All (IsTarget es) (t ∷ [])
    its-target zero d h = record { guard = o.stands; index = z.w64.stands }
    its-target (suc k) d h = absurd (omega (arith, h))

    is-pointer : IsPointer es p
    is-pointer = record {
      null = subst (λ (n : Node). Stands es W1 n) (sym null) z.w1.stands;
      targets = subst (λ (ts : List Target). All (IsTarget es) ts) (sym list) its-target;
      one = λ ins fits. omega (arith, ap (worth es ins) null, z.w1.zero ins fits, ap aims_there (its-aims ins), o.one ins fits);
    }

    lies : PlaceFits l a (Some place) → All (LiesIn l) (t ∷ [])
    lies f zero d h = (arg.widths, ap (λ (k : ℕ). get_or l k None) f.0 ∙ known, omega (arith, f.1, arg.cells))
    lies f (suc k) d h = absurd (omega (arith, h))

    its-cell : (ins : List ℕ) → InputsFit es ins → cells_held es ins (held.Pointer p) ≡ to_first place ∷ []
    its-cell ins fits =
        ap (λ (as' : List Aim). cell_of (aimed_at as') ∷ []) (its-aims ins)
        ∙ rw (o.one ins fits, z.w64.zero ins fits) refl

  after-layout : (q : Option Place) → PlaceFits l a q → PointerEnters one zeros a.parameter q mid new → map (held_layout es) new ≡ l
  after-layout None f e = ap (map (held_layout es)) e ∙ mid-layout
  after-layout (Some place) f e =
      ap (map (held_layout es)) e.3
      ∙ map-set-alike (held_layout es) mid a.parameter (held.Pointer e.0) None (sym (ap (λ (m : Layout). get_or m a.parameter None) mid-layout ∙ get_or_from_slice_get l a.parameter None None f.2))
      ∙ mid-layout

  after-fits : (q : Option Place) → PlaceFits l a q → PointerEnters one zeros a.parameter q mid new → All (HeldFits es l) new
  after-fits None f e = subst (λ (hs : List Held). All (HeldFits es l) hs) (sym e) mid-fits
  after-fits (Some place) f e =
      subst (λ (hs : List Held). All (HeldFits es l) hs) (sym e.3)
      (All-set (HeldFits es l) mid a.parameter (held.Pointer e.0) mid-fits
      (is-pointer place e.0 e.1 e.2, subst (λ (ts : List Target). All (LiesIn l) ts) (sym e.2) (lies place e.0 e.1 e.2 f)))

  after-held : (q : Option Place) → PointerEnters one zeros a.parameter q mid new → (ins : List ℕ) → InputsFit es ins
      → map (cells_held es ins) new ≡ with_pointer a.parameter q (set (map (cells_held es ins) old) a.object (words_in (take a.cells (worths es ins words))))
  after-held None e ins fits = ap (map (cells_held es ins)) e ∙ mid-held ins
  after-held (Some place) e ins fits =
      ap (map (cells_held es ins)) e.3
      ∙ map-set (cells_held es ins) mid a.parameter (held.Pointer e.0)
      ∙ ap (λ (cs : List Cell). set (map (cells_held es ins) mid) a.parameter cs) (its-cell place e.0 e.1 e.2 ins fits)
      ∙ ap (λ (cs : List (List Cell)). set cs a.parameter (to_first place ∷ [])) (mid-held ins)

  pub entered-layout : map (held_layout es) new ≡ l
  entered-layout = after-layout a.points_to arg.place is.2

  pub entered-fits : All (HeldFits es l) new
  entered-fits = after-fits a.points_to arg.place is.2

  pub entered-held : (ins : List ℕ) → InputsFit es ins → map (cells_held es ins) new ≡ with_argument a (worths es ins words) (map (cells_held es ins) old)
  entered-held ins fits = after-held a.points_to is.2 ins fits

-- ---- parameters one after another

pub enters-later : {region : ℕ} {old new : List Entry} (f : Extends region old new) (l : Layout) (as' : List Argument) (words : List Node) → Enters old l as' words → Enters new l as' words
enters-later f l [] words e = tt
enters-later f l (a ∷ more) words e = (
  record {
    widths = e.0.widths;
    object = e.0.object;
    cells = e.0.cells;
    stand = AllStand-later f e.0.widths (take a.cells words) e.0.stand;
    parameter = e.0.parameter;
    place = e.0.place;
  },
  enters-later f l more (drop a.cells words) e.1,
)

pub enters-next : (es : List Entry) (l : Layout) (as' : List Argument) (words : List Node) (i : ℕ) (d : Argument) → i < length as' → Enters es l (drop i as') words
    → ArgumentFits es l (get_or as' i d) words × Enters es l (drop (i + 1) as') (drop (get_or as' i d).cells words)
enters-next es l as' words i d within e = subst (λ (bs : List Argument). Enters es l bs words) (drop_more as' i d within) e

pub argument-within : (es : List Entry) (l : Layout) (hs : List Held) (a : Argument) (words : List Node) → map (held_layout es) hs ≡ l → ArgumentFits es l a words → (a.object < length hs) × (a.parameter < length hs)
argument-within es l hs a words lay f =
    let same : length l ≡ length hs = sym (ap (λ (m : Layout). length m) lay) ∙ length-map hs (held_layout es) in
    (omega (arith, slice_get_within l a.object (Some f.widths) f.object, same), omega (arith, slice_get_within l a.parameter f.parameter.0 f.parameter.1, same))

pub worths-drop : (es : List Entry) (ins : List ℕ) (ns : List Node) (k : ℕ) → worths es ins (drop k ns) ≡ drop k (worths es ins ns)
worths-drop es ins ns zero = refl
worths-drop es ins [] (suc k) = refl
worths-drop es ins (n ∷ ns) (suc k) = worths-drop es ins ns k

pub worths-kept : {region : ℕ} {old new : List Entry} (f : Extends region old new) (ins : List ℕ) (ns : List Node) → All (λ (n : Node). n.index < length old) ns → worths new ins ns ≡ worths old ins ns
worths-kept f ins [] h = refl
worths-kept {region} {old} {new} f ins (n ∷ ns) h =
    ap (λ (x : ℕ). x ∷ worths new ins ns) (worth-later f ins n (h zero n (omega arith))) ∙ ap (λ (xs : List ℕ). worth old ins n ∷ xs) (worths-kept f ins ns (λ k d j. h (suc k) d (omega arith)))

-- as a growth by so many nodes without gates
pub grown-of : {region : ℕ} {old new : List Entry} (f : Extends region old new) (n : ℕ) → length new ≤ length old + n → graph_size new ≤ graph_size old → Grows old new n 0
grown-of {region} {old} {new} f n few small = record {
  added = f.added;
  appended = f.appended;
  few_nodes = omega (arith, few, ap (λ (es : List Entry). length es) f.appended, length-append old f.added);
  few_gates = omega (arith, small);
}
