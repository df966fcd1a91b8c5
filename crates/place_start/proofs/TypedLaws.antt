-- What the rules of types say of the objects of a typed program and of the parameters of its `mpc_main`.
use Rattle.std.proofs.Common.{◌≡◌, ℕ, zero, suc, ◌+◌, ◌*◌, ◌^◌, ◌≤◌, ◌<◌, List, [], ◌∷◌, ◌++◌, Bool, true, false, if◌then◌else◌, Option, None, Some, option_map, length, map, take, drop, get_or, slice_get, replicate, set, length-append, refl, sym, ap, ◌∙◌, subst, arith}
use Rattle.std.specs.List.{All, flat_map}
use Rattle.std.proofs.lemmas.List.{length-map}
use Rattle.std.proofs.Math.Seq.{take-append_seam}
use Rattle.std.proofs.lemmas.Option.{slice_get-map}
use Rattle.hy_bits.specs.declared.scalar.Scalar.{Scalar}
use Rattle.hy_bits.specs.declared.width.Width.{Width}
use Rattle.hy_bits.specs.declared.width.Width.TheVariants.{W1}
use Rattle.hy_bits.specs.Scalar.{scalar_width}
use Rattle.hy_bits.specs.Words.{IsWord}
use Rattle.hy_bits.proofs.WordLaws.{modulus_pos}
use Rattle.hy_bits.specs.declared.shape.Port.{Port}
use Rattle.word_graph.specs.declared.entry.Entry.{Entry}
use Rattle.word_graph.specs.declared.entry.Node.{Node}
use Rattle.word_nodes.specs.Nodes.{AllStand}
use Rattle.word_nodes.proofs.NodeLaws.{AllStand-drop, AllStand-take}
use Rattle.node_lists.specs.Lists.{AreWords, HasWords}
use Rattle.c_meaning.specs.declared.types.CType as C
use Rattle.c_meaning.specs.declared.types.CType.TheVariants as ctype
use Rattle.c_meaning.specs.declared.types.CType.TheOpen.{CType-F}
use Rattle.c_meaning.specs.declared.types.CType.TheFolds.{fold-CType, fold-roll-CType, fold_out-CType}
use Rattle.c_meaning.specs.declared.types.Object.{Object}
use Rattle.c_meaning.specs.declared.types.StructType.{StructType}
use Rattle.c_meaning.specs.declared.types.ValueKind.{ValueKind}
use Rattle.c_meaning.specs.declared.types.ValueKind.TheVariants as kind
use Rattle.c_meaning.specs.declared.programs.TypedFunction.{TypedFunction}
use Rattle.c_meaning.specs.declared.typed.TypedParts.{TypedParts}
use Rattle.c_meaning.specs.declared.values.Cell.{Cell}
use Rattle.c_meaning.specs.declared.values.Cell.TheVariants as cell
use Rattle.c_meaning.specs.Programs.{layer_row, row_of, start_cell, start_cells, words_in}
use Rattle.c_meaning.specs.SizeFolds.{is_pointer}
use Rattle.c_meaning.specs.StatementRules.{IsObject, IsTyped, ObjectsFit, PointsToArray, PortsFit, StartWords, StructsFit, WordsFit, is_plain, layer_is_object, layer_start_words}
use Rattle.c_meaning.specs.Types.{cells_of, kind_of, layer_cells, layer_kind, scalars_of, struct_cells, struct_scalars}
use Rattle.cell_widths.specs.Widths.{widths_of}
use Rattle.cell_widths.proofs.CountLaws.{widths_count}
use Rattle.c_place.specs.Boards.{Layout}
use Rattle.place_start.specs.declared.arguments.Argument.{Argument}
use Rattle.place_start.specs.Starts.{argument_in, argument_in_array, argument_of, array_argument, function_params, known_widths, main_arguments, main_params, main_widths, object_layout, place_in, program_layout, settled, start_held, with_argument, with_arguments, with_pointer, words_widths}
use Rattle.place_start.specs.Begins.{ArgumentFits, Enters, PlaceFits, StartsWell, start_words}

-- ---- words of objects

words-more : (t : Scalar) (ts : List Scalar) (w : ℕ) (ws : List ℕ) → IsWord (scalar_width t) w → HasWords (map scalar_width ts) ws → HasWords (map scalar_width (t ∷ ts)) (w ∷ ws)
words-more t ts w ws f rest zero h = (omega arith, f)
words-more t ts w ws f rest (suc k) h = let r = rest k (omega (arith, h)) in (omega (arith, r.0), r.1)

pub fitting-words : (ts : List Scalar) (ws : List ℕ) → WordsFit ts ws → AreWords (map scalar_width ts) ws
fitting-words [] [] f = (refl, λ k h. absurd (omega (arith, h)))
fitting-words [] (w ∷ ws) f = absurd f
fitting-words (t ∷ ts) [] f = absurd f
fitting-words (t ∷ ts) (w ∷ ws) f =
    let rest = fitting-words ts ws f.1 in
    (ap (λ (n : ℕ). suc n) rest.0, words-more t ts w ws f.0 rest.1)

abbrev zeros : ℕ → List ℕ
zeros n = replicate n 0

zeros-at : (n k : ℕ) → get_or (zeros n) k 0 ≡ 0
zeros-at zero k = refl
zeros-at (suc n) zero = refl
zeros-at (suc n) (suc k) = zeros-at n k

length-zeros : (n : ℕ) → length (zeros n) ≡ n
length-zeros zero = refl
length-zeros (suc n) = ap (λ (m : ℕ). suc m) (length-zeros n)

zero-words : (ws : List Width) (n : ℕ) → length ws ≡ n → AreWords ws (zeros n)
zero-words ws n e = (length-zeros n ∙ sym e, λ k h. (omega (arith, h, e, length-zeros n), subst (λ (x : ℕ). IsWord (get_or ws k W1) x) (sym (zeros-at n k)) (modulus_pos (get_or ws k W1))))

-- ---- types of objects

plain-type : (n : ℕ) (c : C.CType) (y : CType-F C.CType) → is_pointer (layer_kind y) ≡ false → layer_is_object n c y ≡ true → is_plain n c ≡ true
plain-type n c CType-F.Void p h = h
plain-type n c (CType-F.Int t) p h = h
plain-type n c (CType-F.Array count element) p h = h
plain-type n c (CType-F.Struct number) p h = h
plain-type n c (CType-F.Pointer qualifier to) p h = absurd (cc)

plain-words : (structs : List StructType) (c : C.CType) (y : CType-F C.CType) (ws : List ℕ) → is_pointer (layer_kind y) ≡ false → layer_start_words structs c y ws → WordsFit (scalars_of (struct_scalars structs) c) ws
plain-words structs c CType-F.Void ws p h = h
plain-words structs c (CType-F.Int t) ws p h = h
plain-words structs c (CType-F.Array count element) ws p h = h
plain-words structs c (CType-F.Struct number) ws p h = h
plain-words structs c (CType-F.Pointer qualifier to) ws p h = absurd (cc)

pointer-words : (structs : List StructType) (c : C.CType) (y : CType-F C.CType) (ws : List ℕ) → is_pointer (layer_kind y) ≡ true → layer_start_words structs c y ws → ws ≡ 0 ∷ []
pointer-words structs c CType-F.Void ws p h = absurd (cc)
pointer-words structs c (CType-F.Int t) ws p h = absurd (cc)
pointer-words structs c (CType-F.Array count element) ws p h = absurd (cc)
pointer-words structs c (CType-F.Struct number) ws p h = absurd (cc)
pointer-words structs c (CType-F.Pointer qualifier to) ws p h = h

pointer-cell : (cells : List ℕ) (y : CType-F C.CType) → is_pointer (layer_kind y) ≡ true → layer_cells cells (C.map-CType C.CType ℕ (cells_of cells) y) ≡ 1
pointer-cell cells CType-F.Void p = absurd (cc)
pointer-cell cells (CType-F.Int t) p = absurd (cc)
pointer-cell cells (CType-F.Array count element) p = absurd (cc)
pointer-cell cells (CType-F.Struct number) p = absurd (cc)
pointer-cell cells (CType-F.Pointer qualifier to) p = refl

pub pointer-kind : (k : ValueKind) → is_pointer k ≡ true → k ≡ kind.Pointer
pointer-kind kind.Void p = absurd (cc)
pointer-kind (kind.Integer t) p = absurd (cc)
pointer-kind kind.Pointer p = refl
pointer-kind (kind.Struct number) p = absurd (cc)

module _ (structs : List StructType) (fit : StructsFit (struct_cells structs) 0 structs) (object : Object) (is : IsObject structs object) where
  pub object-cells : is_pointer (kind_of object.ctype) ≡ false → length (widths_of structs object.ctype) ≡ object.cells
  object-cells p = widths_count structs fit object.ctype (plain-type (length structs) object.ctype (C.out-CType object.ctype) p is.typed) ∙ sym is.cells

  object-words : (start : Option (List ℕ)) → object.start ≡ start → is_pointer (kind_of object.ctype) ≡ false → AreWords (widths_of structs object.ctype) (start_words object.cells start)
  object-words None e p = zero-words (widths_of structs object.ctype) object.cells (object-cells p)
  object-words (Some ws) e p =
      let start = subst (λ (s : Option (List ℕ)). StartWords structs object s) e is.start in
      fitting-words (scalars_of (struct_scalars structs) object.ctype) ws (plain-words structs object.ctype (C.out-CType object.ctype) ws p start.1)

  pointer-held : (start : Option (List ℕ)) → object.start ≡ start → is_pointer (kind_of object.ctype) ≡ true → map (settled (kind_of object.ctype)) (start_cells object start) ≡ cell.Null ∷ []
  pointer-held None e p =
      let one : object.cells ≡ 1 = is.cells ∙ fold_out-CType ℕ (layer_cells (struct_cells structs)) object.ctype ∙ pointer-cell (struct_cells structs) (C.out-CType object.ctype) p in
      ap (λ (k : ValueKind). map (settled k) (replicate object.cells cell.Unset)) (pointer-kind (kind_of object.ctype) p)
      ∙ ap (λ (n : ℕ). map (settled kind.Pointer) (replicate n cell.Unset)) one
  pointer-held (Some ws) e p =
      let start = subst (λ (s : Option (List ℕ)). StartWords structs object s) e is.start in
      let word : ws ≡ 0 ∷ [] = pointer-words structs object.ctype (C.out-CType object.ctype) ws p start.1 in
      ap (λ (k : ValueKind). map (settled k) (map (start_cell k) ws)) (pointer-kind (kind_of object.ctype) p)
      ∙ ap (λ (us : List ℕ). map (settled kind.Pointer) (map (start_cell kind.Pointer) us)) word

  pub object-starts : StartsWell structs object
  object-starts = record {
    words = object-words object.start refl;
    cells = object-cells;
    pointer = pointer-held object.start refl;
  }

pub objects-start : (structs : List StructType) → StructsFit (struct_cells structs) 0 structs → (objects : List Object) → ObjectsFit structs objects → All (StartsWell structs) objects
objects-start structs fit [] h k d j = absurd (omega (arith, j))
objects-start structs fit (object ∷ objects) h zero d j = object-starts structs fit object h.0
objects-start structs fit (object ∷ objects) h (suc k) d j = objects-start structs fit objects h.1 k d (omega (arith, j))

object-fits : (structs : List StructType) (objects : List Object) (k : ℕ) (object : Object) → ObjectsFit structs objects → slice_get objects k ≡ Some object → IsObject structs object
object-fits structs [] k object h e = absurd (cc)
object-fits structs (first ∷ objects) zero object h e = let same : first ≡ object = cc in subst (λ (o : Object). IsObject structs o) same h.0
object-fits structs (first ∷ objects) (suc k) object h e = object-fits structs objects k object h.1 e

-- ---- parameters

-- the object of the words has their widths, and what is pointed to lies in it
pub record WellPlaced (structs : List StructType) (objects : List Object) (a : Argument) : Type 0 where
  pub object : slice_get (map (object_layout structs) objects) a.object ≡ Some (Some (words_widths structs objects a))
  pub cells : length (words_widths structs objects a) ≡ a.cells
  pub parameter : (o : Option (List Width)) × (slice_get (map (object_layout structs) objects) a.parameter ≡ Some o)
  pub place : PlaceFits (map (object_layout structs) objects) a a.points_to
  pub held : (o : Object) × (slice_get objects a.object ≡ Some o) × (o.cells ≡ a.cells)

layout-at : (structs : List StructType) (objects : List Object) (k : ℕ) (object : Object) → slice_get objects k ≡ Some object → slice_get (map (object_layout structs) objects) k ≡ Some (object_layout structs object)
layout-at structs objects k object e = slice_get-map (object_layout structs) objects k ∙ ap (option_map (object_layout structs)) e

plain-layout : (structs : List StructType) (objects : List Object) (k : ℕ) (object : Object) → slice_get objects k ≡ Some object → is_pointer (kind_of object.ctype) ≡ false
    → slice_get (map (object_layout structs) objects) k ≡ Some (Some (known_widths structs (slice_get objects k)))
plain-layout structs objects k object e p =
    layout-at structs objects k object e ∙ ap (λ (b : Bool). Some (if b then None else Some (widths_of structs object.ctype))) p
    ∙ ap (λ (o : Option Object). Some (Some (known_widths structs o))) (sym e)

more-sum : (c m : ℕ) → suc c + m ≡ suc (c + m)
more-sum c m = omega arith

take-of-take : {A : Type 0} (c m : ℕ) (xs : List A) → take c (take (c + m) xs) ≡ take c xs
take-of-take zero m xs = refl
take-of-take {A} (suc c) m [] = ap (λ (n : ℕ). take (suc c) (take {A = A} n [])) (more-sum c m)
take-of-take {A} (suc c) m (x ∷ xs) = ap (λ (n : ℕ). take (suc c) (take n (x ∷ xs))) (more-sum c m) ∙ ap (λ (ys : List A). x ∷ ys) (take-of-take c m xs)

take-none : {A : Type 0} (m : ℕ) → [] ≡ take {A = A} m []
take-none zero = refl
take-none (suc m) = refl

drop-of-take : {A : Type 0} (c m : ℕ) (xs : List A) → drop c (take (c + m) xs) ≡ take m (drop c xs)
drop-of-take {A} zero m xs = ap (λ (n : ℕ). take n xs) (omega arith)
drop-of-take {A} (suc c) m [] = ap (λ (n : ℕ). drop (suc c) (take {A = A} n [])) (more-sum c m) ∙ take-none m
drop-of-take {A} (suc c) m (x ∷ xs) = ap (λ (n : ℕ). drop (suc c) (take n (x ∷ xs))) (more-sum c m) ∙ drop-of-take c m xs

drop-append_seam : {A : Type 0} (xs ys : List A) → drop (length xs) (xs ++ ys) ≡ ys
drop-append_seam [] ys = refl
drop-append_seam (x ∷ xs) ys = drop-append_seam xs ys

AllStand-split : (es : List Entry) (vs ws : List Width) (ns : List Node) (c : ℕ) → length vs ≡ c → AllStand es (vs ++ ws) ns → AllStand es vs (take c ns) × AllStand es ws (drop c ns)
AllStand-split es vs ws ns c e s = (
  subst (λ (us : List Width). AllStand es us (take c ns)) (ap (λ (n : ℕ). take n (vs ++ ws)) (sym e) ∙ take-append_seam vs ws) (AllStand-take es c (vs ++ ws) ns s),
  subst (λ (us : List Width). AllStand es us (drop c ns)) (ap (λ (n : ℕ). drop n (vs ++ ws)) (sym e) ∙ drop-append_seam vs ws) (AllStand-drop es c (vs ++ ws) ns s),
)

-- whether it is an array
abbrev pub layer_tag : CType-F ℕ → ℕ
layer_tag (CType-F.Array count element) = 1
layer_tag other = 0

abbrev pub tag : C.CType → ℕ
tag = fold-CType ℕ layer_tag

pub array-tag : (c : C.CType) (count : ℕ) (element : C.CType) → c ≡ ctype.Array count element → layer_tag (C.map-CType C.CType ℕ tag (C.out-CType c)) ≡ 1
array-tag c count element e = sym (fold_out-CType ℕ layer_tag c) ∙ ap tag (e ∙ sym (ctype.rolls-Array count element)) ∙ fold-roll-CType ℕ layer_tag (CType-F.Array count element)

array-row : (cells : List ℕ) (y : CType-F C.CType) → layer_tag (C.map-CType C.CType ℕ tag y) ≡ 1
    → ((layer_row cells y).count * (layer_row cells y).size ≡ layer_cells cells (C.map-CType C.CType ℕ (cells_of cells) y)) × (is_pointer (layer_kind y) ≡ false)
array-row cells CType-F.Void h = absurd (cc)
array-row cells (CType-F.Int t) h = absurd (cc)
array-row cells (CType-F.Array count element) h = (refl, refl)
array-row cells (CType-F.Struct number) h = absurd (cc)
array-row cells (CType-F.Pointer qualifier to) h = absurd (cc)

module _ (structs : List StructType) (fit : StructsFit (struct_cells structs) 0 structs) (objects : List Object) (all : ObjectsFit structs objects) where
  abbrev pub cells : List ℕ
  cells = struct_cells structs

  abbrev pub Placed : Argument → Type 0
  Placed a = WellPlaced structs objects a

  plain-placed : (k : ℕ) (object : Object) → slice_get objects k ≡ Some object → is_pointer (kind_of object.ctype) ≡ false → Placed (record { parameter = k; object = k; cells = object.cells; points_to = None })
  plain-placed k object e p = record {
    object = plain-layout structs objects k object e p;
    cells = ap (λ (o : Option Object). length (known_widths structs o)) e ∙ object-cells structs fit object (object-fits structs objects k object all e) p;
    parameter = (Some (known_widths structs (slice_get objects k)), plain-layout structs objects k object e p);
    place = tt;
    held = (object, e, refl);
  }

  array-placed : (k : ℕ) (object array : Object) (count : ℕ) (element : C.CType) → slice_get objects k ≡ Some object → is_pointer (kind_of object.ctype) ≡ true → slice_get objects (k + 1) ≡ Some array → array.ctype ≡ ctype.Array count element
      → Placed (record { parameter = k; object = k + 1; cells = array.cells; points_to = Some (place_in (k + 1) (row_of cells array.ctype)) })
  array-placed k object array count element e p f t =
      let is = object-fits structs objects (k + 1) array all f in
      let row = array-row cells (C.out-CType array.ctype) (array-tag array.ctype count element t) in
      let no : is_pointer (kind_of array.ctype) ≡ false = row.1 in
      let room : (row_of cells array.ctype).count * (row_of cells array.ctype).size ≡ array.cells = row.0 ∙ sym (fold_out-CType ℕ (layer_cells cells) array.ctype) ∙ sym is.cells in
      record {
        object = plain-layout structs objects (k + 1) array f no;
        cells = ap (λ (o : Option Object). length (known_widths structs o)) f ∙ object-cells structs fit array is no;
        parameter = (object_layout structs object, layout-at structs objects k object e);
        place = (refl, omega (arith, room), layout-at structs objects k object e ∙ ap (λ (b : Bool). Some (if b then None else Some (widths_of structs object.ctype))) p);
        held = (array, f, refl);
      }

  pub argument-is : (k : ℕ) (object : Object) (b : Bool) → slice_get objects k ≡ Some object → is_pointer (kind_of object.ctype) ≡ b
      → argument_of cells objects k ≡ (if b then array_argument cells objects k else record { parameter = k; object = k; cells = object.cells; points_to = None })
  argument-is k object b e p =
      ap (argument_in cells objects k) e
      ∙ ap (λ (x : Bool). if x then array_argument cells objects k else record { parameter = k; object = k; cells = object.cells; points_to = None }) p

  parameter-placed : (k : ℕ) (object : Object) (b : Bool) → slice_get objects k ≡ Some object → is_pointer (kind_of object.ctype) ≡ b → PointsToArray objects k object → Placed (argument_of cells objects k)
  parameter-placed k object false e p points = subst Placed (sym (argument-is k object false e p)) (plain-placed k object e p)
  parameter-placed k object true e p points =
      let q = points (pointer-kind (kind_of object.ctype) p) in
      let is : array_argument cells objects k ≡ record { parameter = k; object = k + 1; cells = q.0.cells; points_to = Some (place_in (k + 1) (row_of cells q.0.ctype)) } =
      ap (argument_in_array cells k) q.3 in
      subst Placed (sym (argument-is k object true e p ∙ is)) (array-placed k object q.0 q.1 q.2 e p q.3 q.4)

  abbrev pub AllPlaced : List ℕ → Type 0
  AllPlaced [] = Unit {0}
  AllPlaced (k ∷ ks) = Placed (argument_of cells objects k) × AllPlaced ks

  pub parameters-placed : (ks : List ℕ) (ports : List Port) → PortsFit structs objects ks ports → AllPlaced ks
  parameters-placed [] ports h = tt
  parameters-placed (k ∷ ks) [] h = absurd h
  parameters-placed (k ∷ ks) (port ∷ ports) h = (parameter-placed k h.0.0 (is_pointer (kind_of h.0.0.ctype)) h.0.1 refl h.0.5, parameters-placed ks ports h.1)

  abbrev arguments : List ℕ → List Argument
  arguments ks = map (argument_of cells objects) ks

  abbrev widths : List ℕ → List Width
  widths ks = flat_map (words_widths structs objects) (arguments ks)

  pub parameters-enter : (es : List Entry) (ks : List ℕ) (words : List Node) → AllPlaced ks → AllStand es (widths ks) words → Enters es (map (object_layout structs) objects) (arguments ks) words
  parameters-enter es [] words h s = tt
  parameters-enter es (k ∷ ks) words h s =
      let a = argument_of cells objects k in
      let parts = AllStand-split es (words_widths structs objects a) (widths ks) words a.cells h.0.cells s in (
        record {
          widths = words_widths structs objects a;
          object = h.0.object;
          cells = h.0.cells;
          stand = parts.0;
          parameter = h.0.parameter;
          place = h.0.place;
        },
        parameters-enter es ks (drop a.cells words) h.1 parts.1,
      )

  -- words after those of the parameters change nothing
  pub parameters-words : (ks : List ℕ) (ins : List ℕ) (held : List (List Cell)) → AllPlaced ks → with_arguments (arguments ks) (take (length (widths ks)) ins) held ≡ with_arguments (arguments ks) ins held
  parameters-words [] ins held h = refl
  parameters-words (k ∷ ks) ins held h =
      let a = argument_of cells objects k in
      let m = length (widths ks) in
      let n : length (widths (k ∷ ks)) ≡ a.cells + m = length-append (words_widths structs objects a) (widths ks) ∙ ap (λ (i : ℕ). i + m) h.0.cells in
      ap (λ (i : ℕ). with_arguments (arguments ks) (drop a.cells (take i ins)) (with_argument a (take i ins) held)) n
      ∙ ap (λ (ws : List ℕ). with_arguments (arguments ks) ws (with_argument a (take (a.cells + m) ins) held)) (drop-of-take a.cells m ins)
      ∙ ap (λ (ws : List ℕ). with_arguments (arguments ks) (take m (drop a.cells ins)) (with_pointer a.parameter a.points_to (set held a.object (words_in ws)))) (take-of-take a.cells m ins)
      ∙ parameters-words ks (drop a.cells ins) (with_argument a ins held) h.1

-- ---- the program

module _ (p : TypedParts) (typed : IsTyped p) where
  pub program-starts : All (StartsWell p.structs) p.objects
  program-starts = objects-start p.structs typed.structs p.objects typed.objects

  pub program-placed : AllPlaced p.structs typed.structs p.objects typed.objects (main_params p)
  program-placed =
      subst (λ (main : Option TypedFunction). AllPlaced p.structs typed.structs p.objects typed.objects (function_params main)) (sym typed.main.1)
      (parameters-placed p.structs typed.structs p.objects typed.objects typed.main.0.params p.ports typed.main.2)

  pub program-enters : (es : List Entry) (words : List Node) → AllStand es (main_widths p) words → Enters es (program_layout p) (main_arguments p) words
  program-enters es words s = parameters-enter p.structs typed.structs p.objects typed.objects es (main_params p) words program-placed s

  pub program-words : (ins : List ℕ) (held : List (List Cell)) → with_arguments (main_arguments p) (take (length (main_widths p)) ins) held ≡ with_arguments (main_arguments p) ins held
  program-words ins held = parameters-words p.structs typed.structs p.objects typed.objects (main_params p) ins held program-placed
