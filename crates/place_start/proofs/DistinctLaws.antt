-- The inputs of a typed program are no more than its cells: each parameter has its words in an object of its own.
use Rattle.std.proofs.Common.{◌≡◌, ℕ, zero, suc, ◌+◌, ◌≤◌, ◌<◌, List, [], ◌∷◌, ◌++◌, Bool, true, false, Option, None, Some, option_map, length, map, get_or, set, slice_get, length-append, refl, sym, ap, ◌∙◌, subst, arith}
use Rattle.std.specs.Prelude.{◌≢◌}
use Rattle.std.specs.List.{Contains, flat_map}
use Rattle.std.proofs.lemmas.List.{get_or-set_other}
use Rattle.std.proofs.lemmas.Option.{get_or_from_slice_get, slice_get-map}
use Rattle.hy_bits.specs.declared.shape.Port.{Port}
use Rattle.hy_bits.specs.declared.width.Width.{Width}
use Rattle.c_meaning.specs.declared.types.CType as C
use Rattle.c_meaning.specs.declared.types.CType.TheVariants as ctype
use Rattle.c_meaning.specs.declared.types.CType.TheOpen.{CType-F}
use Rattle.c_meaning.specs.declared.types.Object.{Object}
use Rattle.c_meaning.specs.declared.types.StructType.{StructType}
use Rattle.c_meaning.specs.declared.types.ValueKind.{ValueKind}
use Rattle.c_meaning.specs.declared.types.ValueKind.TheVariants as kind
use Rattle.c_meaning.specs.declared.programs.TypedFunction.{TypedFunction}
use Rattle.c_meaning.specs.declared.typed.TypedParts.{TypedParts}
use Rattle.c_meaning.specs.SizeFolds.{is_pointer}
use Rattle.c_meaning.specs.StatementRules.{AreNames, AreParameters, FunctionsFit, IsTyped, ObjectsFit, PointsToArray, PortsFit, StructsFit, cells_in}
use Rattle.c_meaning.specs.Types.{kind_of, layer_kind, struct_cells}
use Rattle.place_start.specs.declared.arguments.Argument.{Argument}
use Rattle.place_start.specs.Starts.{argument_in_array, argument_of, function_params, main_arguments, main_params, main_widths, words_widths}
use Rattle.place_start.proofs.TypedLaws.{AllPlaced, array-tag, argument-is, layer_tag, pointer-kind, program-placed, tag}

-- ---- numbers at distinct places

abbrev sizes_sum : List ℕ → ℕ
sizes_sum [] = 0
sizes_sum (n ∷ ns) = n + sizes_sum ns

abbrev drawn : List ℕ → List ℕ → ℕ
drawn [] sizes = 0
drawn (k ∷ ks) sizes = get_or sizes k 0 + drawn ks sizes

abbrev Misses : ℕ → List ℕ → Type 0
Misses k [] = Unit {0}
Misses k (j ∷ js) = (j ≢ k) × Misses k js

abbrev Distinct : List ℕ → Type 0
Distinct [] = Unit {0}
Distinct (k ∷ ks) = Misses k ks × Distinct ks

taken-out : (sizes : List ℕ) (k : ℕ) → sizes_sum sizes ≡ get_or sizes k 0 + sizes_sum (set sizes k 0)
taken-out [] k = refl
taken-out (n ∷ ns) zero = omega arith
taken-out (n ∷ ns) (suc k) = omega (arith, taken-out ns k)

drawn-others : (ks sizes : List ℕ) (k : ℕ) → Misses k ks → drawn ks (set sizes k 0) ≡ drawn ks sizes
drawn-others [] sizes k m = refl
drawn-others (j ∷ js) sizes k m = omega (arith, get_or-set_other sizes k j 0 0 m.0, drawn-others js sizes k m.1)

drawn-within : (ks sizes : List ℕ) → Distinct ks → drawn ks sizes ≤ sizes_sum sizes
drawn-within [] sizes d = omega arith
drawn-within (k ∷ ks) sizes d = omega (arith, taken-out sizes k, drawn-others ks sizes k d.0, drawn-within ks (set sizes k 0) d.1)

-- ---- the objects of parameters' words

cells-sum : (objects : List Object) → cells_in objects ≡ sizes_sum (map (λ o. o.cells) objects)
cells-sum [] = refl
cells-sum (o ∷ os) = omega (arith, cells-sum os)

contains-later : {A : Type 0} (x y : A) (xs : List A) → Contains xs y → Contains (x ∷ xs) y
contains-later x y xs c = (suc c.0, omega (arith, c.1), c.2)

contains-first : {A : Type 0} (x y : A) (xs : List A) → x ≡ y → Contains (x ∷ xs) y
contains-first x y xs e = (zero, omega arith, e)

void-array : (y : CType-F C.CType) → layer_tag (C.map-CType C.CType ℕ tag y) ≡ 1 → layer_kind y ≡ kind.Void
void-array CType-F.Void h = absurd (cc)
void-array (CType-F.Int t) h = absurd (cc)
void-array (CType-F.Array count element) h = refl
void-array (CType-F.Struct number) h = absurd (cc)
void-array (CType-F.Pointer qualifier to) h = absurd (cc)

array-void : (array : Object) (count : ℕ) (element : C.CType) → array.ctype ≡ ctype.Array count element → kind_of array.ctype ≡ kind.Void
array-void array count element e = void-array (C.out-CType array.ctype) (array-tag array.ctype count element e)

module _ (structs : List StructType) (fit : StructsFit (struct_cells structs) 0 structs) (objects : List Object) (all : ObjectsFit structs objects) where
  abbrev place : ℕ → ℕ
  place k = (argument_of (struct_cells structs) objects k).object

  -- what is known of a parameter
  abbrev Known : ℕ → Object → Type 0
  Known k o = (slice_get objects k ≡ Some o) × (kind_of o.ctype ≢ kind.Void) × PointsToArray objects k o

  plain-place : (k : ℕ) (o : Object) → Known k o → is_pointer (kind_of o.ctype) ≡ false → place k ≡ k
  plain-place k o known p = ap (λ (a : Argument). a.object) (argument-is structs fit objects all k o false known.0 p)

  array-place : (k : ℕ) (o : Object) → Known k o → is_pointer (kind_of o.ctype) ≡ true → (array : Object) × (place k ≡ k + 1) × (slice_get objects (k + 1) ≡ Some array) × (kind_of array.ctype ≡ kind.Void)
  array-place k o known p =
      let q = known.2 (pointer-kind (kind_of o.ctype) p) in
      (q.0, ap (λ (a : Argument). a.object) (argument-is structs fit objects all k o true known.0 p) ∙ ap (λ (x : Option Object). (argument_in_array (struct_cells structs) k x).object) q.3, q.3, array-void q.0 q.1 q.2 q.4)

  same-object : (i j : ℕ) (a b : Object) → slice_get objects i ≡ Some a → slice_get objects j ≡ Some b → i ≡ j → a ≡ b
  same-object i j a b e f h = let g : slice_get objects i ≡ Some b = ap (slice_get objects) h ∙ f in cc (e, g)

  apart : (k j : ℕ) (o q : Object) → Known k o → Known j q → (o.name ≡ q.name → ⊥) → (b d : Bool) → is_pointer (kind_of o.ctype) ≡ b → is_pointer (kind_of q.ctype) ≡ d → place j ≢ place k
  apart k j o q m n names false false p r = λ e.
      let same : j ≡ k = sym (plain-place j q n r) ∙ e ∙ plain-place k o m p in
      names (ap (λ (x : Object). x.name) (same-object k j o q m.0 n.0 (sym same)))
  apart k j o q m n names false true p r = λ e.
      let array = array-place j q n r in
      let same : k ≡ j + 1 = sym (plain-place k o m p) ∙ sym e ∙ array.1 in
      m.1 (ap (λ (x : Object). kind_of x.ctype) (same-object k (j + 1) o array.0 m.0 array.2 same) ∙ array.3)
  apart k j o q m n names true false p r = λ e.
      let array = array-place k o m p in
      let same : j ≡ k + 1 = sym (plain-place j q n r) ∙ e ∙ array.1 in
      n.1 (ap (λ (x : Object). kind_of x.ctype) (same-object j (k + 1) q array.0 n.0 array.2 same) ∙ array.3)
  apart k j o q m n names true true p r = λ e.
      let both : j + 1 ≡ k + 1 = sym (array-place j q n r).1 ∙ e ∙ (array-place k o m p).1 in
      let same : k ≡ j = omega (arith, both) in
      names (ap (λ (x : Object). x.name) (same-object k j o q m.0 n.0 same))

  known-parameter : (k : ℕ) (o q : Object) → slice_get objects k ≡ Some o → slice_get objects k ≡ Some q → kind_of q.ctype ≢ kind.Void → PointsToArray objects k o → Known k o
  known-parameter k o q e f h points = (e, subst (λ (x : Object). kind_of x.ctype ≢ kind.Void) (same-object k k q o f e refl) h, points)

  misses : (k : ℕ) (o : Object) → Known k o → (ks : List ℕ) (ports : List Port) → PortsFit structs objects ks ports → AreParameters objects ks → (Contains (map (λ port. port.name) ports) o.name → ⊥) → Misses (place k) (map place ks)
  misses k o m [] ports h a absent = tt
  misses k o m (j ∷ js) [] h a absent = absurd h
  misses k o m (j ∷ js) (port ∷ ports) h a absent =
      let q = h.0.0 in
      let n = known-parameter j q a.0.0 h.0.1 a.0.1 a.0.3 h.0.5 in (
        apart k j o q m n (λ e. absent (contains-first port.name o.name (map (λ port. port.name) ports) (sym h.0.2 ∙ sym e))) (is_pointer (kind_of o.ctype)) (is_pointer (kind_of q.ctype)) refl refl,
        misses k o m js ports h.1 a.1 (λ c. absent (contains-later port.name o.name (map (λ port. port.name) ports) c)),
      )

  distinct : (ks : List ℕ) (ports : List Port) → PortsFit structs objects ks ports → AreParameters objects ks → AreNames (map (λ port. port.name) ports) → Distinct (map place ks)
  distinct [] ports h a names = tt
  distinct (k ∷ ks) [] h a names = absurd h
  distinct (k ∷ ks) (port ∷ ports) h a names =
      let o = h.0.0 in
      let m = known-parameter k o a.0.0 h.0.1 a.0.1 a.0.3 h.0.5 in
      (misses k o m ks ports h.1 a.1 (λ c. names.1 (subst (λ (n : List ℕ). Contains (map (λ port. port.name) ports) n) h.0.2 c)), distinct ks ports h.1 a.1 names.2)

  -- the words of parameters are the cells of their objects
  widths-drawn : (ks : List ℕ) → AllPlaced structs fit objects all ks → length (flat_map (words_widths structs objects) (map (argument_of (struct_cells structs) objects) ks)) ≡ drawn (map place ks) (map (λ o. o.cells) objects)
  widths-drawn [] h = refl
  widths-drawn (k ∷ ks) h =
      let a = argument_of (struct_cells structs) objects k in
      let o = h.0.held in
      let at : slice_get (map (λ (x : Object). x.cells) objects) a.object ≡ Some o.0.cells = slice_get-map (λ (x : Object). x.cells) objects a.object ∙ ap (option_map (λ (x : Object). x.cells)) o.1 in
      omega (
        arith,
        length-append (words_widths structs objects a) (flat_map (words_widths structs objects) (map (argument_of (struct_cells structs) objects) ks)),
        h.0.cells,
        o.2,
        get_or_from_slice_get (map (λ (x : Object). x.cells) objects) a.object o.0.cells 0 at,
        widths-drawn ks h.1,
      )

parameters-of : (structs : List StructType) (objects : List Object) (before fs : List TypedFunction) (i : ℕ) (f : TypedFunction) → FunctionsFit structs objects before fs → slice_get fs i ≡ Some f → AreParameters objects f.params
parameters-of structs objects before [] i f h e = absurd (cc)
parameters-of structs objects before (g ∷ gs) zero f h e = let same : g ≡ f = cc in subst (λ (x : TypedFunction). AreParameters objects x.params) same h.0.params
parameters-of structs objects before (g ∷ gs) (suc i) f h e = parameters-of structs objects (before ++ g ∷ []) gs i f h.1 e

module _ (p : TypedParts) (typed : IsTyped p) where
  program-distinct : Distinct (map (place p.structs typed.structs p.objects typed.objects) (main_params p))
  program-distinct =
      let main = typed.main in
      let params = parameters-of p.structs p.objects [] p.functions p.main_function main.0 typed.functions main.1 in
      subst (λ (f : Option TypedFunction). Distinct (map (place p.structs typed.structs p.objects typed.objects) (function_params f))) (sym main.1)
      (distinct p.structs typed.structs p.objects typed.objects main.0.params p.ports main.2 params typed.names)

  -- the inputs are no more than the cells
  pub inputs-few : length (main_widths p) ≤ p.cells
  inputs-few =
      omega (
        arith,
        widths-drawn p.structs typed.structs p.objects typed.objects (main_params p) (program-placed p typed),
        drawn-within (map (place p.structs typed.structs p.objects typed.objects) (main_params p)) (map (λ (o : Object). o.cells) p.objects) program-distinct,
        cells-sum p.objects,
        typed.cells,
      )
