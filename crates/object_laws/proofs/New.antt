-- Objects that are new, and the words that they begin with (C11 6.7, 6.7.9p10).
use Rattle.std.proofs.Common.{◌≡◌, ◌⊎◌, inl, inr, ◌≤◌, ◌+◌, ◌++◌, ℕ, zero, suc, min, nat_le, true, Option, None, Some, List, [], ◌∷◌, length, replicate, slice_get, slice_set, ap, sym, subst, ◌∙◌, refl, arith}
use Rattle.std.proofs.lemmas.Grind.{common_steps}
use Rattle.hy_bits.specs.declared.scalar.Scalar.{Scalar}
use Rattle.hy_bits.specs.declared.scalar.Scalar.TheVariants.{S32}
use Rattle.hy_bits.specs.Scalar.{scalar_width}
use Rattle.hy_bits.specs.Words.{IsWord}
use Rattle.c_tree.specs.declared.expressions.Identifier.{Identifier}
use Rattle.c_tree.specs.declared.statements.Initialization.{Initialization}
use Rattle.c_meaning.specs.declared.types.CType.{CType, out-CType, map-CType}
use Rattle.c_meaning.specs.declared.types.CType.TheOpen.{CType-F}
use Rattle.c_meaning.specs.declared.types.CType.TheFolds.{fold_out-CType}
use Rattle.c_meaning.specs.declared.types.Object.{Object}
use Rattle.c_meaning.specs.declared.statements.Part.{Part}
use Rattle.c_meaning.specs.Types.{cells_of, layer_cells, struct_cells, scalars_of, struct_scalars}
use Rattle.c_meaning.specs.StatementRules.{StartWords, layer_start_words, WordsFit, PartsFill, StartFits, cells_in, most_cells}
use Rattle.c_conversions.specs.declared.fault.TypeKind.TheVariants.{Cells}
use Rattle.c_conversions.specs.CTypes.{counted_cells}
use Rattle.c_typing.specs.declared.environment.Entity.TheVariants as entity
use Rattle.c_typing.specs.declared.environment.Environment.{Environment}
use Rattle.c_typing.specs.declared.environment.QualifiedType.{QualifiedType}
use Rattle.c_typing.specs.Walks.{Breaks, Passes, after}
use Rattle.c_typing.specs.Specifiers.{with_entity}
use Rattle.c_objects.specs.declared.initializers.Storage.{Storage}
use Rattle.c_objects.specs.declared.initializers.Storage.TheVariants.{Static, Automatic}
use Rattle.c_objects.specs.Initializers.{initial_parts}
use Rattle.c_objects.specs.Objects.{object_of, counted_more, with_object, new_object, static_words, with_words, parts_where, started, declared_object}
use Rattle.cell_widths.proofs.CountLaws.{type_count, structs_count}
use Rattle.typing_laws.specs.Values.{IsPlainType, IsPlaceType, layer_is_place}
use Rattle.typing_laws.specs.Passing.{Passing, scope_of}
use Rattle.typing_laws.specs.Environments.{IsWellFormed, Extends}
use Rattle.typing_laws.proofs.Environments.{extends-refl, extends-trans, grows-refl}
use Rattle.typing_laws.proofs.Postfix.{passing-after}
use Rattle.expression_laws.specs.Keeping.{Grown}
use Rattle.expression_laws.proofs.Steps.{passing-if, grown-after}
use Rattle.constant_laws.proofs.Bounds.{two-most}
use Rattle.specifier_laws.proofs.Lists.{pushed, put}
use Rattle.object_laws.specs.Declaring.{start_spelled_where, IsShapedType, DeclaratorIn}
use Rattle.object_laws.proofs.Initial.{StartsAt, initial-keeps}
use Rattle.object_laws.proofs.Shaped.{shaped-place, place-few}

-- ---- lists

at-end : {A : Type 0} (xs : List A) (y : A) (zs : List A) → slice_get (xs ++ y ∷ zs) (length xs) ≡ Some y
at-end [] y zs = refl
at-end (x ∷ xs) y zs = at-end xs y zs

set-end : {A : Type 0} (xs : List A) (y z : A) (zs : List A) → slice_set (xs ++ y ∷ zs) (length xs) z ≡ xs ++ z ∷ zs
set-end [] y z zs = refl
set-end (x ∷ xs) y z zs = ap (λ us. x ∷ us) (set-end xs y z zs)

append-one : {A : Type 0} (xs : List A) (y : A) (zs : List A) → (xs ++ y ∷ []) ++ zs ≡ xs ++ y ∷ zs
append-one [] y zs = refl
append-one (x ∷ xs) y zs = ap (λ us. x ∷ us) (append-one xs y zs)

pub cells-more : (objects : List Object) (object : Object) → cells_in (objects ++ object ∷ []) ≡ cells_in objects + object.cells
cells-more [] object = omega arith
cells-more (first ∷ objects) object = let rest = cells-more objects object in omega (arith, rest)

cells-put : (objects : List Object) (k : ℕ) (old new : Object) → slice_get objects k ≡ Some old → old.cells ≡ new.cells → cells_in (slice_set objects k new) ≡ cells_in objects
cells-put [] k old new e h = absurd (cc)
cells-put (first ∷ objects) zero old new e h =
    let same : first ≡ old = cc in
    let is : first.cells ≡ new.cells = ap (λ (o : Object). o.cells) same ∙ h in
    omega (arith, is)
cells-put (first ∷ objects) (suc k) old new e h = let rest = cells-put objects k old new e h in omega (arith, rest)

pub counted-few : (most cells : ℕ) → cells ≤ most → min cells (most + 1) ≡ cells
counted-few most cells h = omega (arith, h)

pub counted-least : (most before cells : ℕ) → before + min cells (most + 1) ≤ most → cells ≤ most
counted-least most before cells h = omega (arith, h)

-- ---- a new object

module _ (name : Identifier) (q : QualifiedType) (env : Environment) where
  abbrev pub object : Object
  object = object_of name q (counted_cells env.structs q.ctype) None

  -- the next object, with few cells
  pub record IsNew (k : ℕ) (new : Environment) : Type 0 where
    pub extends : Extends env new
    pub well : IsWellFormed new
    pub number : k ≡ length env.objects
    pub objects : new.objects ≡ env.objects ++ object ∷ []

  module _ (well : IsWellFormed env) (shaped : IsShapedType env.structs q.ctype) (few : env.cells + counted_cells env.structs q.ctype ≤ most_cells) where
    abbrev named : Environment
    named = with_object object (with_entity name.text (entity.Object (length env.objects)) env)

    abbrev new : Environment
    new = record named { cells = env.cells + counted_cells env.structs q.ctype }

    abbrev cells : ℕ
    cells = cells_of (struct_cells env.structs) q.ctype

    few-cells : cells ≤ most_cells
    few-cells = counted-least most_cells env.cells cells few

    counted-is : counted_cells env.structs q.ctype ≡ cells
    counted-is = counted-few most_cells cells few-cells

    new-place : IsPlaceType env.structs q.ctype
    new-place = shaped-place env.structs q.ctype well.structs shaped few-cells

    place-by : (k : ℕ) (o : Object) → (slice_get env.objects k ≡ Some o) ⊎ (object ≡ o) → IsPlaceType env.structs o.ctype
    place-by k o (inl before) = well.objects k o before
    place-by k o (inr same) = subst (λ (x : Object). IsPlaceType env.structs x.ctype) same new-place

    start-by : (k : ℕ) (o : Object) → (slice_get env.objects k ≡ Some o) ⊎ (object ≡ o) → (o.cells ≡ cells_of (struct_cells env.structs) o.ctype) × StartWords env.structs o o.start
    start-by k o (inl before) = well.starts k o before
    start-by k o (inr same) = subst (λ (x : Object). (x.cells ≡ cells_of (struct_cells env.structs) x.ctype) × StartWords env.structs x x.start) same (counted-is, tt)

    enumerator-by : (k w : ℕ) → (slice_get env.entities k ≡ Some (entity.Enumerator w)) ⊎ (entity.Object (length env.objects) ≡ entity.Enumerator w) → IsWord (scalar_width S32) w
    enumerator-by k w (inl before) = well.enumerators k w before
    enumerator-by k w (inr same) = absurd (cc)

    new-is : IsNew (length env.objects) new
    new-is = record {
      extends = record {
        structs = grows-refl env.structs;
        objects = (object ∷ [], refl);
        functions = refl;
        typedefs = grows-refl env.typedefs;
        entities = (entity.Object (length env.objects) ∷ [], refl);
        names = (record { name = name.text; number = length env.entities } ∷ [], refl);
        opened = refl;
      };
      well = record {
        structs = well.structs;
        objects = λ k o e. place-by k o (pushed env.objects object k o e);
        typedefs = well.typedefs;
        functions = well.functions;
        tags = well.tags;
        starts = λ k o e. start-by k o (pushed env.objects object k o e);
        cells = let is = well.cells in let more = cells-more env.objects object in omega (arith, is, more);
        few = few;
        enumerators = λ k w e. enumerator-by k w (pushed env.entities (entity.Object (length env.objects)) k (entity.Enumerator w) e);
      };
      number = refl;
      objects = refl;
    }

  pub new-passing : IsWellFormed env → IsShapedType env.structs q.ctype → Passing IsNew (new_object name q env)
  new-passing well shaped =
      passing-after (λ _ new. IsNew (length env.objects) new) IsNew
      (counted_more name (counted_cells env.structs q.ctype) (with_object object (with_entity name.text (entity.Object (length env.objects)) env))) (λ _ env'. Passes (length env.objects) env')
      (passing-if (λ _ new. IsNew (length env.objects) new) (nat_le (env.cells + counted_cells env.structs q.ctype) most_cells) _ (Breaks Cells name.place)
      (λ e. let few : env.cells + counted_cells env.structs q.ctype ≤ most_cells = grind (arith, common_steps) in new-is well shaped few) (λ e. tt))
      (λ _ last h. h)

-- ---- what it begins with

-- the parts of an initializer, if there is one
abbrev pub StartWhere : Storage → CType → Environment → Option (List Part) → Type 0
StartWhere storage c env None = Unit {0}
StartWhere storage c env (Some parts) = StartsAt storage c env parts

where-keeps : (storage : Storage) (start : Option Initialization) (c : CType) → start_spelled_where start ≡ true
    → (env : Environment) → IsWellFormed env → IsPlaceType env.structs c → Passing (Grown (StartWhere storage c) env) (parts_where storage start c env)
where-keeps storage None c h env well typed = (extends-refl env, well, tt)
where-keeps storage (Some start) c h env well typed =
    grown-after (StartsAt storage c) (StartWhere storage c) env (initial_parts storage start.place start.value c env) (λ parts env. Passes (Some parts) env)
    (initial-keeps storage start.place start.value c h env well typed) (λ parts new g w s. (extends-refl new, w, s))

zeros-fit : (types : List Scalar) → WordsFit types (replicate (length types) 0)
zeros-fit [] = tt
zeros-fit (t ∷ types) = ((let two = two-most t in omega (arith, two)), zeros-fit types)

zeros-long : (n : ℕ) → length {A = ℕ} (replicate n 0) ≡ n
zeros-long zero = refl
zeros-long (suc n) = let rest = zeros-long n in omega (arith, rest)

module _ (env : Environment) (well : IsWellFormed env) (c : CType) where
  abbrev whole : ℕ
  whole = cells_of (struct_cells env.structs) c

  zeros-plain : IsPlainType env.structs c → WordsFit (scalars_of (struct_scalars env.structs) c) (replicate whole 0)
  zeros-plain h =
      let long = type_count (struct_scalars env.structs) (struct_cells env.structs) (length env.structs) (structs_count env.structs well.structs) c h.0 in
      subst (λ (n : ℕ). WordsFit (scalars_of (struct_scalars env.structs) c) (replicate n 0)) long (zeros-fit (scalars_of (struct_scalars env.structs) c))

  zeros-layer : (y : CType-F CType) → out-CType c ≡ y → layer_is_place env.structs c y → layer_start_words env.structs c y (replicate whole 0)
  zeros-layer CType-F.Void e h = zeros-plain h
  zeros-layer (CType-F.Int t) e h = zeros-plain h
  zeros-layer (CType-F.Array count element) e h = zeros-plain h
  zeros-layer (CType-F.Struct number) e h = zeros-plain h
  zeros-layer (CType-F.Pointer q to) e h =
      let one : whole ≡ 1 = fold_out-CType ℕ (layer_cells (struct_cells env.structs)) c ∙ ap (λ (z : CType-F CType). layer_cells (struct_cells env.structs) (map-CType CType ℕ (cells_of (struct_cells env.structs)) z)) e in
      ap (λ (n : ℕ). replicate n 0) one

  abbrev words : Option (List Part) → List ℕ
  words parts = static_words (counted_cells env.structs c) parts

  words-are : (parts : Option (List Part)) → IsPlaceType env.structs c → StartWhere Static c env parts → (length (words parts) ≡ whole) × layer_start_words env.structs c (out-CType c) (words parts)
  words-are None typed h =
      subst (λ (n : ℕ). (length {A = ℕ} (replicate n 0) ≡ whole) × layer_start_words env.structs c (out-CType c) (replicate n 0)) (sym (counted-few most_cells whole (place-few env.structs c typed)))
      (zeros-long whole, zeros-layer (out-CType c) refl typed)
  words-are (Some parts) typed h = h.1

module _ (name : Identifier) (q : QualifiedType) (old : Environment) (k : ℕ) (middle : Environment) (is : IsNew name q old k middle) (last : Environment) (g : Extends middle last) (well : IsWellFormed last) where
  abbrev first : Object
  first = object_of name q (counted_cells old.structs q.ctype) None

  list-is : last.objects ≡ old.objects ++ first ∷ g.objects.0
  list-is = g.objects.1 ∙ ap (λ (os : List Object). os ++ g.objects.0) is.objects ∙ append-one old.objects first g.objects.0

  found : slice_get last.objects k ≡ Some first
  found = subst (λ (os : List Object). slice_get os k ≡ Some first) (sym list-is) (subst (λ (n : ℕ). slice_get (old.objects ++ first ∷ g.objects.0) n ≡ Some first) (sym is.number) (at-end old.objects first g.objects.0))

  typed : IsPlaceType last.structs q.ctype
  typed = well.objects k first found

  automatic-fits : (parts : Option (List Part)) → StartWhere Automatic q.ctype last parts → StartFits (scope_of last) first parts
  automatic-fits None h = tt
  automatic-fits (Some parts) h = subst (λ (n : ℕ). PartsFill (scope_of last) 0 n parts) (sym (well.starts k first found).0) h.0

  module _ (parts : Option (List Part)) (h : StartWhere Static q.ctype last parts) where
    abbrev set : Object
    set = object_of name q (counted_cells last.structs q.ctype) (Some (static_words (counted_cells last.structs q.ctype) parts))

    abbrev final : Environment
    final = with_words name q k (static_words (counted_cells last.structs q.ctype) parts) last

    counted-last : counted_cells last.structs q.ctype ≡ cells_of (struct_cells last.structs) q.ctype
    counted-last = counted-few most_cells (cells_of (struct_cells last.structs) q.ctype) (place-few last.structs q.ctype typed)

    set-starts : (set.cells ≡ cells_of (struct_cells last.structs) set.ctype) × StartWords last.structs set set.start
    set-starts = let all = words-are last well q.ctype parts typed h in (counted-last, (all.0 ∙ sym counted-last, all.1))

    put-place : (j : ℕ) (o : Object) → (slice_get last.objects j ≡ Some o) ⊎ (set ≡ o) → IsPlaceType last.structs o.ctype
    put-place j o (inl before) = well.objects j o before
    put-place j o (inr same) = subst (λ (x : Object). IsPlaceType last.structs x.ctype) same typed

    put-start : (j : ℕ) (o : Object) → (slice_get last.objects j ≡ Some o) ⊎ (set ≡ o) → (o.cells ≡ cells_of (struct_cells last.structs) o.ctype) × StartWords last.structs o o.start
    put-start j o (inl before) = well.starts j o before
    put-start j o (inr same) = subst (λ (x : Object). (x.cells ≡ cells_of (struct_cells last.structs) x.ctype) × StartWords last.structs x x.start) same set-starts

    final-objects : final.objects ≡ old.objects ++ set ∷ g.objects.0
    final-objects =
        ap (λ (os : List Object). slice_set os k set) list-is ∙ ap (λ (n : ℕ). slice_set (old.objects ++ first ∷ g.objects.0) n set) is.number ∙ set-end old.objects first set g.objects.0

    final-extends : Extends old final
    final-extends =
        let all = extends-trans old middle last is.extends g in
        record {
          structs = all.structs;
          objects = (set ∷ g.objects.0, final-objects);
          functions = all.functions;
          typedefs = all.typedefs;
          entities = all.entities;
          names = all.names;
          opened = all.opened;
        }

    final-well : IsWellFormed final
    final-well = record {
      structs = well.structs;
      objects = λ j o e. put-place j o (put last.objects k set j o e);
      typedefs = well.typedefs;
      functions = well.functions;
      tags = well.tags;
      starts = λ j o e. put-start j o (put last.objects k set j o e);
      cells = well.cells ∙ sym (cells-put last.objects k first set found ((well.starts k first found).0 ∙ sym counted-last));
      few = well.few;
      enumerators = well.enumerators;
    }

  started-passing : (storage : Storage) (parts : Option (List Part)) → StartWhere storage q.ctype last parts → Passing (Grown (DeclaratorIn storage) old) (started storage name q k parts last)
  started-passing Automatic parts h = (extends-trans old middle last is.extends g, well, (first, found, refl, automatic-fits parts h))
  started-passing Static parts h = (final-extends parts h, final-well parts h, tt)

-- a declared object
pub object-passing : (storage : Storage) (name : Identifier) (start : Option Initialization) (q : QualifiedType) (env : Environment) → start_spelled_where start ≡ true → IsWellFormed env → IsShapedType env.structs q.ctype
    → Passing (Grown (DeclaratorIn storage) env) (declared_object storage name start q env)
object-passing storage name start q env h well shaped =
    passing-after (IsNew name q env) (Grown (DeclaratorIn storage) env) (new_object name q env) (λ k env. after (parts_where storage start q.ctype env) (λ parts env. started storage name q k parts env))
    (new-passing name q env well shaped)
    (λ k middle is. passing-after (Grown (StartWhere storage q.ctype) middle) (Grown (DeclaratorIn storage) env) (parts_where storage start q.ctype middle) (λ parts env. started storage name q k parts env)
    (where-keeps storage start q.ctype h middle is.well (typed name q env k middle is middle (extends-refl middle) is.well))
    (λ parts last p. started-passing name q env k middle is last p.0 p.1 storage parts p.2))
