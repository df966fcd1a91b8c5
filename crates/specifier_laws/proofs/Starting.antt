-- The integers in the cells of types that stand, their shapes, and the words that objects begin with, where more is declared.
use Rattle.std.proofs.Common.{◌≡◌, ◌<◌, ◌+◌, ◌++◌, nat_lt, ℕ, true, Bool, Option, None, Some, option_map, List, [], ◌∷◌, length, get_or, ap, sym, subst, ◌∙◌, refl, arith}
use Rattle.std.proofs.lemmas.List.{get_or_append_left, length-append}
use Rattle.std.proofs.lemmas.Grind.{common_steps}
use Rattle.hy_bits.specs.declared.scalar.Scalar.{Scalar}
use Rattle.hy_bits.specs.declared.shape.Shape.{Shape}
use Rattle.hy_bits.specs.declared.shape.Shape.TheVariants as shape
use Rattle.c_meaning.specs.declared.types.CType as C
use Rattle.c_meaning.specs.declared.types.CType.TheOpen.{CType-F}
use Rattle.c_meaning.specs.declared.types.CType.TheFolds.{ind-CType, fold-CType, fold-roll-CType}
use Rattle.c_meaning.specs.declared.types.Qualifier.{Qualifier}
use Rattle.c_meaning.specs.declared.types.Object.{Object}
use Rattle.c_meaning.specs.declared.types.StructType.{StructType}
use Rattle.c_meaning.specs.Types.{cells_of, struct_cells, layer_scalars, scalars_of, member_scalars, scalars_after, struct_scalars, layer_shape, shape_of, fields_of, shapes_after, struct_shapes}
use Rattle.c_meaning.specs.StatementRules.{StartWords, layer_start_words, WordsFit}
use Rattle.c_typing.specs.declared.environment.Environment.{Environment}
use Rattle.typing_laws.specs.Scopes.{Grows, is_standing, layer_stands}
use Rattle.typing_laws.specs.Values.{IsPlaceType}
use Rattle.typing_laws.specs.Passing.{scope_of}
use Rattle.typing_laws.specs.Environments.{IsWellFormed, Extends}
use Rattle.typing_laws.proofs.Environments.{scope-grows, grows-refl}
use Rattle.typing_laws.proofs.Growth.{cells-kept}
use Rattle.expression_laws.proofs.Weakened.{place-stands, scope-stands}

-- ---- what is told of a type by its structs, one layer after another

module _ (A : Type 0) (layer : List A → CType-F A → A) (none : A) (old new : List A) (below : ℕ)
    (void : layer new CType-F.Void ≡ layer old CType-F.Void)
    (int : (t : Scalar) → layer new (CType-F.Int t) ≡ layer old (CType-F.Int t))
    (array : (count : ℕ) (a : A) → layer new (CType-F.Array count a) ≡ layer old (CType-F.Array count a))
    (struct : (k : ℕ) → k < below → layer new (CType-F.Struct k) ≡ layer old (CType-F.Struct k))
    (pointer : (q : Qualifier) (a : A) → layer new (CType-F.Pointer q a) ≡ layer old (CType-F.Pointer q a)) where
  abbrev Same : C.CType → Type 0
  Same c = is_standing below c ≡ true → fold-CType A (layer new) c ≡ fold-CType A (layer old) c

  rolled : (xs : List A) (y : CType-F C.CType) → fold-CType A (layer xs) (C.roll-CType y) ≡ layer xs (C.map-CType C.CType A (fold-CType A (layer xs)) y)
  rolled xs y = fold-roll-CType A (layer xs) y

  stands : (y : CType-F C.CType) → is_standing below (C.roll-CType y) ≡ layer_stands below (C.map-CType C.CType Bool (is_standing below) y)
  stands y = fold-roll-CType Bool (layer_stands below) y

  of-array : (count : ℕ) (element : C.CType) → Same element → Same (C.roll-CType (CType-F.Array count element))
  of-array count element same h =
      rolled new (CType-F.Array count element) ∙ array count (fold-CType A (layer new) element)
      ∙ ap (λ (a : A). layer old (CType-F.Array count a)) (same (sym (stands (CType-F.Array count element)) ∙ h)) ∙ sym (rolled old (CType-F.Array count element))

  of-pointer : (q : Qualifier) (to : C.CType) → Same to → Same (C.roll-CType (CType-F.Pointer q to))
  of-pointer q to same h =
      rolled new (CType-F.Pointer q to) ∙ pointer q (fold-CType A (layer new) to)
      ∙ ap (λ (a : A). layer old (CType-F.Pointer q a)) (same (sym (stands (CType-F.Pointer q to)) ∙ h)) ∙ sym (rolled old (CType-F.Pointer q to))

  of-struct : (number : ℕ) → Same (C.roll-CType (CType-F.Struct number))
  of-struct number h =
      let all : nat_lt number below ≡ true = sym (stands (CType-F.Struct number)) ∙ h in
      let within : number < below = grind (arith, common_steps) in
      rolled new (CType-F.Struct number) ∙ struct number within ∙ sym (rolled old (CType-F.Struct number))

  of-layer : (X : Type 0) (of : X → C.CType) → ((x : X) → Same (of x)) → (y : CType-F X) → Same (C.roll-CType (C.map-CType X C.CType of y))
  of-layer X of same CType-F.Void = λ h. rolled new CType-F.Void ∙ void ∙ sym (rolled old CType-F.Void)
  of-layer X of same (CType-F.Int t) = λ h. rolled new (CType-F.Int t) ∙ int t ∙ sym (rolled old (CType-F.Int t))
  of-layer X of same (CType-F.Array count element) = of-array count (of element) (same element)
  of-layer X of same (CType-F.Struct number) = of-struct number
  of-layer X of same (CType-F.Pointer q to) = of-pointer q (of to) (same to)

  told-alike : (c : C.CType) → is_standing below c ≡ true → fold-CType A (layer new) c ≡ fold-CType A (layer old) c
  told-alike = ind-CType Same (λ x y is. subst (λ z. Same (C.roll-CType z)) is (of-layer _ (λ e. e.0) (λ e. e.1) y))

-- ---- integers

more-twice : {A : Type 0} (xs : List A) (y : A) (zs : List A) → (xs ++ y ∷ []) ++ zs ≡ xs ++ y ∷ zs
more-twice [] y zs = refl
more-twice (x ∷ xs) y zs = ap (λ us. x ∷ us) (more-twice xs y zs)

scalars-grow : (before : List (List Scalar)) (structs : List StructType) → Grows before (scalars_after before structs)
scalars-grow before [] = grows-refl before
scalars-grow before (s ∷ structs) =
    let first = member_scalars before s.members in
    let rest = scalars-grow (before ++ first ∷ []) structs in
    (first ∷ rest.0, rest.1 ∙ more-twice before first rest.0)

scalars-more : (before : List (List Scalar)) (xs ys : List StructType) → scalars_after before (xs ++ ys) ≡ scalars_after (scalars_after before xs) ys
scalars-more before [] ys = refl
scalars-more before (x ∷ xs) ys = scalars-more (before ++ member_scalars before x.members ∷ []) xs ys

scalars-long : (before : List (List Scalar)) (structs : List StructType) → length (scalars_after before structs) ≡ length before + length structs
scalars-long before [] = omega arith
scalars-long before (s ∷ structs) =
    let one = length-append before (member_scalars before s.members ∷ []) in
    let rest = scalars-long (before ++ member_scalars before s.members ∷ []) structs in
    omega (arith, one, rest)

-- ---- shapes

shapes-grow : (before : List (Option Shape)) (structs : List StructType) → Grows before (shapes_after before structs)
shapes-grow before [] = grows-refl before
shapes-grow before (s ∷ structs) =
    let first = option_map shape.Struct (fields_of before s.members) in
    let rest = shapes-grow (before ++ first ∷ []) structs in
    (first ∷ rest.0, rest.1 ∙ more-twice before first rest.0)

shapes-more : (before : List (Option Shape)) (xs ys : List StructType) → shapes_after before (xs ++ ys) ≡ shapes_after (shapes_after before xs) ys
shapes-more before [] ys = refl
shapes-more before (x ∷ xs) ys = shapes-more (before ++ option_map shape.Struct (fields_of before x.members) ∷ []) xs ys

shapes-long : (before : List (Option Shape)) (structs : List StructType) → length (shapes_after before structs) ≡ length before + length structs
shapes-long before [] = omega arith
shapes-long before (s ∷ structs) =
    let one = length-append before (option_map shape.Struct (fields_of before s.members) ∷ []) in
    let rest = shapes-long (before ++ option_map shape.Struct (fields_of before s.members) ∷ []) structs in
    omega (arith, one, rest)

looked-up : {A : Type 0} (none : A) (old new : List A) (g : Grows old new) (k : ℕ) → k < length old → get_or new k none ≡ get_or old k none
looked-up {A} none old new g k h = ap (λ (xs : List A). get_or xs k none) g.1 ∙ get_or_append_left old g.0 none k h

module _ (old new : List StructType) (g : Grows old new) where
  all-scalars : Grows (struct_scalars old) (struct_scalars new)
  all-scalars =
      let rest = scalars-grow (struct_scalars old) g.0 in
      (rest.0, ap (λ (ss : List StructType). struct_scalars ss) g.1 ∙ scalars-more [] old g.0 ∙ rest.1)

  pub scalars-kept : (c : C.CType) → is_standing (length old) c ≡ true → scalars_of (struct_scalars new) c ≡ scalars_of (struct_scalars old) c
  scalars-kept =
      told-alike (List Scalar) layer_scalars [] (struct_scalars old) (struct_scalars new) (length old) refl (λ t. refl) (λ count a. refl)
      (λ k h. looked-up [] (struct_scalars old) (struct_scalars new) all-scalars k (let long = scalars-long [] old in omega (arith, long, h))) (λ q a. refl)

  all-shapes : Grows (struct_shapes old) (struct_shapes new)
  all-shapes =
      let rest = shapes-grow (struct_shapes old) g.0 in
      (rest.0, ap (λ (ss : List StructType). struct_shapes ss) g.1 ∙ shapes-more [] old g.0 ∙ rest.1)

  pub shapes-kept : (c : C.CType) → is_standing (length old) c ≡ true → shape_of (struct_shapes new) c ≡ shape_of (struct_shapes old) c
  shapes-kept =
      told-alike (Option Shape) layer_shape None (struct_shapes old) (struct_shapes new) (length old) refl (λ t. refl) (λ count a. refl)
      (λ k h. looked-up None (struct_shapes old) (struct_shapes new) all-shapes k (let long = shapes-long [] old in omega (arith, long, h))) (λ q a. refl)

-- ---- objects

module _ (old new : Environment) (g : Extends old new) (well : IsWellFormed old) where
  words-layer : (c : C.CType) (y : CType-F C.CType) (words : List ℕ) → is_standing (length old.structs) c ≡ true → layer_start_words old.structs c y words → layer_start_words new.structs c y words
  words-layer c (CType-F.Pointer q to) words stands h = h
  words-layer c CType-F.Void words stands h = subst (λ (ts : List Scalar). WordsFit ts words) (sym (scalars-kept old.structs new.structs g.structs c stands)) h
  words-layer c (CType-F.Int t) words stands h = subst (λ (ts : List Scalar). WordsFit ts words) (sym (scalars-kept old.structs new.structs g.structs c stands)) h
  words-layer c (CType-F.Array count element) words stands h = subst (λ (ts : List Scalar). WordsFit ts words) (sym (scalars-kept old.structs new.structs g.structs c stands)) h
  words-layer c (CType-F.Struct number) words stands h = subst (λ (ts : List Scalar). WordsFit ts words) (sym (scalars-kept old.structs new.structs g.structs c stands)) h

  words-kept : (object : Object) (start : Option (List ℕ)) → is_standing (length old.structs) object.ctype ≡ true → StartWords old.structs object start → StartWords new.structs object start
  words-kept object None stands h = h
  words-kept object (Some words) stands h = (h.0, words-layer object.ctype (C.out-CType object.ctype) words stands h.1)

  pub start-kept : (object : Object) → IsPlaceType old.structs object.ctype → (object.cells ≡ cells_of (struct_cells old.structs) object.ctype) × StartWords old.structs object object.start
      → (object.cells ≡ cells_of (struct_cells new.structs) object.ctype) × StartWords new.structs object object.start
  start-kept object place h =
      let stands = place-stands old.structs object.ctype place in (
        h.0 ∙ sym (cells-kept (scope_of old) (scope_of new) (scope-grows old new g) (scope-stands old well) object.ctype stands),
        words-kept object object.start stands h.1,
      )
