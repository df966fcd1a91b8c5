-- Whole initializers: their values, in the order of the text, and the parts that they fill.
use Rattle.std.proofs.Common.{◌≡◌, ℕ, ◌++◌, ◌&&◌, Bool, true, false, List, [], ◌∷◌, map, length, ap, sym, subst, ◌∙◌, refl, arith}
use Rattle.hy_bits.specs.declared.scalar.Scalar.{Scalar}
use Rattle.c_tree.specs.Expressions.{has_some}
use Rattle.c_tree.specs.declared.token.Place.{Place}
use Rattle.c_tree.specs.declared.statements.Initializer.{Initializer, roll-Initializer, map-Initializer}
use Rattle.c_tree.specs.declared.statements.Initializer.TheOpen.{Initializer-F}
use Rattle.c_tree.specs.declared.statements.Initializer.TheFolds.{ind-Initializer, fold-roll-Initializer}
use Rattle.c_meaning.specs.declared.types.CType.{CType, out-CType, map-CType}
use Rattle.c_meaning.specs.declared.types.CType.TheFolds.{fold_out-CType}
use Rattle.c_meaning.specs.declared.types.Qualifier.{Qualifier}
use Rattle.c_meaning.specs.declared.types.CType.TheOpen.{CType-F}
use Rattle.c_meaning.specs.declared.statements.Part.{Part}
use Rattle.c_meaning.specs.Types.{cells_of, layer_cells, struct_cells, scalars_of, struct_scalars}
use Rattle.c_meaning.specs.StatementRules.{PartsFill, WordsFit, layer_start_words}
use Rattle.c_conversions.specs.declared.fault.TypeKind.TheVariants.{NotConstant}
use Rattle.c_typing.specs.declared.environment.Environment.{Environment}
use Rattle.c_typing.specs.declared.values.TypedValue.{TypedValue}
use Rattle.c_typing.specs.Walks.{Breaks, Passes, after}
use Rattle.c_typing.specs.Expressions.{ExprWalk, valued}
use Rattle.c_expressions.specs.Typing.{types_expr}
use Rattle.c_objects.specs.declared.initializers.Storage.{Storage}
use Rattle.c_objects.specs.declared.initializers.Storage.TheVariants.{Static, Automatic}
use Rattle.c_objects.specs.Initializers.{is_constant, start_value, ValuesWalk, value_walk, values_rule, values_of, Filled, nothing_filled, Filling, filling_rule, filling_of, initial_parts}
use Rattle.c_objects.specs.Objects.{static_word}
use Rattle.cell_widths.proofs.CountLaws.{type_count, structs_count}
use Rattle.typing_laws.specs.Values.{IsPlainType, IsPlaceType, layer_is_place}
use Rattle.typing_laws.specs.Passing.{Passing, scope_of}
use Rattle.typing_laws.specs.Environments.{IsWellFormed, Extends}
use Rattle.typing_laws.proofs.Environments.{extends-refl}
use Rattle.typing_laws.proofs.Valued.{plain-out}
use Rattle.expression_laws.specs.Keeping.{Each, Stays, Grown, KeepsExpr, ValueIn}
use Rattle.expression_laws.proofs.Steps.{passing-if, grown-in, grown-after, stays-after}
use Rattle.expression_laws.proofs.Weakened.{value-kept, place-type-kept}
use Rattle.expression_laws.proofs.Walked.{along-keeps, valued-keeps}
use Rattle.source_laws.specs.Spelled.{every}
use Rattle.source_laws.proofs.Sources.{expr-typed}
use Rattle.object_laws.specs.Filling.{start_spelled, is_spelled_start, StartIn, StartsIn, WordsWhere, Fills, FillsPointer, layer_fills, FillsType, KeepsFill, KeepsValues}
use Rattle.object_laws.proofs.Single.{next-passing}
use Rattle.object_laws.proofs.Lists.{list-keeps}

both : (a b : Bool) → (a && b) ≡ true → (a ≡ true) × (b ≡ true)
both true b h = (refl, h)
both false b h = absurd (cc)

-- ---- values

start-passing : (storage : Storage) (place : Place) (value : TypedValue) (env : Environment) → ValueIn env value → Passing (Stays (StartIn storage) env) (start_value storage place value env)
start-passing Automatic place value env h = (refl, (h, tt))
start-passing Static place value env h =
    passing-if (Stays (StartIn Static) env) (is_constant value) (Passes value env) (Breaks NotConstant place) (λ e. (refl, (h, e))) (λ e. tt)

starts-kept : (storage : Storage) (old new : Environment) → Extends old new → IsWellFormed old → (values : List TypedValue) → StartsIn storage old values → StartsIn storage new values
starts-kept storage old new g well [] h = tt
starts-kept storage old new g well (value ∷ values) h = ((value-kept old new g well value h.0.0, h.0.1), starts-kept storage old new g well values h.1)

starts-more : (storage : Storage) (env : Environment) (values : List TypedValue) (value : TypedValue) → StartsIn storage env values → StartIn storage env value → StartsIn storage env (values ++ value ∷ [])
starts-more storage env [] value h k = (k, tt)
starts-more storage env (first ∷ values) value h k = (h.0, starts-more storage env values value h.1 k)

value-walk-keeps : (storage : Storage) (e : ExprWalk) → KeepsExpr e → KeepsValues storage (value_walk storage e)
value-walk-keeps storage e h = λ values env well starts.
    grown-after ValueIn (StartsIn storage) env (valued e env) (λ value env. after (start_value storage e.place value env) (λ value env. Passes (values ++ value ∷ []) env)) (valued-keeps e h env well)
    (λ value new g w r. grown-after (StartIn storage) (StartsIn storage) new (start_value storage e.place value new) (λ value env. Passes (values ++ value ∷ []) env)
    (grown-in (StartIn storage) new (start_value storage e.place value new) w (start-passing storage e.place value new r))
    (λ v last k u s. (extends-refl last, u, starts-more storage last values v (starts-kept storage new last k w values (starts-kept storage env new g well values starts)) s)))

module _ (storage : Storage) where
  abbrev SpelledKeeps : Initializer → Type 0
  SpelledKeeps i = is_spelled_start i ≡ true → KeepsValues storage (values_of storage i)

  abbrev V : Type 0
  V = (i : Initializer) × SpelledKeeps i

  abbrev bare : Initializer-F V → Initializer-F Initializer
  bare = map-Initializer V Initializer (λ v. v.0)

  each-values : (ys : List V) → every (map is_spelled_start (map (λ v. v.0) ys)) ≡ true → Each (KeepsValues storage) (map (values_of storage) (map (λ v. v.0) ys))
  each-values [] h = tt
  each-values (y ∷ ys) h = let b = both (is_spelled_start y.0) (every (map is_spelled_start (map (λ v. v.0) ys))) h in (y.1 b.0, each-values ys b.1)

  values-by : (y : Initializer-F V) → start_spelled (map-Initializer Initializer Bool is_spelled_start (bare y)) ≡ true → KeepsValues storage (values_rule storage (map-Initializer Initializer ValuesWalk (values_of storage) (bare y)))
  values-by (Initializer-F.Expression e) h = value-walk-keeps storage (types_expr e) (expr-typed e h)
  values-by (Initializer-F.List place parts comma) h = along-keeps (StartsIn storage) (map (values_of storage) (map (λ v. v.0) parts)) (each-values parts (both (has_some (map is_spelled_start (map (λ v. v.0) parts))) (every (map is_spelled_start (map (λ v. v.0) parts))) h).1)

  values-node : (y : Initializer-F V) → SpelledKeeps (roll-Initializer (bare y))
  values-node y h =
      subst (KeepsValues storage) (sym (fold-roll-Initializer ValuesWalk (values_rule storage) (bare y))) (values-by y (sym (fold-roll-Initializer Bool start_spelled (bare y)) ∙ h))

  values-keep : (i : Initializer) → SpelledKeeps i
  values-keep = ind-Initializer SpelledKeeps (λ x y is. subst (λ (z : Initializer-F Initializer). SpelledKeeps (roll-Initializer z)) is (values-node y))

  -- ---- what they fill

  module _ (place : Place) where
    abbrev FillKeeps : Initializer → Type 0
    FillKeeps i = KeepsFill storage (filling_of place i).fill

    abbrev W : Type 0
    W = (i : Initializer) × FillKeeps i

    abbrev plain : Initializer-F W → Initializer-F Initializer
    plain = map-Initializer W Initializer (λ v. v.0)

    each-fills : (ys : List W) → Each (λ part. KeepsFill storage part.fill) (map (filling_of place) (map (λ v. v.0) ys))
    each-fills [] = tt
    each-fills (y ∷ ys) = (y.1, each-fills ys)

    fill-by : (y : Initializer-F W) → KeepsFill storage (filling_rule place (map-Initializer Initializer Filling (filling_of place) (plain y))).fill
    fill-by (Initializer-F.Expression e) = λ c f env well p starts. next-passing storage place c f env well f.values p starts
    fill-by (Initializer-F.List at parts comma) = list-keeps storage place (map (filling_of place) (map (λ v. v.0) parts)) (each-fills parts)

    fill-node : (y : Initializer-F W) → FillKeeps (roll-Initializer (plain y))
    fill-node y = subst (λ (f : Filling). KeepsFill storage f.fill) (sym (fold-roll-Initializer Filling (filling_rule place) (plain y))) (fill-by y)

    fill-keeps : (i : Initializer) → FillKeeps i
    fill-keeps = ind-Initializer FillKeeps (λ x y is. subst (λ (z : Initializer-F Initializer). FillKeeps (roll-Initializer z)) is (fill-node y))

-- ---- whole initializers

words-long : (types : List Scalar) (words : List ℕ) → WordsFit types words → length words ≡ length types
words-long [] [] h = refl
words-long [] (w ∷ words) h = absurd h
words-long (t ∷ types) [] h = absurd h
words-long (t ∷ types) (w ∷ words) h = let rest = words-long types words h.1 in omega (arith, rest)

-- the words of an object of file scope
abbrev pub words_start : Storage → Environment → CType → CType-F CType → List ℕ → Type 0
words_start Automatic env c y words = Unit {0}
words_start Static env c y words = (length words ≡ cells_of (struct_cells env.structs) c) × layer_start_words env.structs c y words

abbrev pub WordsStart : Storage → Environment → CType → List ℕ → Type 0
WordsStart storage env c words = words_start storage env c (out-CType c) words

-- parts that fill an object of the type from its first cell on
abbrev pub StartsAt : Storage → CType → Environment → List Part → Type 0
StartsAt storage c env parts = PartsFill (scope_of env) 0 (cells_of (struct_cells env.structs) c) parts × WordsStart storage env c (map static_word parts)

module _ (c : CType) (env : Environment) (well : IsWellFormed env) (values : List TypedValue) (g : Filled) where
  abbrev cells : ℕ
  cells = cells_of (struct_cells env.structs) c

  abbrev scalars : List Scalar
  scalars = scalars_of (struct_scalars env.structs) c

  long : IsPlainType env.structs c → length scalars ≡ cells
  long h = type_count (struct_scalars env.structs) (struct_cells env.structs) (length env.structs) (structs_count env.structs well.structs) c h.0

  plain-parts : (storage : Storage) → IsPlainType env.structs c → Fills storage env scalars (nothing_filled values) g → PartsFill (scope_of env) 0 cells g.parts × WordsWhere storage scalars (map static_word g.parts)
  plain-parts storage h p =
      let many = long h in
      let last = p.cells in
      let end : g.cell ≡ cells = omega (arith, many, last) in (
        subst (λ (parts : List Part). PartsFill (scope_of env) 0 cells parts) (sym p.parts) (subst (λ (n : ℕ). PartsFill (scope_of env) 0 n p.more) end p.fill),
        subst (λ (parts : List Part). WordsWhere storage scalars (map static_word parts)) (sym p.parts) p.words,
      )

  words-by : (storage : Storage) (y : CType-F CType) → IsPlainType env.structs c → WordsWhere storage scalars (map static_word g.parts) → (WordsFit scalars (map static_word g.parts) → layer_start_words env.structs c y (map static_word g.parts))
      → words_start storage env c y (map static_word g.parts)
  words-by Automatic y h w to = tt
  words-by Static y h w to = (words-long scalars (map static_word g.parts) w ∙ long h, to w)

  pointer-words : (storage : Storage) (q : Qualifier) (to : CType) → cells ≡ 1 → map static_word g.parts ≡ 0 ∷ [] → words_start storage env c (CType-F.Pointer q to) (map static_word g.parts)
  pointer-words Automatic q to one h = tt
  pointer-words Static q to one h = (ap (λ (ws : List ℕ). length ws) h ∙ sym one, h)

  pointer-parts : (storage : Storage) (q : Qualifier) (to : CType) → cells ≡ 1 → FillsPointer storage env (nothing_filled values) g
      → PartsFill (scope_of env) 0 cells g.parts × words_start storage env c (CType-F.Pointer q to) (map static_word g.parts)
  pointer-parts storage q to one p =
      let last = p.cells in
      let end : g.cell ≡ cells = omega (arith, one, last) in (
        subst (λ (parts : List Part). PartsFill (scope_of env) 0 cells parts) (sym p.parts) (subst (λ (n : ℕ). PartsFill (scope_of env) 0 n p.more) end p.fill),
        pointer-words storage q to one (ap (λ (parts : List Part). map static_word parts) p.parts ∙ p.words),
      )

  cells-out : (y : CType-F CType) → out-CType c ≡ y → cells ≡ layer_cells (struct_cells env.structs) (map-CType CType ℕ (cells_of (struct_cells env.structs)) y)
  cells-out y e = fold_out-CType ℕ (layer_cells (struct_cells env.structs)) c ∙ ap (λ (z : CType-F CType). layer_cells (struct_cells env.structs) (map-CType CType ℕ (cells_of (struct_cells env.structs)) z)) e

  starts-layer : (storage : Storage) (y : CType-F CType) → out-CType c ≡ y → layer_is_place env.structs c y → layer_fills storage c y (nothing_filled values) env g
      → PartsFill (scope_of env) 0 cells g.parts × words_start storage env c y (map static_word g.parts)
  starts-layer storage CType-F.Void e h p = absurd (cc (plain-out env.structs c CType-F.Void e, h.0))
  starts-layer storage (CType-F.Int t) e h p = let all = plain-parts storage h p in (all.0, words-by storage (CType-F.Int t) h all.1 (λ w. w))
  starts-layer storage (CType-F.Array count element) e h p = let all = plain-parts storage h p in (all.0, words-by storage (CType-F.Array count element) h all.1 (λ w. w))
  starts-layer storage (CType-F.Struct number) e h p = let all = plain-parts storage h p in (all.0, words-by storage (CType-F.Struct number) h all.1 (λ w. w))
  starts-layer storage (CType-F.Pointer q to) e h p = pointer-parts storage q to (cells-out (CType-F.Pointer q to) e) p

-- C11 6.7.9: an initializer fills its object
pub initial-keeps : (storage : Storage) (place : Place) (start : Initializer) (c : CType) → is_spelled_start start ≡ true
    → (env : Environment) → IsWellFormed env → IsPlaceType env.structs c → Passing (Grown (StartsAt storage c) env) (initial_parts storage place start c env)
initial-keeps storage place start c h env well typed =
    grown-after (StartsIn storage) (StartsAt storage c) env (values_of storage start [] env)
    (λ values env. after ((filling_of place start).fill c (nothing_filled values) env) (λ filled env. Passes filled.parts env))
    (values-keep storage start h [] env well tt)
    (λ values new g w starts. grown-in (StartsAt storage c) new (after ((filling_of place start).fill c (nothing_filled values) new) (λ filled env. Passes filled.parts env)) w
    (stays-after (FillsType storage c (nothing_filled values)) (Stays (StartsAt storage c) new) new ((filling_of place start).fill c (nothing_filled values) new) (λ filled env. Passes filled.parts env)
    (fill-keeps storage place start c (nothing_filled values) new w (place-type-kept env new g well c typed) starts)
    (λ filled p. (refl, starts-layer c new w values filled storage (out-CType c) refl (place-type-kept env new g well c typed) p))))
