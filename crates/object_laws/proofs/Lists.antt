-- Lists of initializers fill arrays and structs (C11 6.7.9p11, p17, p21).
use Rattle.std.proofs.Common.{◌≡◌, ◌≤◌, ◌+◌, ◌-◌, ℕ, suc, nat_le, true, if◌then◌else◌, Option, None, Some, List, [], ◌∷◌, ◌++◌, drop, length, ap, sym, subst, ◌∙◌, refl, arith}
use Rattle.std.proofs.lemmas.Grind.{common_steps}
use Rattle.hy_bits.specs.declared.scalar.Scalar.{Scalar}
use Rattle.c_tree.specs.declared.token.Place.{Place}
use Rattle.c_meaning.specs.declared.types.CType.{CType, out-CType}
use Rattle.c_meaning.specs.declared.types.CType.TheOpen.{CType-F}
use Rattle.c_meaning.specs.declared.types.StructType.{StructType}
use Rattle.c_meaning.specs.Types.{scalars_of, struct_scalars}
use Rattle.c_conversions.specs.declared.fault.TypeKind.TheVariants.{Mismatch}
use Rattle.c_typing.specs.declared.environment.Environment.{Environment}
use Rattle.c_typing.specs.declared.values.TypedValue.{TypedValue}
use Rattle.c_typing.specs.Walks.{Breaks, Passes, after}
use Rattle.c_objects.specs.declared.initializers.Storage.{Storage}
use Rattle.c_objects.specs.Initializers.{Filled, with_zeros, next_dropped, layer_is_aggregate, is_aggregate, part_count, part_type, Filling, part_filled, parts_filled, zeros_from, aggregate_filled, single_filled, is_zero_list, list_filled}
use Rattle.typing_laws.specs.Values.{IsPlainType, layer_is_place}
use Rattle.typing_laws.specs.Passing.{Passing}
use Rattle.typing_laws.specs.Environments.{IsWellFormed}
use Rattle.typing_laws.proofs.Valued.{plain-out}
use Rattle.typing_laws.proofs.Unary.{plain-place}
use Rattle.expression_laws.specs.Keeping.{Each, Stays}
use Rattle.expression_laws.proofs.Steps.{passing-if, passing-weaker, stays-after}
use Rattle.object_laws.specs.Filling.{StartsIn, Fills, layer_fills, FillsType, KeepsFill}
use Rattle.object_laws.proofs.Prefixes.{prefix, prefix-none, part-is, rest-is}
use Rattle.object_laws.proofs.Composing.{fills-none, fills-both, fills-zeros}

drop-first : {A : Type 0} (xs ys : List A) → drop (length xs) (xs ++ ys) ≡ ys
drop-first [] ys = refl
drop-first (x ∷ xs) ys = drop-first xs ys

module _ (storage : Storage) (env : Environment) (well : IsWellFormed env) where
  abbrev structs : List StructType
  structs = env.structs

  abbrev scalars : CType → List Scalar
  scalars c = scalars_of (struct_scalars structs) c

  -- what fills a type without pointers
  fills-layer : (c : CType) (y : CType-F CType) (f g : Filled) → out-CType c ≡ y → IsPlainType structs c → layer_fills storage c y f env g → Fills storage env (scalars c) f g
  fills-layer c CType-F.Void f g e plain h = h
  fills-layer c (CType-F.Int t) f g e plain h = h
  fills-layer c (CType-F.Array count element) f g e plain h = h
  fills-layer c (CType-F.Struct number) f g e plain h = h
  fills-layer c (CType-F.Pointer q to) f g e plain h = absurd (cc (plain-out structs c (CType-F.Pointer q to) e, plain.0))

  layer-fills : (c : CType) (y : CType-F CType) (f g : Filled) → out-CType c ≡ y → IsPlainType structs c → Fills storage env (scalars c) f g → layer_fills storage c y f env g
  layer-fills c CType-F.Void f g e plain h = h
  layer-fills c (CType-F.Int t) f g e plain h = h
  layer-fills c (CType-F.Array count element) f g e plain h = h
  layer-fills c (CType-F.Struct number) f g e plain h = h
  layer-fills c (CType-F.Pointer q to) f g e plain h = absurd (cc (plain-out structs c (CType-F.Pointer q to) e, plain.0))

  aggregate-layer : (c : CType) (y : CType-F CType) → layer_is_place structs c y → layer_is_aggregate y ≡ true → IsPlainType structs c
  aggregate-layer c CType-F.Void h e = h
  aggregate-layer c (CType-F.Int t) h e = h
  aggregate-layer c (CType-F.Array count element) h e = h
  aggregate-layer c (CType-F.Struct number) h e = h
  aggregate-layer c (CType-F.Pointer q to) h e = absurd (cc)

  module _ (place : Place) (c : CType) (plain : IsPlainType structs c) (start : Filled) where
    abbrev pre : ℕ → List Scalar
    pre i = prefix structs well.structs c i

    abbrev Reached : ℕ → Environment → Filled → Type 0
    Reached n e g = Fills storage env (pre n) start g

    part-by : (part : Filling) (i : ℕ) (f : Filled) (o : Option CType) → part_type structs i c ≡ o → KeepsFill storage part.fill → Fills storage env (pre i) start f
        → Passing (Stays (Reached (suc i)) env) (part_filled place o part f env)
    part-by part i f None e h p = tt
    part-by part i f (Some d) e h p =
        let says = part-is structs well.structs c i d plain e in
        passing-weaker (Stays (FillsType storage d f) env) (Stays (Reached (suc i)) env) (part.fill d f env)
        (λ g new s. (
          s.0,
          subst (λ (ts : List Scalar). Fills storage env ts start g) (sym says.1)
              (fills-both storage env (pre i) (scalars d) start f g p (fills-layer d (out-CType d) f g refl says.0 s.1)),
        ))
        (h d f env well (plain-place structs d says.0) p.values)

    parts-passing : (parts : List Filling) (i n : ℕ) (f : Filled) → i + length parts ≡ n → Each (λ part. KeepsFill storage part.fill) parts → Fills storage env (pre i) start f
        → Passing (Stays (Reached n) env) (parts_filled place structs c i parts f env)
    parts-passing [] i n f e h p = let same : i ≡ n = omega (arith, e) in (refl, subst (λ (k : ℕ). Fills storage env (pre k) start f) same p)
    parts-passing (part ∷ parts) i n f e h p =
        let one : suc i ≡ i + 1 = omega arith in
        stays-after (Reached (suc i)) (Stays (Reached n) env) env (part_filled place (part_type structs i c) part f env) (λ filled env. parts_filled place structs c (i + 1) parts filled env)
        (part-by part i f (part_type structs i c) refl h.0 p)
        (λ g r. parts-passing parts (i + 1) n g (omega (arith, e)) h.1 (subst (λ (k : ℕ). Fills storage env (pre k) start g) one r))

    -- C11 6.7.9p21: the rest is zero
    zeros-after : (n : ℕ) (g : Filled) → is_aggregate c ≡ true → n ≤ part_count structs c → Fills storage env (pre n) start g → Fills storage env (scalars c) start (zeros_from structs c start.cell g)
    zeros-after n g some few p =
        let rest = rest-is structs well.structs c n plain.0 few some in
        let cells = p.cells in
        let long : g.cell - start.cell ≡ length (pre n) = omega (arith, cells) in
        let left : drop (g.cell - start.cell) (scalars c) ≡ rest.0 = ap (λ (k : ℕ). drop k (scalars c)) long ∙ ap (λ (ts : List Scalar). drop (length (pre n)) ts) rest.1 ∙ drop-first (pre n) rest.0 in
        subst (λ (ts : List Scalar). Fills storage env (scalars c) start (with_zeros ts g)) (sym left)
        (subst (λ (ts : List Scalar). Fills storage env ts start (with_zeros rest.0 g)) (sym rest.1)
        (fills-both storage env (pre n) rest.0 start g (with_zeros rest.0 g) p (fills-zeros storage env rest.0 g p.values)))

    aggregate-passing : (parts : List Filling) → is_aggregate c ≡ true → StartsIn storage env start.values → Each (λ part. KeepsFill storage part.fill) parts
        → Passing (Stays (λ e g. Fills storage env (scalars c) start g) env) (aggregate_filled place parts c start env)
    aggregate-passing parts some starts h =
        passing-if (Stays (λ e g. Fills storage env (scalars c) start g) env) (nat_le (length parts) (part_count structs c))
        (after (parts_filled place structs c 0 parts start env) (λ whole env. Passes (zeros_from env.structs c start.cell whole) env)) (Breaks Mismatch place)
        (λ few.
        let most : length parts ≤ part_count structs c = grind (arith, common_steps) in
        stays-after (Reached (length parts)) (Stays (λ e g. Fills storage env (scalars c) start g) env) env (parts_filled place structs c 0 parts start env)
        (λ whole env. Passes (zeros_from env.structs c start.cell whole) env)
        (parts-passing parts 0 (length parts) start (omega arith) h (subst (λ (ts : List Scalar). Fills storage env ts start start) (sym (prefix-none structs well.structs c)) (fills-none storage env start starts)))
        (λ g r. (refl, zeros-after (length parts) g some most r)))
        (λ e. tt)

    -- `{0}`
    dropped-fills : (values : List TypedValue) (ts : List Scalar) (g : Filled) → Fills storage env ts (next_dropped start values) g → Fills storage env ts start g
    dropped-fills [] ts g p = p
    dropped-fills (value ∷ values) ts g p = record { more = p.more; parts = p.parts; fill = p.fill; cells = p.cells; words = p.words; values = p.values }

    dropped-starts : (values : List TypedValue) → StartsIn storage env start.values → StartsIn storage env values → StartsIn storage env (next_dropped start values).values
    dropped-starts [] h k = h
    dropped-starts (value ∷ values) h k = k.1

    dropped-cell : (values : List TypedValue) → (next_dropped start values).cell ≡ start.cell
    dropped-cell [] = refl
    dropped-cell (value ∷ values) = refl

    zero-fills : StartsIn storage env start.values → Fills storage env (scalars c) start (zeros_from structs c start.cell (next_dropped start start.values))
    zero-fills starts =
        let first = next_dropped start start.values in
        let same = dropped-cell start.values in
        let none : first.cell - start.cell ≡ 0 = omega (arith, same) in
        let left : drop (first.cell - start.cell) (scalars c) ≡ scalars c = ap (λ (k : ℕ). drop k (scalars c)) none in
        subst (λ (ts : List Scalar). Fills storage env (scalars c) start (with_zeros ts first)) (sym left)
        (dropped-fills start.values (scalars c) (with_zeros (scalars c) first) (fills-zeros storage env (scalars c) first (dropped-starts start.values starts starts)))

  typed-fills : (place : Place) (c : CType) (f : Filled) (plain : IsPlainType structs c) (g : Filled) → Fills storage env (scalars c) f g → FillsType storage c f env g
  typed-fills place c f plain g h = layer-fills c (out-CType c) f g refl plain h

pub single-keeps : (storage : Storage) (place : Place) (parts : List Filling) → Each (λ part. KeepsFill storage part.fill) parts → KeepsFill storage (single_filled place parts)
single-keeps storage place [] h = λ c f env well p starts. tt
single-keeps storage place (part ∷ []) h = λ c f env well p starts.
    passing-if (Stays (FillsType storage c f) env) part.braced (Breaks Mismatch place) (part.fill c f env) (λ e. tt) (λ e. h.0 c f env well p starts)
single-keeps storage place (part ∷ next ∷ parts) h = λ c f env well p starts. tt

pub list-keeps : (storage : Storage) (place : Place) (parts : List Filling) → Each (λ part. KeepsFill storage part.fill) parts → KeepsFill storage (list_filled place parts)
list-keeps storage place parts h = λ c f env well p starts.
    passing-if (Stays (FillsType storage c f) env) (is_aggregate c)
    (if is_zero_list parts then Passes (zeros_from env.structs c f.cell (next_dropped f f.values)) env else aggregate_filled place parts c f env) (single_filled place parts c f env)
    (λ some.
    let plain = aggregate-layer storage env well c (out-CType c) p some in
    passing-if (Stays (FillsType storage c f) env) (is_zero_list parts) (Passes (zeros_from env.structs c f.cell (next_dropped f f.values)) env) (aggregate_filled place parts c f env)
    (λ e. (refl, typed-fills storage env well place c f plain _ (zero-fills storage env well place c plain f starts)))
    (λ e. passing-weaker (Stays (λ e g. Fills storage env (scalars_of (struct_scalars env.structs) c) f g) env) (Stays (FillsType storage c f) env) (aggregate_filled place parts c f env)
    (λ g new s. (s.0, typed-fills storage env well place c f plain g s.1)) (aggregate-passing storage env well place c plain f parts some starts h)))
    (λ e. single-keeps storage place parts h c f env well p starts)
