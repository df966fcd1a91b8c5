-- Initializers and declared objects (C11 6.7, 6.7.9), walked and scanned side by side.
use Rattle.std.proofs.Common.{◌≡◌, ◌+◌, ◌-◌, ◌++◌, ◌&&◌, ℕ, Bool, true, false, nat_le, if◌then◌else◌, Option, None, Some, option_map, List, [], ◌∷◌, map, drop, length, ap, sym, subst, ◌∙◌, refl}
use Rattle.hy_bits.specs.declared.scalar.Scalar.{Scalar}
use Rattle.c_tree.specs.Expressions.{has_some}
use Rattle.c_tree.specs.declared.token.Place.{Place}
use Rattle.c_tree.specs.declared.expressions.Identifier.{Identifier}
use Rattle.c_tree.specs.declared.expressions.Expr.{Expr}
use Rattle.c_tree.specs.declared.expressions.Dimension.{Dimension}
use Rattle.c_tree.specs.declared.expressions.Suffix.{Suffix}
use Rattle.c_tree.specs.declared.expressions.TagSpecifier.{TagSpecifier}
use Rattle.c_tree.specs.declared.expressions.TypeSpecifier.{TypeSpecifier}
use Rattle.c_tree.specs.declared.expressions.Enumerator.{Enumerator}
use Rattle.c_tree.specs.declared.expressions.Operand.{Operand}
use Rattle.c_tree.specs.declared.expressions.Specifiers.{Specifiers}
use Rattle.c_tree.specs.declared.expressions.StructDeclaration.{StructDeclaration}
use Rattle.c_tree.specs.declared.expressions.StructDeclarator.{StructDeclarator}
use Rattle.c_tree.specs.declared.expressions.Expr.TheOpen.{Dimension-F}
use Rattle.c_tree.specs.declared.expressions.Expr.TheViews.{out-Dimension}
use Rattle.c_tree.specs.declared.expressions.Expr.TheFolds as E
use Rattle.c_tree.specs.declared.statements.Pointer.{Pointer}
use Rattle.c_tree.specs.declared.statements.Initializer.{Initializer, roll-Initializer}
use Rattle.c_tree.specs.declared.statements.Initializer.TheOpen.{Initializer-F}
use Rattle.c_tree.specs.declared.statements.Initializer.TheFolds as T
use Rattle.c_tree.specs.declared.statements.Initialization.{Initialization}
use Rattle.c_tree.specs.declared.statements.InitDeclarator.{InitDeclarator}
use Rattle.c_tree.specs.declared.statements.Declaration.{Declaration}
use Rattle.c_meaning.specs.declared.types.CType.{CType}
use Rattle.c_meaning.specs.declared.types.CType.TheVariants as ctype
use Rattle.c_meaning.specs.declared.types.StructType.{StructType}
use Rattle.c_meaning.specs.declared.types.ValueKind.{ValueKind}
use Rattle.c_meaning.specs.declared.types.ValueKind.TheVariants as kind
use Rattle.c_meaning.specs.declared.expressions.TypedExpr.{TypedExpr}
use Rattle.c_meaning.specs.declared.statements.Part.{Part}
use Rattle.c_meaning.specs.declared.statements.TypedDeclarator.{TypedDeclarator}
use Rattle.c_meaning.specs.Types.{kind_of, scalars_of, struct_scalars}
use Rattle.c_meaning.specs.Uses.{taken_in, taken_where, parts_take, declarator_takes}
use Rattle.c_meaning.specs.StatementRules.{most_cells}
use Rattle.c_addresses.specs.declared.scan.Scanning.{Scanning}
use Rattle.c_addresses.specs.Scans.{Scan, in_turn, declares}
use Rattle.c_addresses.specs.Addresses.{ExprScan, unchanged, scan_of, init_scan, scans_init, start_scan, scans_expr, scans_suffix, scans_tag, scans_spelling, scans_dimension, scans_enumerator, scans_operand, scans_member, scans_declarator, scans_declared, scans_specs, size_scan, expr_scan, suffix_scan, tag_scan, spelling_scan, dimension_scan, enumerator_scan, operand_scan, specs_scan, member_scan, declarator_scan}
use Rattle.c_conversions.specs.CTypes.{counted_cells}
use Rattle.c_conversions.specs.declared.fault.TypeKind.TheVariants.{Mismatch, NotConstant, Twice, Cells, PointerForm}
use Rattle.c_typing.specs.declared.environment.Entity.TheVariants as entity
use Rattle.c_typing.specs.declared.environment.Environment.{Environment}
use Rattle.c_typing.specs.declared.environment.QualifiedType.{QualifiedType}
use Rattle.c_typing.specs.declared.values.TypedValue.{TypedValue}
use Rattle.c_typing.specs.Walks.{Checked, Breaks, Passes, Walk, after, each, along}
use Rattle.c_typing.specs.Expressions.{ExprWalk, valued, assigned_to}
use Rattle.c_typing.specs.Specifiers.{is_free, with_entity, object_type, array_of}
use Rattle.c_expressions.specs.Typing.{types_expr, types_specs, types_dimension}
use Rattle.c_objects.specs.declared.initializers.Storage.{Storage}
use Rattle.c_objects.specs.declared.initializers.Storage.TheVariants.{Static, Automatic}
use Rattle.c_objects.specs.Initializers.{is_constant, start_value, ValuesWalk, value_walk, values_rule, values_of, Filled, nothing_filled, with_part, with_zeros, without_values, next_filled, next_dropped, is_aggregate, part_type, part_count, FillWalk, Filling, value_filling, part_filled, parts_filled, zeros_from, aggregate_filled, single_filled, is_zero_list, list_filled, filling_rule, filling_of, initial_parts}
use Rattle.c_objects.specs.Objects.{dimensioned, dimensioned_from, dimensioned_where, pointed, pointer_form, free_name, object_of, counted_more, with_object, new_object, list_length, parts_where, started, declared_object, declarator_walk, object_specs}
use Rattle.typing_laws.specs.Passing.{Passing}
use Rattle.expression_laws.specs.Keeping.{Each, Stays}
use Rattle.expression_laws.proofs.Steps.{passing-if, stays-after}
use Rattle.source_laws.specs.Spelled.{every, is_spelled, is_spelled_dimension, are_spelled_specs}
use Rattle.object_laws.specs.Filling.{start_spelled, is_spelled_start}
use Rattle.object_laws.specs.Declaring.{start_spelled_where, is_spelled_init}
use Rattle.address_laws.specs.Following.{Outside, Follows, IsTaken, Traced, Traces, TracesOver, TracesExpr, Beside}
use Rattle.address_laws.specs.Taking.{nothing_taken, value_takes, values_take}
use Rattle.address_laws.proofs.Lists.{each-append, each-left, each-right}
use Rattle.address_laws.proofs.Values.{assigned-taken}
use Rattle.address_laws.proofs.Declaring.{object-follows, taken-later}
use Rattle.address_laws.proofs.Tracing.{still-taken, traced-same, traced-in, traced-after, traced-with, along-traced, each-traced}
use Rattle.address_laws.proofs.Walked.{traced-value}
use Rattle.address_laws.proofs.Specifiers.{TracesCount, object-specs-traced}
use Rattle.address_laws.proofs.Sources.{expr-traced, specs-traced, dimension-traced}
use Rattle.marking_laws.specs.Taking.{parts_taken}

both : (a b : Bool) → (a && b) ≡ true → (a ≡ true) × (b ≡ true)
both true b h = (refl, h)
both false b h = absurd (cc)

-- ---- what is filled

module _ (P : ℕ → Type 0) where
  abbrev FilledTakes : Environment → Filled → Type 0
  FilledTakes env filled = Each P (values_take filled.values) × Each P (parts_taken filled.parts)

  abbrev FillTakes : FillWalk → Type 0
  FillTakes fill = (c : CType) (filled : Filled) (env : Environment) → FilledTakes env filled → Passing (Stays FilledTakes env) (fill c filled env)

  parts-more : (parts : List Part) (part : Part) → Each P (parts_taken parts) → Each P (taken_where part.value) → Each P (parts_taken (parts ++ part ∷ []))
  parts-more [] part h k = each-append P (taken_where part.value) [] k tt
  parts-more (first ∷ parts) part h k =
      each-append P (taken_where first.value) (parts_taken (parts ++ part ∷ [])) (each-left P (taken_where first.value) (parts_taken parts) h)
      (parts-more parts part (each-right P (taken_where first.value) (parts_taken parts) h) k)

  zeros-take : (env : Environment) (ts : List Scalar) (filled : Filled) → FilledTakes env filled → FilledTakes env (with_zeros ts filled)
  zeros-take env [] filled h = h
  zeros-take env (t ∷ ts) filled h =
      zeros-take env ts (with_part (kind.Integer t) 1 None filled) (h.0, parts-more filled.parts (record { cell = filled.cell; kind = kind.Integer t; value = None }) h.1 tt)

  next-takes : (place : Place) (c : CType) (filled : Filled) (values : List TypedValue) (env : Environment) → Each P (values_take values) → Each P (parts_taken filled.parts) → Passing (Stays FilledTakes env) (next_filled place c filled values env)
  next-takes place c filled [] env v h = tt
  next-takes place c filled (value ∷ values) env v h =
      stays-after (λ e x. Each P (taken_in x)) (Stays FilledTakes env) env (assigned_to place c value env)
      (λ e env. Passes (with_part (kind_of c) (counted_cells env.structs c) (Some e) (without_values values filled)) env)
      (assigned-taken P place c value env (each-left P (taken_in value.expr) (values_take values) v))
      (λ e t. (refl, (each-right P (taken_in value.expr) (values_take values) v, parts-more filled.parts (record { cell = filled.cell; kind = kind_of c; value = Some e }) h t)))

  dropped-takes : (env : Environment) (filled : Filled) (values : List TypedValue) → FilledTakes env filled → Each P (values_take values) → FilledTakes env (next_dropped filled values)
  dropped-takes env filled [] h v = h
  dropped-takes env filled (value ∷ values) h v = (each-right P (taken_in value.expr) (values_take values) v, h.1)

  abbrev PartTakes : Filling → Type 0
  PartTakes part = FillTakes part.fill

  part-takes : (place : Place) (c : Option CType) (part : Filling) (filled : Filled) (env : Environment) → PartTakes part → FilledTakes env filled → Passing (Stays FilledTakes env) (part_filled place c part filled env)
  part-takes place None part filled env p h = tt
  part-takes place (Some c) part filled env p h = p c filled env h

  parts-take : (place : Place) (structs : List StructType) (c : CType) (i : ℕ) (parts : List Filling) (filled : Filled) (env : Environment) → Each PartTakes parts → FilledTakes env filled
      → Passing (Stays FilledTakes env) (parts_filled place structs c i parts filled env)
  parts-take place structs c i [] filled env p h = (refl, h)
  parts-take place structs c i (part ∷ parts) filled env p h =
      stays-after FilledTakes (Stays FilledTakes env) env (part_filled place (part_type structs i c) part filled env) (λ filled env. parts_filled place structs c (i + 1) parts filled env)
      (part-takes place (part_type structs i c) part filled env p.0 h) (λ filled t. parts-take place structs c (i + 1) parts filled env p.1 t)

  aggregate-takes : (place : Place) (parts : List Filling) → Each PartTakes parts → FillTakes (aggregate_filled place parts)
  aggregate-takes place parts p = λ c filled env h.
      passing-if (Stays FilledTakes env) (nat_le (length parts) (part_count env.structs c))
      (after (parts_filled place env.structs c 0 parts filled env) (λ whole env. Passes (zeros_from env.structs c filled.cell whole) env)) (Breaks Mismatch place)
      (λ b. stays-after FilledTakes (Stays FilledTakes env) env (parts_filled place env.structs c 0 parts filled env) (λ whole env. Passes (zeros_from env.structs c filled.cell whole) env)
      (parts-take place env.structs c 0 parts filled env p h)
      (λ whole t. (refl, zeros-take env (drop (whole.cell - filled.cell) (scalars_of (struct_scalars env.structs) c)) whole t)))
      (λ b. tt)

  single-takes : (place : Place) (parts : List Filling) → Each PartTakes parts → FillTakes (single_filled place parts)
  single-takes place [] p = λ c filled env h. tt
  single-takes place (part ∷ []) p = λ c filled env h. passing-if (Stays FilledTakes env) part.braced (Breaks Mismatch place) (part.fill c filled env) (λ b. tt) (λ b. p.0 c filled env h)
  single-takes place (part ∷ next ∷ parts) p = λ c filled env h. tt

  list-takes : (place : Place) (parts : List Filling) → Each PartTakes parts → FillTakes (list_filled place parts)
  list-takes place parts p = λ c filled env h.
      passing-if (Stays FilledTakes env) (is_aggregate c)
      (if is_zero_list parts then Passes (zeros_from env.structs c filled.cell (next_dropped filled filled.values)) env else aggregate_filled place parts c filled env)
      (single_filled place parts c filled env)
      (λ b. passing-if (Stays FilledTakes env) (is_zero_list parts) (Passes (zeros_from env.structs c filled.cell (next_dropped filled filled.values)) env) (aggregate_filled place parts c filled env)
      (λ z. (refl, zeros-take env (drop ((next_dropped filled filled.values).cell - filled.cell) (scalars_of (struct_scalars env.structs) c)) (next_dropped filled filled.values) (dropped-takes env filled filled.values h h.0)))
      (λ z. aggregate-takes place parts p c filled env h))
      (λ b. single-takes place parts p c filled env h)

  module _ (place : Place) where
    abbrev PF : Initializer → Type 0
    PF x = FillTakes (filling_of place x).fill

    abbrev VF : Type 0
    VF = (x : Initializer) × PF x

    fillings : (ys : List VF) → Each PartTakes (map (filling_of place) (map (λ v. v.0) ys))
    fillings [] = tt
    fillings (y ∷ ys) = (y.1, fillings ys)

    filling-at : (y : Initializer-F VF) → FillTakes (filling_rule place (T.map-Initializer Initializer Filling (filling_of place) (T.map-Initializer VF Initializer (λ v. v.0) y))).fill
    filling-at (Initializer-F.Expression e) = λ c filled env h. next-takes place c filled filled.values env h.0 h.1
    filling-at (Initializer-F.List at parts comma) = list-takes place (map (filling_of place) (map (λ v. v.0) parts)) (fillings parts)

    filling-whole : (y : Initializer-F VF) → PF (roll-Initializer (T.map-Initializer VF Initializer (λ v. v.0) y))
    filling-whole y = subst (λ (f : Filling). FillTakes f.fill) (sym (T.fold-roll-Initializer Filling (filling_rule place) (T.map-Initializer VF Initializer (λ v. v.0) y))) (filling-at y)

    filling-takes : (x : Initializer) → PF x
    filling-takes = T.ind-Initializer PF (λ x y is. subst (λ (z : Initializer-F Initializer). PF (roll-Initializer z)) is (filling-whole y))

  parts-told : (parts : List Part) → Each P (parts_taken parts) → Each P (parts_take (Some parts))
  parts-told [] h = tt
  parts-told (part ∷ parts) h =
      each-append P (taken_where part.value) (parts_take (Some parts)) (each-left P (taken_where part.value) (parts_taken parts) h) (parts-told parts (each-right P (taken_where part.value) (parts_taken parts) h))

  values-more : (values : List TypedValue) (value : TypedValue) → Each P (values_take values) → Each P (taken_in value.expr) → Each P (values_take (values ++ value ∷ []))
  values-more [] value h k = each-append P (taken_in value.expr) [] k tt
  values-more (first ∷ values) value h k =
      each-append P (taken_in first.expr) (values_take (values ++ value ∷ [])) (each-left P (taken_in first.expr) (values_take values) h) (values-more values value (each-right P (taken_in first.expr) (values_take values) h) k)

module _ (o : Outside) where
  -- ---- values, in the order of the text

  start-value : (storage : Storage) (place : Place) (value : TypedValue) (s : Scanning) (env : Environment) → Follows o s env → Each (IsTaken o s env) (value_takes value) → Passing (Traced o s env value_takes s) (start_value storage place value env)
  start-value Automatic place value s env f t = traced-same o value_takes s env value f t
  start-value Static place value s env f t = passing-if (Traced o s env value_takes s) (is_constant value) (Passes value env) (Breaks NotConstant place) (λ b. traced-same o value_takes s env value f t) (λ b. tt)

  value-traced : (storage : Storage) (e : Expr) → is_spelled e ≡ true → TracesOver o values_take (value_walk storage (types_expr e)) (scan_of e)
  value-traced storage e h = λ values s env f taken.
      let t = scan_of e s in
      traced-after o value_takes values_take s env (valued (types_expr e) env) (λ value env. after (start_value storage (types_expr e).place value env) (λ value env. Passes (values ++ value ∷ []) env)) t t
      (traced-value o (types_expr e) (scans_expr e) (expr-traced o e h) s env f)
      (λ value new r. traced-after o value_takes values_take t new (start_value storage (types_expr e).place value new) (λ value env. Passes (values ++ value ∷ []) env) t t (start-value storage (types_expr e).place value t new r.0 r.3)
      (λ value last q. traced-same o values_take t last (values ++ value ∷ []) q.0
      (values-more (IsTaken o t last) values value (still-taken o t new t last (values_take values) q.2 (still-taken o s env t new (values_take values) r.2 taken)) q.3)))

  module _ (storage : Storage) where
    abbrev PV : Initializer → Type 0
    PV x = is_spelled_start x ≡ true → TracesOver o values_take (values_of storage x) (scans_init x)

    abbrev VV : Type 0
    VV = (x : Initializer) × PV x

    abbrev bare : Initializer-F VV → Initializer-F Initializer
    bare = T.map-Initializer VV Initializer (λ v. v.0)

    each-value : (ys : List VV) → every (map is_spelled_start (map (λ v. v.0) ys)) ≡ true
        → Beside (TracesOver o values_take) (map (values_of storage) (map (λ v. v.0) ys)) (map scans_init (map (λ v. v.0) ys))
    each-value [] h = tt
    each-value (y ∷ ys) h = let b = both (is_spelled_start y.0) (every (map is_spelled_start (map (λ v. v.0) ys))) h in (y.1 b.0, each-value ys b.1)

    value-at : (y : Initializer-F VV) → start_spelled (T.map-Initializer Initializer Bool is_spelled_start (bare y)) ≡ true
        → TracesOver o values_take (values_rule storage (T.map-Initializer Initializer ValuesWalk (values_of storage) (bare y))) (init_scan (T.map-Initializer Initializer Scan scans_init (bare y)))
    value-at (Initializer-F.Expression e) h = value-traced storage e h
    value-at (Initializer-F.List place parts comma) h =
        let b = both (has_some (map is_spelled_start (map (λ v. v.0) parts))) (every (map is_spelled_start (map (λ v. v.0) parts))) h in
        along-traced o values_take (map (values_of storage) (map (λ v. v.0) parts)) (map scans_init (map (λ v. v.0) parts)) (each-value parts b.1)

    value-whole : (y : Initializer-F VV) → PV (roll-Initializer (bare y))
    value-whole y h =
        let of = value-at y (sym (T.fold-roll-Initializer Bool start_spelled (bare y)) ∙ h) in
        subst (λ (w : ValuesWalk). TracesOver o values_take w (scans_init (roll-Initializer (bare y)))) (sym (T.fold-roll-Initializer ValuesWalk (values_rule storage) (bare y)))
        (subst (λ (x : Scan). TracesOver o values_take (values_rule storage (T.map-Initializer Initializer ValuesWalk (values_of storage) (bare y))) x) (sym (T.fold-roll-Initializer Scan init_scan (bare y))) of)

    values-traced : (x : Initializer) → PV x
    values-traced = T.ind-Initializer PV (λ x y is. subst (λ (z : Initializer-F Initializer). PV (roll-Initializer z)) is (value-whole y))

  initial-traced : (storage : Storage) (place : Place) (start : Initializer) (c : CType) → is_spelled_start start ≡ true → Traces o parts_taken (scans_init start) (initial_parts storage place start c)
  initial-traced storage place start c h = λ s env f.
      let t = scans_init start s in
      traced-after o values_take parts_taken s env (values_of storage start [] env)
      (λ values env. after ((filling_of place start).fill c (nothing_filled values) env) (λ filled env. Passes filled.parts env)) t t (values-traced storage start h [] s env f tt)
      (λ values new r. traced-in o parts_taken t new (after ((filling_of place start).fill c (nothing_filled values) new) (λ filled env. Passes filled.parts env)) r.0
      (stays-after (FilledTakes (IsTaken o t new)) (Stays (λ e parts. Each (IsTaken o t new) (parts_taken parts)) new) new ((filling_of place start).fill c (nothing_filled values) new) (λ filled env. Passes filled.parts env)
      (filling-takes (IsTaken o t new) place start c (nothing_filled values) new (r.3, tt)) (λ filled q. (refl, q.1))))

  pub start-traced : (storage : Storage) (start : Option Initialization) (c : CType) → start_spelled_where start ≡ true → Traces o parts_take (start_scan start) (parts_where storage start c)
  start-traced storage None c h = λ s env f. traced-same o parts_take s env None f tt
  start-traced storage (Some start) c h = λ s env f.
      let t = scans_init start.value s in
      traced-with o parts_taken parts_take s env (initial_parts storage start.place start.value c env) (λ env parts. Some parts) t (initial-traced storage start.place start.value c h s env f)
      (λ parts new q. parts-told (IsTaken o t new) parts q)

  -- ---- dimensions

  each-dimension : (ds : List Dimension) → every (map is_spelled_dimension ds) ≡ true → Beside (TracesCount o) (map types_dimension ds) (map scans_dimension ds)
  each-dimension [] h = tt
  each-dimension (d ∷ ds) h = let b = both (is_spelled_dimension d) (every (map is_spelled_dimension ds)) h in (dimension-traced o d b.0, each-dimension ds b.1)

  dimensioned-traced : (ds : List Dimension) (c : CType) → every (map is_spelled_dimension ds) ≡ true → Traces o nothing_taken (in_turn (map scans_dimension ds)) (dimensioned ds c)
  dimensioned-traced ds c h = λ s env f.
      traced-with o nothing_taken nothing_taken s env (each (map types_dimension ds) env) (λ env counts. array_of counts c) (in_turn (map scans_dimension ds) s)
      (each-traced o (map types_dimension ds) (map scans_dimension ds) (each-dimension ds h) s env f) (λ counts new q. tt)

  -- the scan of an empty dimension
  abbrev dimension-with : Place → Option Expr → Dimension-F Expr Suffix TagSpecifier TypeSpecifier Dimension Enumerator Operand Specifiers StructDeclaration StructDeclarator
  dimension-with place size = record { place = place; size = size }

  empty-layer : (place : Place) (size : Option Expr) → size ≡ None
      → dimension_scan (E.map-Dimension Expr Suffix TagSpecifier TypeSpecifier Dimension Enumerator Operand Specifiers StructDeclaration StructDeclarator ExprScan Scan Scan Scan Scan Scan Scan Scan Scan Scan
      scans_expr scans_suffix scans_tag scans_spelling scans_dimension scans_enumerator scans_operand scans_specs scans_member scans_declarator (dimension-with place size)) ≡ size_scan None
  empty-layer place None e = refl
  empty-layer place (Some x) e = absurd (cc)

  empty-scan : (d : Dimension) → (out-Dimension d).size ≡ None → scans_dimension d ≡ size_scan None
  empty-scan d e =
      E.fold_out-Dimension ExprScan Scan Scan Scan Scan Scan Scan Scan Scan Scan expr_scan suffix_scan tag_scan spelling_scan dimension_scan enumerator_scan operand_scan specs_scan member_scan declarator_scan d
      ∙ empty-layer (out-Dimension d).place (out-Dimension d).size e

  from-traced : (count : ℕ) (d : Dimension) (ds : List Dimension) (c : CType) (size : Option Expr) → (out-Dimension d).size ≡ size → every (map is_spelled_dimension (d ∷ ds)) ≡ true
      → Traces o nothing_taken (in_turn (map scans_dimension (d ∷ ds))) (λ env. elim size [
        | None ↦ after (dimensioned ds c env) (λ element env. Passes (ctype.Array count element) env)
        | Some size ↦ dimensioned (d ∷ ds) c env
      ])
  from-traced count d ds c None e h =
      let b = both (is_spelled_dimension d) (every (map is_spelled_dimension ds)) h in
      subst (λ (x : Scan). Traces o nothing_taken (λ s. in_turn (map scans_dimension ds) (x s)) (λ env. after (dimensioned ds c env) (λ element env. Passes (ctype.Array count element) env))) (sym (empty-scan d e))
      (λ s env f. traced-with o nothing_taken nothing_taken s env (dimensioned ds c env) (λ env element. ctype.Array count element) (in_turn (map scans_dimension ds) s) (dimensioned-traced ds c b.1 s env f) (λ element new q. tt))
  from-traced count d ds c (Some size) e h = dimensioned-traced (d ∷ ds) c h

  dimensions-from : (count : ℕ) (ds : List Dimension) (c : CType) → every (map is_spelled_dimension ds) ≡ true → Traces o nothing_taken (in_turn (map scans_dimension ds)) (dimensioned_from count ds c)
  dimensions-from count [] c h = λ s env f. traced-same o nothing_taken s env c f tt
  dimensions-from count (d ∷ ds) c h = from-traced count d ds c (out-Dimension d).size refl h

  pub dimensions-traced : (count : Option ℕ) (ds : List Dimension) (c : CType) → every (map is_spelled_dimension ds) ≡ true → Traces o nothing_taken (in_turn (map scans_dimension ds)) (dimensioned_where count ds c)
  dimensions-traced None ds c h = dimensioned-traced ds c h
  dimensions-traced (Some count) ds c h = dimensions-from count ds c h

  -- ---- objects

  pub form-traced : (p : Option Pointer) (ds : List Dimension) → Traces o nothing_taken unchanged (pointer_form p ds)
  form-traced None ds = λ s env f. traced-same o {A = Unit {0}} nothing_taken s env tt f tt
  form-traced (Some p) [] = λ s env f. traced-same o {A = Unit {0}} nothing_taken s env tt f tt
  form-traced (Some p) (d ∷ ds) = λ s env f. tt

  pub free-traced : (name : Identifier) → Traces o nothing_taken unchanged (free_name name)
  free-traced name = λ s env f. passing-if (Traced o s env {A = Unit {0}} nothing_taken s) (is_free env name.text) (Passes tt env) (Breaks Twice name.place) (λ b. traced-same o {A = Unit {0}} nothing_taken s env tt f tt) (λ b. tt)

  -- the object that `new_object` declares
  abbrev declared_one : Identifier → QualifiedType → Environment → Environment
  declared_one name q env = with_object (object_of name q (counted_cells env.structs q.ctype) None) (with_entity name.text (entity.Object (length env.objects)) env)

  pub object-traced : (name : Identifier) (q : QualifiedType) → Traces o nothing_taken (declares name.text) (new_object name q)
  object-traced name q = λ s env f.
      let t = declares name.text s in
      let new = declared_one name q env in
      let k = length env.objects in
      let cells = counted_cells env.structs q.ctype in
      let more = object-follows o s.names s.addressed env.names env.entities env.objects f name.text (object_of name q cells None) refl in
      let kept = λ (k : ℕ) (h : IsTaken o s env k). taken-later o s.addressed (false ∷ []) env.entities (entity.Object (length env.objects) ∷ []) k h in
      traced-after o {A = Unit {0}} nothing_taken nothing_taken s env (counted_more name cells new) (λ _ env. Passes k env) t t
      (passing-if (Traced o s env {A = Unit {0}} nothing_taken t) (nat_le (new.cells + cells) most_cells) (Passes tt (record new { cells = new.cells + cells })) (Breaks Cells name.place)
      (λ b. (more, refl, kept, tt)) (λ b. tt))
      (λ u last r. traced-same o nothing_taken t last k r.0 tt)

  declared-traced : (name : Identifier) (start : Option Initialization) (q : QualifiedType) → start_spelled_where start ≡ true
      → Traces o declarator_takes (λ s. start_scan start (declares name.text s)) (declared_object Automatic name start q)
  declared-traced name start q h = λ s env f.
      let t = declares name.text s in
      let u = start_scan start t in
      traced-after o nothing_taken declarator_takes s env (new_object name q env) (λ k env. after (parts_where Automatic start q.ctype env) (λ parts env. started Automatic name q k parts env)) t u (object-traced name q s env f)
      (λ k new r. traced-with o parts_take declarator_takes t new (parts_where Automatic start q.ctype new) (λ env parts. record { object = k; start = parts }) u (start-traced Automatic start q.ctype h t new r.0) (λ parts last p. p))

  pub declarator-traced : (q : QualifiedType) (d : InitDeclarator) → is_spelled_init d ≡ true → Traces o declarator_takes (scans_declared d) (declarator_walk Automatic q d)
  declarator-traced q d h = λ s env f.
      let b = both (every (map is_spelled_dimension d.dimensions)) (start_spelled_where d.start) h in
      let t = in_turn (map scans_dimension d.dimensions) s in
      let u = scans_declared d s in
      traced-after o {A = Unit {0}} nothing_taken declarator_takes s env (pointer_form d.pointer d.dimensions env)
      (λ _ env. after (free_name d.name env)
      (λ _ env. after (dimensioned_where (list_length d.start) d.dimensions q.ctype env)
      (λ c env. declared_object Automatic d.name d.start (pointed d.pointer c q.qualifier) env))) s u (form-traced d.pointer d.dimensions s env f)
      (λ _ one r. traced-after o {A = Unit {0}} nothing_taken declarator_takes s one (free_name d.name one)
      (λ _ env. after (dimensioned_where (list_length d.start) d.dimensions q.ctype env)
      (λ c env. declared_object Automatic d.name d.start (pointed d.pointer c q.qualifier) env)) s u (free-traced d.name s one r.0)
      (λ _ two p. traced-after o nothing_taken declarator_takes s two (dimensioned_where (list_length d.start) d.dimensions q.ctype two)
      (λ c env. declared_object Automatic d.name d.start (pointed d.pointer c q.qualifier) env) t u (dimensions-traced (list_length d.start) d.dimensions q.ctype b.0 s two p.0)
      (λ c last x. declared-traced d.name d.start (pointed d.pointer c q.qualifier) b.1 t last x.0)))

  pub objects-traced : (declaration : Declaration) → are_spelled_specs declaration.specs ≡ true → Traces o nothing_taken (scans_specs declaration.specs) (object_specs declaration)
  objects-traced declaration h = object-specs-traced o (types_specs declaration.specs) (scans_specs declaration.specs) (specs-traced o declaration.specs h)
