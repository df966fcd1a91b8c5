-- Statements and blocks (C11 6.8), walked and scanned side by side.
use Rattle.std.proofs.Common.{◌≡◌, ◌++◌, ◌&&◌, ℕ, Bool, true, false, if◌then◌else◌, Option, None, Some, List, [], ◌∷◌, map, length, nat_eq, ap, sym, subst, ◌∙◌, refl}
use Rattle.std.specs.List.{list_any}
use Rattle.hy_bits.specs.declared.scalar.Scalar.{Scalar}
use Rattle.c_tree.specs.declared.token.Place.{Place}
use Rattle.c_tree.specs.declared.expressions.Identifier.{Identifier}
use Rattle.c_tree.specs.declared.expressions.Expr.{Expr}
use Rattle.c_tree.specs.declared.expressions.TagSpecifier.{TagSpecifier}
use Rattle.c_tree.specs.declared.expressions.Suffix.{Suffix}
use Rattle.c_tree.specs.declared.expressions.TypeSpecifier.{TypeSpecifier}
use Rattle.c_tree.specs.declared.expressions.Dimension.{Dimension}
use Rattle.c_tree.specs.declared.expressions.Enumerator.{Enumerator}
use Rattle.c_tree.specs.declared.expressions.Operand.{Operand}
use Rattle.c_tree.specs.declared.expressions.Specifiers.{Specifiers}
use Rattle.c_tree.specs.declared.expressions.StructDeclaration.{StructDeclaration}
use Rattle.c_tree.specs.declared.expressions.StructDeclarator.{StructDeclarator}
use Rattle.c_tree.specs.declared.expressions.Expr.TheOpen.{TagSpecifier-F}
use Rattle.c_tree.specs.declared.expressions.Expr.TheViews.{out-TagSpecifier}
use Rattle.c_tree.specs.declared.expressions.Expr.TheFolds as E
use Rattle.c_tree.specs.declared.statements.Step.{Step}
use Rattle.c_tree.specs.declared.statements.ExpressionStatement.{ExpressionStatement}
use Rattle.c_tree.specs.declared.statements.ExpressionStatement.TheVariants as simple
use Rattle.c_tree.specs.declared.statements.Declaration.{Declaration}
use Rattle.c_tree.specs.declared.statements.InitDeclarator.{InitDeclarator}
use Rattle.c_tree.specs.declared.statements.LoopBound.{LoopBound}
use Rattle.c_tree.specs.declared.statements.First.{First}
use Rattle.c_tree.specs.declared.statements.First.TheVariants as source
use Rattle.c_tree.specs.declared.statements.Label.{Label}
use Rattle.c_tree.specs.declared.statements.Label.TheVariants as label
use Rattle.c_meaning.specs.declared.types.CType.{CType}
use Rattle.c_meaning.specs.declared.types.Qualifier.TheVariants.{Unqualified, Const}
use Rattle.c_meaning.specs.declared.types.ValueKind.{ValueKind}
use Rattle.c_meaning.specs.declared.types.ValueKind.TheVariants as kind
use Rattle.c_meaning.specs.declared.operators.Written.{Written}
use Rattle.c_meaning.specs.declared.operators.Written.TheVariants as written
use Rattle.c_meaning.specs.declared.expressions.TypedExpr.{TypedExpr}
use Rattle.c_meaning.specs.declared.expressions.Lvalue.{Lvalue}
use Rattle.c_meaning.specs.declared.statements.TypedEffect.{TypedEffect}
use Rattle.c_meaning.specs.declared.statements.TypedEffect.TheVariants as effect
use Rattle.c_meaning.specs.declared.statements.TypedDeclarator.{TypedDeclarator}
use Rattle.c_meaning.specs.declared.statements.Controlling.{Controlling}
use Rattle.c_meaning.specs.declared.statements.Counter.{Counter}
use Rattle.c_meaning.specs.declared.statements.TypedFirst.{TypedFirst}
use Rattle.c_meaning.specs.declared.statements.TypedFirst.TheVariants as first
use Rattle.c_meaning.specs.declared.statements.TypedStep.{TypedStep}
use Rattle.c_meaning.specs.declared.statements.TypedStatement.{TypedStatement}
use Rattle.c_meaning.specs.declared.statements.TypedStatement.TheVariants as statement
use Rattle.c_meaning.specs.declared.statements.TypedSelection.{TypedSelection}
use Rattle.c_meaning.specs.declared.statements.TypedSelection.TheVariants as selection
use Rattle.c_meaning.specs.declared.statements.TypedIteration.{TypedIteration}
use Rattle.c_meaning.specs.declared.statements.TypedIteration.TheVariants as iteration
use Rattle.c_meaning.specs.declared.statements.TypedItem.{TypedItem}
use Rattle.c_meaning.specs.declared.statements.TypedItem.TheVariants as item
use Rattle.c_meaning.specs.declared.statements.TypedBlock.{TypedBlock}
use Rattle.c_meaning.specs.declared.statements.TypedItem.TheViews.{roll-TypedSection}
use Rattle.c_meaning.specs.Types.{kind_of}
use Rattle.c_meaning.specs.Rules.{is_scalar_kind}
use Rattle.c_meaning.specs.Uses.{taken_in, taken_by_lvalue, taken_where, effect_takes, declarator_takes, first_takes, controlling_takes, step_of_loop_takes, taken_by, all_of}
use Rattle.std.specs.List.{flat_map}
use Rattle.c_scopes.specs.Scopes.{all_but_last, found_here}
use Rattle.c_addresses.specs.declared.scan.Scanning.{Scanning}
use Rattle.c_addresses.specs.Scans as scans
use Rattle.c_addresses.specs.Scans.{Scan, in_turn, opens, closes}
use Rattle.c_addresses.specs.Addresses.{ExprScan, expr_scan, suffix_scan, tag_scan, spelling_scan, dimension_scan, enumerator_scan, operand_scan, specs_scan, member_scan, declarator_scan, scans_suffix, scans_spelling, scans_dimension, scans_enumerator, scans_operand, scans_member, scans_declarator, unchanged, scan_of, scan_where, scans_tag, scans_specs, scans_declared, scans_declaration, scans_simple, simple_where, first_scan, scans_label, scoped_where}
use Rattle.c_conversions.specs.declared.fault.TypeKind.TheVariants.{Mismatch, NotConstant, NoBound, Twice}
use Rattle.c_conversions.specs.declared.operators.Operator.{Operator}
use Rattle.c_conversions.specs.declared.operators.Change.{Change}
use Rattle.c_conversions.specs.declared.operators.Change.TheVariants as change
use Rattle.c_conversions.specs.Operators.{operator_in, changed, signed}
use Rattle.c_typing.specs.declared.environment.Environment.{Environment}
use Rattle.c_typing.specs.declared.environment.QualifiedType.{QualifiedType}
use Rattle.c_typing.specs.declared.environment.Tag.{Tag}
use Rattle.c_typing.specs.declared.environment.Tag.TheVariants as tag
use Rattle.c_typing.specs.declared.values.TypedValue.{TypedValue}
use Rattle.c_typing.specs.declared.values.Typing.{Typing}
use Rattle.c_typing.specs.declared.values.Typing.TheVariants.{Designates, Gives}
use Rattle.c_typing.specs.Walks.{Checked, Breaks, Passes, Walk, after, unless, unless_none, along}
use Rattle.c_typing.specs.Values.{kind_operand, converted, scalar_of}
use Rattle.c_typing.specs.Expressions.{valued, assigned_to}
use Rattle.c_typing.specs.Specifiers.{tag_at, declared_alone, struct_alone}
use Rattle.c_expressions.specs.Typing.{types_expr, types_tag}
use Rattle.c_objects.specs.declared.initializers.Storage.TheVariants.{Automatic}
use Rattle.c_objects.specs.Objects.{declarator_walk, declarator_after, declaration_walk, object_specs}
use Rattle.c_heads.specs.declared.context.Body.{Body}
use Rattle.c_heads.specs.Effects.{stored, change_of, changed_by, assignment, step_operator, one_at, effect_of}
use Rattle.c_heads.specs.Labels.{Labelled, with_case, with_default, case_word, new_case, new_default, label_of}
use Rattle.c_heads.specs.Loops.{condition_of, controlling_of, controlling_where, first_of, step_of, step_where, step_number, counter_of, bound_of, bounded}
use Rattle.c_heads.specs.Scopes.{within, outside, scoped, layer_tag_alone, tag_alone}
use Rattle.c_heads.specs.Tokens.{plus, expr_tokens, simple_tokens, declaration_tokens, tag_tokens, if_tokens, while_tokens, do_tokens, for_tokens, return_tokens, label_tokens}
use Rattle.c_bodies.specs.declared.context.Around.{Around}
use Rattle.c_bodies.specs.declared.context.ForHead.{ForHead}
use Rattle.c_bodies.specs.declared.context.ItemList.{ItemList}
use Rattle.c_bodies.specs.declared.context.Sections.{Sections}
use Rattle.c_bodies.specs.declared.context.Switched.{Switched}
use Rattle.c_bodies.specs.Statements.{StatementWalk, SelectionWalk, IterationWalk, BlockWalk, ItemWalk, SectionWalk, in_loop, while_end, while_walk, do_end, do_walk, for_head, for_end, for_walk, otherwise_walk, if_walk, no_sections, in_switch, switched_of, switch_of, sections_walk, switch_walk, statement_after, with_section, return_walk, expression_walk, scoped_block, scoped_selection, scoped_iteration, with_item, with_tokens, object_after, declaration_item, no_items, block_of}
use Rattle.typing_laws.specs.Passing.{Passing}
use Rattle.typing_laws.proofs.Postfix.{passing-after}
use Rattle.expression_laws.specs.Keeping.{Each, Stays}
use Rattle.expression_laws.proofs.Steps.{passing-if, passing-some, passing-unless, passing-weaker, stays-after}
use Rattle.source_laws.specs.Spelled.{every, is_spelled, is_spelled_tag, are_spelled_specs}
use Rattle.effect_laws.specs.Simple.{is_spelled_simple}
use Rattle.object_laws.specs.Declaring.{is_spelled_init, is_spelled_declaration}
use Rattle.body_laws.specs.Statements.{spelled_where, step_spelled, first_spelled, label_spelled}
use Rattle.address_laws.specs.Following.{Outside, Follows, IsTaken, Traced, Traces, TracesOver, Beside}
use Rattle.address_laws.specs.Taking.{nothing_taken, typing_takes, value_takes}
use Rattle.address_laws.proofs.Lists.{each-append, each-left, each-right, all-of-more, without-last}
use Rattle.address_laws.proofs.Nodes.{at-constant}
use Rattle.address_laws.proofs.Values.{converted-taken, assigned-taken}
use Rattle.address_laws.proofs.Declaring.{opened-follows, closed-follows}
use Rattle.address_laws.proofs.Tracing.{still-taken, traced-same, traced-in, traced-after, traced-with, along-traced}
use Rattle.address_laws.proofs.Walked.{traced-takes, traced-value}
use Rattle.address_laws.proofs.Sources.{expr-traced, tag-traced}
use Rattle.c_addresses.specs.Addresses.{scans_expr}
use Rattle.marking_laws.specs.Taking.{declarators_take, item_taken, iteration_taken, selection_taken, statement_taken, section_taken, items_take, sections_take, statements_take}
use Rattle.marking_laws.proofs.Nodes.{at-block, at-effect, at-return, at-selection, at-iteration, at-switch, at-while, at-do, at-for, at-statement-item, at-object-item, at-empty, at-break, at-continue, at-if, at-if-alone, at-whole, at-section}
use Rattle.marking_laws.proofs.Objects.{declarator-traced, objects-traced}

both : (a b : Bool) → (a && b) ≡ true → (a ≡ true) × (b ≡ true)
both true b h = (refl, h)
both false b h = absurd (cc)

-- ---- effects

module _ (P : ℕ → Type 0) where
  abbrev EffectTakes : Environment → TypedEffect → Type 0
  EffectTakes env e = Each P (effect_takes e)

  stored-takes : (place : Place) (t : Typing) (value : TypedValue) (env : Environment) → Each P (typing_takes t) → Each P (taken_in value.expr) → Passing (Stays EffectTakes env) (stored place t value env)
  stored-takes place (Gives v) value env t h = tt
  stored-takes place (Designates of c Const) value env t h = tt
  stored-takes place (Designates of c Unqualified) value env t h =
      stays-after (λ e x. Each P (taken_in x)) (Stays EffectTakes env) env (assigned_to place c value env) (λ e env. Passes (effect.Assignment place of (kind_of c) e) env) (assigned-taken P place c value env h)
      (λ e x. (refl, each-append P (taken_by_lvalue of) (taken_in e) t x))

  change-takes : (form : Written) (place : Place) (of : Lvalue) (c : CType) (value : TypedValue) (way : Change) (env : Environment) → Each P (taken_by_lvalue of) → Each P (taken_in value.expr)
      → Passing (Stays EffectTakes env) (change_of form place of c value way env)
  change-takes form place of c value (change.Integer op conversion) env t h =
      passing-some (Stays EffectTakes env) Mismatch place (scalar_of c) (λ t env. Passes (effect.Compound form place of t op (converted conversion value.expr)) env) env
      (λ s e. (refl, each-append P (taken_by_lvalue of) (taken_in (converted conversion value.expr)) t (converted-taken P conversion value.expr h)))
  change-takes form place of c value (change.Advance way s) env t h = (refl, each-append P (taken_by_lvalue of) (taken_in value.expr) t h)

  changed-takes : (form : Written) (place : Place) (op : Operator) (t : Typing) (value : TypedValue) (env : Environment) → Each P (typing_takes t) → Each P (taken_in value.expr) → Passing (Stays EffectTakes env) (changed_by form place op t value env)
  changed-takes form place op (Gives v) value env t h = tt
  changed-takes form place op (Designates of c Const) value env t h = tt
  changed-takes form place op (Designates of c Unqualified) value env t h =
      passing-unless (Stays EffectTakes env) place (changed op (kind_operand (kind_of c)) (kind_operand (kind_of value.ctype))) (λ way env. change_of form place of c value way env) env
      (λ way e. change-takes form place of c value way env t h)

  assignment-takes : (place : Place) (op : Option Operator) (t : Typing) (value : TypedValue) (env : Environment) → Each P (typing_takes t) → Each P (taken_in value.expr) → Passing (Stays EffectTakes env) (assignment place op t value env)
  assignment-takes place None t value env h k = stored-takes place t value env h k
  assignment-takes place (Some op) t value env h k = changed-takes written.Assignment place op t value env h k

  one-takes : (place : Place) → Each P (taken_in (one_at place).expr)
  one-takes place = subst (Each P) (sym (at-constant place _ 1)) tt

  declarators-more : (ds : List TypedDeclarator) (d : TypedDeclarator) → Each P (declarators_take ds) → Each P (declarator_takes d) → Each P (declarators_take (ds ++ d ∷ []))
  declarators-more [] d h k = each-append P (declarator_takes d) [] k tt
  declarators-more (x ∷ ds) d h k =
      each-append P (declarator_takes x) (declarators_take (ds ++ d ∷ [])) (each-left P (declarator_takes x) (declarators_take ds) h) (declarators-more ds d (each-right P (declarator_takes x) (declarators_take ds) h) k)

  declarators-told : (ds : List TypedDeclarator) → Each P (declarators_take ds) → Each P (first_takes (first.Objects ds))
  declarators-told [] h = tt
  declarators-told (d ∷ ds) h =
      each-append P (declarator_takes d) (flat_map declarator_takes ds) (each-left P (declarator_takes d) (declarators_take ds) h) (declarators-told ds (each-right P (declarator_takes d) (declarators_take ds) h))

  made : (xs ys : List ℕ) → xs ≡ ys → Each P ys → Each P xs
  made xs ys e h = subst (Each P) (sym e) h

module _ (o : Outside) where
  expr-takes : (e : Expr) → is_spelled e ≡ true → Traces o typing_takes (scan_of e) (types_expr e).walk
  expr-takes e h = traced-takes o (types_expr e) (scans_expr e) (expr-traced o e h)

  expr-value : (e : Expr) → is_spelled e ≡ true → Traces o value_takes (scan_of e) (valued (types_expr e))
  expr-value e h = traced-value o (types_expr e) (scans_expr e) (expr-traced o e h)

  step-effect : (form : Written) (place : Place) (step : Step) (e : Expr) → is_spelled e ≡ true
      → Traces o effect_takes (scan_of e) (λ env. after ((types_expr e).walk env) (λ t env. changed_by form place (step_operator step) t (one_at place) env))
  step-effect form place step e h = λ s env f.
      let t = scan_of e s in
      traced-after o typing_takes effect_takes s env ((types_expr e).walk env) (λ t env. changed_by form place (step_operator step) t (one_at place) env) t t (expr-takes e h s env f)
      (λ x new r. traced-in o effect_takes t new (changed_by form place (step_operator step) x (one_at place) new) r.0
      (changed-takes (IsTaken o t new) form place (step_operator step) x (one_at place) new r.3 (one-takes (IsTaken o t new) place)))

  effect-traced : (x : ExpressionStatement) → is_spelled_simple x ≡ true → Traces o effect_takes (scans_simple x) (effect_of x)
  effect-traced (simple.Assignment target place op value) h = λ s env f.
      let b = both (is_spelled target) (is_spelled value) h in
      let t = scan_of target s in
      let u = scan_of value t in
      traced-after o typing_takes effect_takes s env ((types_expr target).walk env)
      (λ t env. after (valued (types_expr value) env) (λ v env. assignment place (operator_in op) t v env)) t u (expr-takes target b.0 s env f)
      (λ x one r. traced-after o value_takes effect_takes t one (valued (types_expr value) one) (λ v env. assignment place (operator_in op) x v env) u u (expr-value value b.1 t one r.0)
      (λ v last q. traced-in o effect_takes u last (assignment place (operator_in op) x v last) q.0
      (assignment-takes (IsTaken o u last) place (operator_in op) x v last (still-taken o t one u last (typing_takes x) q.2 r.3) q.3)))
  effect-traced (simple.PostfixStep operand place step) h = step-effect written.Postfix place step operand h
  effect-traced (simple.PrefixStep place step operand) h = step-effect written.Prefix place step operand h
  effect-traced (simple.Call call) h = λ s env f.
      traced-with o value_takes effect_takes s env (valued (types_expr call) env) (λ env v. effect.Call v.expr) (scan_of call s) (expr-value call h s env f) (λ v new q. q)

  -- ---- conditions, and heads of loops

  condition-traced : (place : Place) (e : Expr) → is_spelled e ≡ true → Traces o taken_in (scan_of e) (condition_of place e)
  condition-traced place e h = λ s env f.
      let t = scan_of e s in
      traced-after o value_takes taken_in s env (valued (types_expr e) env) (λ v env. if is_scalar_kind (kind_of v.ctype) then Passes v.expr env else Breaks Mismatch place) t t (expr-value e h s env f)
      (λ v new r. passing-if (Traced o t new taken_in t) (is_scalar_kind (kind_of v.ctype)) (Passes v.expr new) (Breaks Mismatch place) (λ b. traced-same o taken_in t new v.expr r.0 r.3) (λ b. tt))

  abbrev controlled : Controlling → List ℕ
  controlled c = taken_in c.value

  controlling-traced : (place : Place) (e : Expr) → is_spelled e ≡ true → Traces o controlled (scan_of e) (controlling_of place e)
  controlling-traced place e h = λ s env f.
      traced-with o taken_in controlled s env (condition_of place e env) (λ env value. record { tokens = expr_tokens e; value = value }) (scan_of e s) (condition-traced place e h s env f) (λ v new q. q)

  controlling-where-traced : (place : Place) (e : Option Expr) → spelled_where e ≡ true → Traces o controlling_takes (scan_where e) (controlling_where place e)
  controlling-where-traced place None h = λ s env f. traced-same o controlling_takes s env None f tt
  controlling-where-traced place (Some e) h = λ s env f.
      traced-with o controlled controlling_takes s env (controlling_of place e env) (λ env c. Some c) (scan_of e s) (controlling-traced place e h s env f) (λ c new q. q)

  step-traced : (x : Option ExpressionStatement) → step_spelled x ≡ true → Traces o step_of_loop_takes (simple_where x) (step_where x)
  step-traced None h = λ s env f. traced-same o step_of_loop_takes s env None f tt
  step-traced (Some x) h = λ s env f.
      let t = scans_simple x s in
      traced-with o (λ (y : TypedStep). effect_takes y.effect) step_of_loop_takes s env (step_of x env) (λ env y. Some y) t
      (traced-with o effect_takes (λ (y : TypedStep). effect_takes y.effect) s env (effect_of x env) (λ env e. record { tokens = simple_tokens x; effect = e }) t (effect-traced x h s env f) (λ e new q. q))
      (λ y new q. q)

  -- ---- declarations

  module _ (q : QualifiedType) where
    declared-after : (d : InitDeclarator) → is_spelled_init d ≡ true → TracesOver o declarators_take (declarator_after Automatic q d) (scans_declared d)
    declared-after d h = λ before s env f taken.
        let t = scans_declared d s in
        traced-after o declarator_takes declarators_take s env (declarator_walk Automatic q d env) (λ declared env. Passes (before ++ declared ∷ []) env) t t (declarator-traced o q d h s env f)
        (λ declared new r. traced-same o declarators_take t new (before ++ declared ∷ []) r.0
        (declarators-more (IsTaken o t new) before declared (still-taken o s env t new (declarators_take before) r.2 taken) r.3))

    each-after : (ds : List InitDeclarator) → every (map is_spelled_init ds) ≡ true → Beside (TracesOver o declarators_take) (map (declarator_after Automatic q) ds) (map scans_declared ds)
    each-after [] h = tt
    each-after (d ∷ ds) h = let b = both (is_spelled_init d) (every (map is_spelled_init ds)) h in (declared-after d b.0, each-after ds b.1)

    object-item : (d : InitDeclarator) → is_spelled_init d ≡ true → TracesOver o items_take (object_after q d) (scans_declared d)
    object-item d h = λ items s env f taken.
        let t = scans_declared d s in
        traced-after o declarator_takes items_take s env (declarator_walk Automatic q d env) (λ declared env. Passes (with_item (item.Object declared) items) env) t t (declarator-traced o q d h s env f)
        (λ declared new r. traced-same o items_take t new (with_item (item.Object declared) items) r.0
        (all-of-more (IsTaken o t new) item_taken items.items (item.Object declared) (still-taken o s env t new (items_take items) r.2 taken)
        (made (IsTaken o t new) (item_taken (item.Object declared)) (declarator_takes declared) (at-object-item declared) r.3)))

    each-item : (ds : List InitDeclarator) → every (map is_spelled_init ds) ≡ true → Beside (TracesOver o items_take) (map (object_after q) ds) (map scans_declared ds)
    each-item [] h = tt
    each-item (d ∷ ds) h = let b = both (is_spelled_init d) (every (map is_spelled_init ds)) h in (object-item d b.0, each-item ds b.1)

  first-traced : (x : First) → first_spelled x ≡ true → Traces o first_takes (first_scan x) (first_of x)
  first-traced source.Nothing h = λ s env f. traced-same o first_takes s env first.Nothing f tt
  first-traced (source.Declaration declaration) h = λ s env f.
      let b = both (are_spelled_specs declaration.specs) (every (map is_spelled_init declaration.declarators)) h in
      let t = scans_specs declaration.specs s in
      let u = in_turn (map scans_declared declaration.declarators) t in
      traced-with o declarators_take first_takes s env (declaration_walk Automatic declaration env) (λ env all. first.Objects all) u
      (traced-after o nothing_taken declarators_take s env (object_specs declaration env) (λ q env. along (map (declarator_after Automatic q) declaration.declarators) [] env) t u (objects-traced o declaration b.0 s env f)
      (λ q new r. along-traced o declarators_take (map (declarator_after Automatic q) declaration.declarators) (map scans_declared declaration.declarators) (each-after q declaration.declarators b.1) [] t new r.0 tt))
      (λ all new q. declarators-told (IsTaken o u new) all q)
  first-traced (source.Expression x) h = λ s env f.
      traced-with o effect_takes first_takes s env (effect_of x env) (λ env e. first.Effect e) (scans_simple x s) (effect-traced x h s env f) (λ e new q. q)

  -- ---- tags, and labels

  declared-alone : (name : Identifier) (t : Option Tag) (s : Scanning) (env : Environment) → Follows o s env → Passing (Traced o s env nothing_taken s) (declared_alone name t env)
  declared-alone name None s env f = (f, refl, (λ k t. t), tt)
  declared-alone name (Some tag.Enum) s env f = tt
  declared-alone name (Some tag.Declared) s env f = (f, refl, (λ k t. t), tt)
  declared-alone name (Some tag.Open) s env f = (f, refl, (λ k t. t), tt)
  declared-alone name (Some (tag.Complete number)) s env f = (f, refl, (λ k t. t), tt)

  label-traced : (t : Scalar) (x : Label) → label_spelled x ≡ true → TracesOver o nothing_taken (label_of t x) (scans_label x)
  label-traced t (label.Case place value) h = λ l s env f taken.
      let u = scan_of value s in
      traced-after o value_takes nothing_taken s env (valued (types_expr value) env)
      (λ v env. unless_none NotConstant (types_expr value).place (case_word t v)
      (λ w env. new_case (types_expr value).place w (label_tokens (label.Case place value)) l env) env) u u (expr-value value h s env f)
      (λ v new r. passing-some (Traced o u new nothing_taken u) NotConstant (types_expr value).place (case_word t v) (λ w env. new_case (types_expr value).place w (label_tokens (label.Case place value)) l env) new
      (λ w e. passing-if (Traced o u new nothing_taken u) (list_any (nat_eq w) l.words) (Breaks Twice (types_expr value).place) (Passes (with_case w (label_tokens (label.Case place value)) l) new) (λ b. tt)
      (λ b. traced-same o nothing_taken u new (with_case w (label_tokens (label.Case place value)) l) r.0 tt)))
  label-traced t (label.Default place) h = λ l s env f taken.
      passing-if (Traced o s env nothing_taken s) l.has_default (Breaks Twice place) (Passes (with_default (label_tokens (label.Default place)) l) env) (λ b. tt)
      (λ b. traced-same o nothing_taken s env (with_default (label_tokens (label.Default place)) l) f tt)

  each-label : (t : Scalar) (xs : List Label) → every (map label_spelled xs) ≡ true → Beside (TracesOver o nothing_taken) (map (label_of t) xs) (map scans_label xs)
  each-label t [] h = tt
  each-label t (x ∷ xs) h = let b = both (label_spelled x) (every (map label_spelled xs)) h in (label-traced t x b.0, each-label t xs b.1)

  -- ---- scopes

  pub scoped-traced : {A : Type 0} (takes : A → List ℕ) (scan : Scan) (walk : Walk A) → Traces o takes scan walk → Traces o takes (scans.scoped scan) (scoped walk)
  scoped-traced takes scan walk h = λ s env f.
      let t = scan (opens s) in
      passing-after (Traced o (opens s) (within env) takes t) (Traced o s env takes (closes t)) (walk (within env)) (λ a env. Passes a (outside env))
      (h (opens s) (within env) (opened-follows o s.names s.addressed env.names env.entities env.objects f))
      (λ a new r. (
        closed-follows o t.names t.addressed new.names new.entities new.objects r.0 s.names.opened (length s.names.bound) r.1,
        ap all_but_last r.1 ∙ without-last s.names.opened (length s.names.bound),
        r.2,
        r.3,
      ))

  -- ---- parts of statements

  abbrev pub TracesStatement : StatementWalk → Scan → Type 0
  TracesStatement walk scan = (around : Around) → Traces o statement_taken scan (walk around)

  abbrev pub TracesSelection : SelectionWalk → Scan → Type 0
  TracesSelection walk scan = (around : Around) → Traces o selection_taken scan (walk around)

  abbrev pub TracesIteration : IterationWalk → Scan → Type 0
  TracesIteration walk scan = (around : Around) → Traces o iteration_taken scan (walk around)

  abbrev pub TracesBlock : BlockWalk → Scan → Type 0
  TracesBlock walk scan = (around : Around) → Traces o taken_by scan (walk around)

  abbrev pub TracesItem : ItemWalk → Scan → Type 0
  TracesItem walk scan = (around : Around) → TracesOver o items_take (walk around) scan

  abbrev pub TracesSection : SectionWalk → Scan → Type 0
  TracesSection walk scan = (around : Around) (t : Scalar) → TracesOver o sections_take (walk around t) scan

  inner-traced : (walk : StatementWalk) (x : Scan) (around : Around) → TracesStatement walk x → Traces o statement_taken (scans.scoped x) (scoped (walk around))
  inner-traced walk x around h = scoped-traced statement_taken x (walk around) (h around)

  bound-traced : (place : Place) (body : Body) (bound : Option LoopBound) (counter : Option Counter) → Traces o nothing_taken unchanged (bounded place body bound counter)
  bound-traced place body bound counter = λ s env f.
      passing-some (Traced o s env nothing_taken s) NoBound place (bound_of body bound counter) (λ n env. Passes n env) env (λ n e. traced-same o nothing_taken s env n f tt)

  -- ---- loops

  pub while-traced : (body : Body) (bound : Option LoopBound) (place : Place) (e : Expr) (walk : StatementWalk) (x : Scan) → is_spelled e ≡ true → TracesStatement walk x
      → Traces o iteration_taken (λ s. scans.scoped x (scan_of e s)) (while_walk body bound place e walk)
  while-traced body bound place e walk x h k = λ s env f.
      let t = scan_of e s in
      let u = scans.scoped x t in
      traced-after o controlled iteration_taken s env (controlling_of place e env) (λ c env. after (scoped (walk in_loop) env) (λ st env. while_end body bound place c st env)) t u (controlling-traced place e h s env f)
      (λ c one r. traced-after o statement_taken iteration_taken t one (scoped (walk in_loop) one) (λ st env. while_end body bound place c st env) u u (inner-traced walk x in_loop k t one r.0)
      (λ st two q. traced-after o nothing_taken iteration_taken u two (bounded place body bound None two) (λ n env. Passes (iteration.While (while_tokens bound) n c st) env) u u (bound-traced place body bound None u two q.0)
      (λ n last p. traced-same o iteration_taken u last (iteration.While (while_tokens bound) n c st) p.0
      (made (IsTaken o u last) (iteration_taken (iteration.While (while_tokens bound) n c st)) (taken_in c.value ++ statement_taken st) (at-while (while_tokens bound) n c st)
      (each-append (IsTaken o u last) (taken_in c.value) (statement_taken st) (still-taken o u two u last (taken_in c.value) p.2 (still-taken o t one u two (taken_in c.value) q.2 r.3)) (still-taken o u two u last (statement_taken st) p.2 q.3))))))

  pub do-traced : (body : Body) (bound : Option LoopBound) (place : Place) (walk : StatementWalk) (x : Scan) (e : Expr) → is_spelled e ≡ true → TracesStatement walk x
      → Traces o iteration_taken (λ s. scan_of e (scans.scoped x s)) (do_walk body bound place walk e)
  do-traced body bound place walk x e h k = λ s env f.
      let t = scans.scoped x s in
      let u = scan_of e t in
      traced-after o statement_taken iteration_taken s env (scoped (walk in_loop) env) (λ st env. do_end body bound place e st env) t u (inner-traced walk x in_loop k s env f)
      (λ st one r. traced-after o controlled iteration_taken t one (controlling_of place e one)
      (λ c env. after (bounded place body bound None env) (λ n env. Passes (iteration.Do (do_tokens bound) n st c) env)) u u (controlling-traced place e h t one r.0)
      (λ c two q. traced-after o nothing_taken iteration_taken u two (bounded place body bound None two) (λ n env. Passes (iteration.Do (do_tokens bound) n st c) env) u u (bound-traced place body bound None u two q.0)
      (λ n last p. traced-same o iteration_taken u last (iteration.Do (do_tokens bound) n st c) p.0
      (made (IsTaken o u last) (iteration_taken (iteration.Do (do_tokens bound) n st c)) (statement_taken st ++ taken_in c.value) (at-do (do_tokens bound) n st c)
      (each-append (IsTaken o u last) (statement_taken st) (taken_in c.value) (still-taken o u two u last (statement_taken st) p.2 (still-taken o t one u two (statement_taken st) q.2 r.3)) (still-taken o u two u last (taken_in c.value) p.2 q.3))))))

  abbrev head_takes : ForHead → List ℕ
  head_takes head = first_takes head.first ++ controlling_takes head.condition ++ step_of_loop_takes head.step

  head-traced : (place : Place) (initial : First) (e : Option Expr) (step : Option ExpressionStatement) → first_spelled initial ≡ true → spelled_where e ≡ true → step_spelled step ≡ true
      → Traces o head_takes (λ s. simple_where step (scan_where e (first_scan initial s))) (for_head place initial e step)
  head-traced place initial e step h k l = λ s env f.
      let t = first_scan initial s in
      let u = scan_where e t in
      let v = simple_where step u in
      traced-after o first_takes head_takes s env (first_of initial env)
      (λ f env. after (controlling_where place e env)
      (λ c env. let number = step_number env step in
      after (step_where step env) (λ s env. Passes (record { first = f; condition = c; number = number; step = s }) env))) t v (first-traced initial h s env f)
      (λ fi one r. traced-after o controlling_takes head_takes t one (controlling_where place e one)
      (λ c env. let number = step_number env step in
      after (step_where step env) (λ s env. Passes (record { first = fi; condition = c; number = number; step = s }) env)) u v (controlling-where-traced place e k t one r.0)
      (λ c two q. traced-after o step_of_loop_takes head_takes u two (step_where step two) (λ s env. Passes (record { first = fi; condition = c; number = step_number two step; step = s }) env) v v (step-traced step l u two q.0)
      (λ st last p. traced-same o head_takes v last (record { first = fi; condition = c; number = step_number two step; step = st }) p.0
      (each-append (IsTaken o v last) (first_takes fi ++ controlling_takes c) (step_of_loop_takes st)
      (each-append (IsTaken o v last) (first_takes fi) (controlling_takes c) (still-taken o u two v last (first_takes fi) p.2 (still-taken o t one u two (first_takes fi) q.2 r.3)) (still-taken o u two v last (controlling_takes c) p.2 q.3))
      p.3))))

  pub for-traced : (body : Body) (bound : Option LoopBound) (place : Place) (initial : First) (e : Option Expr) (step : Option ExpressionStatement) (walk : StatementWalk) (x : Scan) → first_spelled initial ≡ true
      → spelled_where e ≡ true → step_spelled step ≡ true → TracesStatement walk x
      → Traces o iteration_taken (λ s. scans.scoped x (simple_where step (scan_where e (first_scan initial s)))) (for_walk body bound place initial e step walk)
  for-traced body bound place initial e step walk x h k l m = λ s env f.
      let t = simple_where step (scan_where e (first_scan initial s)) in
      let u = scans.scoped x t in
      traced-after o head_takes iteration_taken s env (for_head place initial e step env) (λ head env. after (scoped (walk in_loop) env) (λ st env. for_end body bound place initial head st env)) t u (head-traced place initial e step h k l s env f)
      (λ head one r. traced-after o statement_taken iteration_taken t one (scoped (walk in_loop) one) (λ st env. for_end body bound place initial head st env) u u (inner-traced walk x in_loop m t one r.0)
      (λ st two q.
      let counter = counter_of body head.number head.first head.condition head.step st in
      traced-after o nothing_taken iteration_taken u two (bounded place body bound counter two)
      (λ n env. Passes (iteration.For (for_tokens bound initial) n counter head.first head.condition head.step st) env) u u (bound-traced place body bound counter u two q.0)
      (λ n last p. traced-same o iteration_taken u last (iteration.For (for_tokens bound initial) n counter head.first head.condition head.step st) p.0
      (made (IsTaken o u last) (iteration_taken (iteration.For (for_tokens bound initial) n counter head.first head.condition head.step st)) (head_takes head ++ statement_taken st)
      (at-for (for_tokens bound initial) n counter head.first head.condition head.step st)
      (each-append (IsTaken o u last) (head_takes head) (statement_taken st) (still-taken o u two u last (head_takes head) p.2 (still-taken o t one u two (head_takes head) q.2 r.3)) (still-taken o u two u last (statement_taken st) p.2 q.3))))))

  -- ---- selections

  abbrev pub OtherwiseTraces : Option StatementWalk → Option Scan → Type 0
  OtherwiseTraces None None = Unit {0}
  OtherwiseTraces None (Some x) = ⊥
  OtherwiseTraces (Some walk) None = ⊥
  OtherwiseTraces (Some walk) (Some x) = TracesStatement walk x

  abbrev otherwise_takes : Option TypedStatement → List ℕ
  otherwise_takes None = []
  otherwise_takes (Some st) = statement_taken st

  otherwise-traced : (walk : Option StatementWalk) (x : Option Scan) (around : Around) → OtherwiseTraces walk x → Traces o otherwise_takes (scoped_where x) (otherwise_walk walk around)
  otherwise-traced None None around h = λ s env f. traced-same o otherwise_takes s env None f tt
  otherwise-traced None (Some x) around h = absurd h
  otherwise-traced (Some walk) None around h = absurd h
  otherwise-traced (Some walk) (Some x) around h = λ s env f.
      traced-with o statement_taken otherwise_takes s env (scoped (walk around) env) (λ env st. Some st) (scans.scoped x s) (inner-traced walk x around h s env f) (λ st new q. q)

  if-takes : (P : ℕ → Type 0) (tokens : ℕ) (c : TypedExpr) (st : TypedStatement) (ot : Option TypedStatement) → Each P (taken_in c) → Each P (statement_taken st) → Each P (otherwise_takes ot) → Each P (selection_taken (selection.If tokens c st ot))
  if-takes P tokens c st None h k l =
      made P (selection_taken (selection.If tokens c st None)) (taken_in c ++ statement_taken st ++ []) (at-if-alone tokens c st) (each-append P (taken_in c ++ statement_taken st) [] (each-append P (taken_in c) (statement_taken st) h k) tt)
  if-takes P tokens c st (Some ot) h k l =
      made P (selection_taken (selection.If tokens c st (Some ot))) (taken_in c ++ statement_taken st ++ statement_taken ot) (at-if tokens c st ot)
      (each-append P (taken_in c ++ statement_taken st) (statement_taken ot) (each-append P (taken_in c) (statement_taken st) h k) l)

  pub if-traced : (place : Place) (e : Expr) (walk : StatementWalk) (x : Scan) (other : Option StatementWalk) (y : Option Scan) (around : Around) → is_spelled e ≡ true → TracesStatement walk x → OtherwiseTraces other y
      → Traces o selection_taken (λ s. scoped_where y (scans.scoped x (scan_of e s))) (if_walk place e walk other around)
  if-traced place e walk x other y around h k l = λ s env f.
      let t = scan_of e s in
      let u = scans.scoped x t in
      let v = scoped_where y u in
      traced-after o taken_in selection_taken s env (condition_of place e env)
      (λ c env. after (scoped (walk around) env) (λ st env. after (otherwise_walk other around env) (λ ot env. Passes (selection.If (if_tokens e other) c st ot) env))) t v (condition-traced place e h s env f)
      (λ c one r. traced-after o statement_taken selection_taken t one (scoped (walk around) one) (λ st env. after (otherwise_walk other around env) (λ ot env. Passes (selection.If (if_tokens e other) c st ot) env)) u v (inner-traced walk x around k t one r.0)
      (λ st two q. traced-after o otherwise_takes selection_taken u two (otherwise_walk other around two) (λ ot env. Passes (selection.If (if_tokens e other) c st ot) env) v v (otherwise-traced other y around l u two q.0)
      (λ ot last p. traced-same o selection_taken v last (selection.If (if_tokens e other) c st ot) p.0
      (if-takes (IsTaken o v last) (if_tokens e other) c st ot (still-taken o u two v last (taken_in c) p.2 (still-taken o t one u two (taken_in c) q.2 r.3)) (still-taken o u two v last (statement_taken st) p.2 q.3) p.3))))

  abbrev switched_takes : Switched → List ℕ
  switched_takes on = taken_in on.value

  switched-traced : (place : Place) (e : Expr) → is_spelled e ≡ true → Traces o switched_takes (scan_of e) (switched_of place e)
  switched-traced place e h = λ s env f.
      let t = scan_of e s in
      traced-after o value_takes switched_takes s env (valued (types_expr e) env)
      (λ v env. unless place (signed (kind_operand (kind_of v.ctype))) (λ p env. Passes (record { scalar = p.scalar; value = converted p.conversion v.expr }) env) env) t t (expr-value e h s env f)
      (λ v new r. passing-unless (Traced o t new switched_takes t) place (signed (kind_operand (kind_of v.ctype))) (λ p env. Passes (record { scalar = p.scalar; value = converted p.conversion v.expr }) env) new
      (λ p q. traced-same o switched_takes t new (record { scalar = p.scalar; value = converted p.conversion v.expr }) r.0 (converted-taken (IsTaken o t new) p.conversion v.expr r.3)))

  each-section : (around : Around) (t : Scalar) (walks : List SectionWalk) (xs : List Scan) → Beside TracesSection walks xs → Beside (TracesOver o sections_take) (map (λ section. section around t) walks) xs
  each-section around t [] [] h = tt
  each-section around t [] (x ∷ xs) h = absurd h
  each-section around t (walk ∷ walks) [] h = absurd h
  each-section around t (walk ∷ walks) (x ∷ xs) h = (h.0 around t, each-section around t walks xs h.1)

  pub switch-traced : (place : Place) (e : Expr) (walks : List SectionWalk) (xs : List Scan) (around : Around) → is_spelled e ≡ true → Beside TracesSection walks xs
      → Traces o selection_taken (λ s. scans.scoped (in_turn xs) (scan_of e s)) (switch_walk place e walks around)
  switch-traced place e walks xs around h hs = λ s env f.
      let t = scan_of e s in
      let u = scans.scoped (in_turn xs) t in
      traced-after o switched_takes selection_taken s env (switched_of place e env)
      (λ on env. after (scoped (sections_walk (in_switch around) on.scalar walks) env) (λ all env. Passes (switch_of e on all) env)) t u (switched-traced place e h s env f)
      (λ on one r. traced-after o sections_take selection_taken t one (scoped (sections_walk (in_switch around) on.scalar walks) one) (λ all env. Passes (switch_of e on all) env) u u
      (scoped-traced sections_take (in_turn xs) (sections_walk (in_switch around) on.scalar walks)
      (λ s env f. along-traced o sections_take (map (λ section. section (in_switch around) on.scalar) walks) xs (each-section (in_switch around) on.scalar walks xs hs) no_sections s env f tt) t one r.0)
      (λ all last q. traced-same o selection_taken u last (switch_of e on all) q.0
      (made (IsTaken o u last) (selection_taken (switch_of e on all)) (taken_in on.value ++ sections_take all) (at-switch _ on.scalar on.value all.sections)
      (each-append (IsTaken o u last) (taken_in on.value) (sections_take all) (still-taken o t one u last (taken_in on.value) q.2 r.3) q.3))))

  one-more : (around : Around) (walk : StatementWalk) (x : Scan) → TracesStatement walk x → TracesOver o statements_take (statement_after around walk) x
  one-more around walk x h = λ before s env f taken.
      let t = x s in
      traced-after o statement_taken statements_take s env (walk around env) (λ st env. Passes (before ++ st ∷ []) env) t t (h around s env f)
      (λ st new r. traced-same o statements_take t new (before ++ st ∷ []) r.0 (all-of-more (IsTaken o t new) statement_taken before st (still-taken o s env t new (statements_take before) r.2 taken) r.3))

  each-statement : (around : Around) (walks : List StatementWalk) (xs : List Scan) → Beside TracesStatement walks xs → Beside (TracesOver o statements_take) (map (statement_after around) walks) xs
  each-statement around [] [] h = tt
  each-statement around [] (x ∷ xs) h = absurd h
  each-statement around (walk ∷ walks) [] h = absurd h
  each-statement around (walk ∷ walks) (x ∷ xs) h = (one-more around walk x h.0, each-statement around walks xs h.1)

  pub section-traced : (labels : List Label) (walks : List StatementWalk) (xs : List Scan) → every (map label_spelled labels) ≡ true → Beside TracesStatement walks xs
      → TracesSection (λ around t sections env.
      after (along (map (label_of t) labels) sections.labelled env)
      (λ labelled env. after (along (map (statement_after around) walks) [] env) (λ statements env. Passes (with_section labelled statements sections.sections) env)))
      (λ s. in_turn xs (in_turn (map scans_label labels) s))
  section-traced labels walks xs h hs = λ around t sections s env f taken.
      let u = in_turn (map scans_label labels) s in
      let v = in_turn xs u in
      traced-after o nothing_taken sections_take s env (along (map (label_of t) labels) sections.labelled env)
      (λ labelled env. after (along (map (statement_after around) walks) [] env) (λ statements env. Passes (with_section labelled statements sections.sections) env)) u v
      (along-traced o nothing_taken (map (label_of t) labels) (map scans_label labels) (each-label t labels h) sections.labelled s env f tt)
      (λ labelled one r. traced-after o statements_take sections_take u one (along (map (statement_after around) walks) [] one) (λ statements env. Passes (with_section labelled statements sections.sections) env) v v
      (along-traced o statements_take (map (statement_after around) walks) xs (each-statement around walks xs hs) [] u one r.0 tt)
      (λ sts last q. traced-same o sections_take v last (with_section labelled sts sections.sections) q.0
      (all-of-more (IsTaken o v last) section_taken sections.sections (roll-TypedSection (record { labels = labelled.labels; statements = sts }))
      (still-taken o u one v last (sections_take sections) q.2 (still-taken o s env u one (sections_take sections) r.2 taken))
      (made (IsTaken o v last) (section_taken (roll-TypedSection (record { labels = labelled.labels; statements = sts }))) (statements_take sts) (at-section labelled.labels sts) q.3))))

  -- ---- items and blocks

  pub statement-item-traced : (walk : StatementWalk) (x : Scan) → TracesStatement walk x → TracesItem (λ around items env. after (walk around env) (λ st env. Passes (with_item (item.Statement st) items) env)) x
  statement-item-traced walk x h = λ around items s env f taken.
      let t = x s in
      traced-after o statement_taken items_take s env (walk around env) (λ st env. Passes (with_item (item.Statement st) items) env) t t (h around s env f)
      (λ st new r. traced-same o items_take t new (with_item (item.Statement st) items) r.0
      (all-of-more (IsTaken o t new) item_taken items.items (item.Statement st) (still-taken o s env t new (items_take items) r.2 taken)
      (made (IsTaken o t new) (item_taken (item.Statement st)) (statement_taken st) (at-statement-item st) r.3)))

  pub declaration-item-traced : (declaration : Declaration) → is_spelled_declaration declaration ≡ true → TracesItem (λ around items env. declaration_item declaration items env) (scans_declaration declaration)
  declaration-item-traced declaration h = λ around items s env f taken.
      let b = both (are_spelled_specs declaration.specs) (every (map is_spelled_init declaration.declarators)) h in
      let t = scans_specs declaration.specs s in
      let u = in_turn (map scans_declared declaration.declarators) t in
      traced-after o nothing_taken items_take s env (object_specs declaration env) (λ q env. along (map (object_after q) declaration.declarators) (with_tokens (declaration_tokens declaration) items) env) t u (objects-traced o declaration b.0 s env f)
      (λ q new r. along-traced o items_take (map (object_after q) declaration.declarators) (map scans_declared declaration.declarators) (each-item q declaration.declarators b.1) (with_tokens (declaration_tokens declaration) items) t new r.0
      (still-taken o s env t new (items_take items) r.2 taken))

  each-part : (around : Around) (walks : List ItemWalk) (xs : List Scan) → Beside TracesItem walks xs → Beside (TracesOver o items_take) (map (λ part. part around) walks) xs
  each-part around [] [] h = tt
  each-part around [] (x ∷ xs) h = absurd h
  each-part around (walk ∷ walks) [] h = absurd h
  each-part around (walk ∷ walks) (x ∷ xs) h = (h.0 around, each-part around walks xs h.1)

  pub block-traced : (walks : List ItemWalk) (xs : List Scan) → Beside TracesItem walks xs → TracesBlock (λ around env. after (along (map (λ part. part around) walks) no_items env) (λ all env. Passes (block_of all) env)) (in_turn xs)
  block-traced walks xs hs = λ around s env f.
      let t = in_turn xs s in
      traced-with o items_take taken_by s env (along (map (λ part. part around) walks) no_items env) (λ env all. block_of all) t (along-traced o items_take (map (λ part. part around) walks) xs (each-part around walks xs hs) no_items s env f tt)
      (λ all new q. made (IsTaken o t new) (taken_by (block_of all)) (items_take all) (at-whole all.tokens all.items) q)

  -- ---- other statements

  quiet : (st : TypedStatement) → statement_taken st ≡ [] → (s : Scanning) (env : Environment) → Follows o s env → Traced o s env statement_taken s st env
  quiet st e s env f = traced-same o statement_taken s env st f (made (IsTaken o s env) (statement_taken st) [] e tt)

  pub empty-traced : TracesStatement (λ around env. Passes statement.Empty env) unchanged
  empty-traced = λ around s env f. quiet statement.Empty at-empty s env f

  pub break-traced : (place : Place) → TracesStatement (λ around env. if around.breaks then Passes statement.Break env else Breaks Mismatch place) unchanged
  break-traced place = λ around s env f. passing-if (Traced o s env statement_taken s) around.breaks (Passes statement.Break env) (Breaks Mismatch place) (λ b. quiet statement.Break at-break s env f) (λ b. tt)

  pub continue-traced : (place : Place) → TracesStatement (λ around env. if around.continues then Passes statement.Continue env else Breaks Mismatch place) unchanged
  continue-traced place = λ around s env f. passing-if (Traced o s env statement_taken s) around.continues (Passes statement.Continue env) (Breaks Mismatch place) (λ b. quiet statement.Continue at-continue s env f) (λ b. tt)

  pub expression-traced : (x : ExpressionStatement) → is_spelled_simple x ≡ true → TracesStatement (λ around env. expression_walk x env) (scans_simple x)
  expression-traced x h = λ around s env f.
      let t = scans_simple x s in
      traced-with o effect_takes statement_taken s env (effect_of x env) (λ env e. statement.Effect (plus (simple_tokens x) 1) e) t (effect-traced x h s env f)
      (λ e new q. made (IsTaken o t new) (statement_taken (statement.Effect (plus (simple_tokens x) 1) e)) (effect_takes e) (at-effect (plus (simple_tokens x) 1) e) q)

  none-returned : (place : Place) (k : ValueKind) (s : Scanning) (env : Environment) → Follows o s env → Passing (Traced o s env statement_taken s) (elim k [
    | kind.Void ↦ Passes (statement.Return (return_tokens None) kind.Void None) env
    | kind.Integer t ↦ Breaks Mismatch place
    | kind.Pointer ↦ Breaks Mismatch place
    | kind.Struct number ↦ Breaks Mismatch place
  ])
  none-returned place kind.Void s env f = quiet (statement.Return (return_tokens None) kind.Void None) (at-return (return_tokens None) kind.Void None) s env f
  none-returned place (kind.Integer t) s env f = tt
  none-returned place kind.Pointer s env f = tt
  none-returned place (kind.Struct number) s env f = tt

  pub return-traced : (body : Body) (place : Place) (value : Option Expr) → spelled_where value ≡ true → TracesStatement (λ around env. return_walk body place value env) (scan_where value)
  return-traced body place None h = λ around s env f. none-returned place (kind_of body.result) s env f
  return-traced body place (Some e) h = λ around s env f.
      let t = scan_of e s in
      let made_of = λ (value : TypedExpr). statement.Return (return_tokens (Some e)) (kind_of body.result) (Some value) in
      traced-after o value_takes statement_taken s env (valued (types_expr e) env) (λ v env. after (assigned_to place body.result v env) (λ value env. Passes (made_of value) env)) t t (expr-value e h s env f)
      (λ v new r. traced-in o statement_taken t new (after (assigned_to place body.result v new) (λ value env. Passes (made_of value) env)) r.0
      (stays-after (λ e x. Each (IsTaken o t new) (taken_in x)) (Stays (λ e x. Each (IsTaken o t new) (statement_taken x)) new) new (assigned_to place body.result v new) (λ value env. Passes (made_of value) env)
      (assigned-taken (IsTaken o t new) place body.result v new r.3)
      (λ value q. (refl, made (IsTaken o t new) (statement_taken (made_of value)) (taken_in value) (at-return (return_tokens (Some e)) (kind_of body.result) (Some value)) q))))

  pub block-statement-traced : (walk : BlockWalk) (x : Scan) → TracesBlock walk x → TracesStatement (λ around env. scoped_block walk around env) (scans.scoped x)
  block-statement-traced walk x h = λ around s env f.
      let t = scans.scoped x s in
      traced-with o taken_by statement_taken s env (scoped (walk around) env) (λ env b. statement.Block b) t (scoped-traced taken_by x (walk around) (h around) s env f)
      (λ b new q. made (IsTaken o t new) (statement_taken (statement.Block b)) (taken_by b) (at-block b) q)

  pub selection-statement-traced : (walk : SelectionWalk) (x : Scan) → TracesSelection walk x → TracesStatement (λ around env. scoped_selection walk around env) (scans.scoped x)
  selection-statement-traced walk x h = λ around s env f.
      let t = scans.scoped x s in
      traced-with o selection_taken statement_taken s env (scoped (walk around) env) (λ env y. statement.Selection y) t (scoped-traced selection_taken x (walk around) (h around) s env f)
      (λ y new q. made (IsTaken o t new) (statement_taken (statement.Selection y)) (selection_taken y) (at-selection y) q)

  pub iteration-statement-traced : (walk : IterationWalk) (x : Scan) → TracesIteration walk x → TracesStatement (λ around env. scoped_iteration walk around env) (scans.scoped x)
  iteration-statement-traced walk x h = λ around s env f.
      let t = scans.scoped x s in
      traced-with o iteration_taken statement_taken s env (scoped (walk around) env) (λ env y. statement.Iteration y) t (scoped-traced iteration_taken x (walk around) (h around) s env f)
      (λ y new q. made (IsTaken o t new) (statement_taken (statement.Iteration y)) (iteration_taken y) (at-iteration y) q)

  -- ---- tags that stand alone

  -- the scan of "struct s;"
  empty-tag : (x : TagSpecifier) (place : Place) (name : Identifier) → out-TagSpecifier x ≡ TagSpecifier-F.Struct place (Some name) None → scans_tag x ≡ unchanged
  empty-tag x place name e =
      E.fold_out-TagSpecifier ExprScan Scan Scan Scan Scan Scan Scan Scan Scan Scan expr_scan suffix_scan tag_scan spelling_scan dimension_scan enumerator_scan operand_scan specs_scan member_scan declarator_scan x
      ∙ ap (λ y. tag_scan (E.map-TagSpecifier Expr Suffix TagSpecifier TypeSpecifier Dimension Enumerator Operand Specifiers StructDeclaration StructDeclarator ExprScan Scan Scan Scan Scan Scan Scan Scan Scan Scan
      scans_expr scans_suffix scans_tag scans_spelling scans_dimension scans_enumerator scans_operand scans_specs scans_member scans_declarator y)) e

  whole-tag : (x : TagSpecifier) → is_spelled_tag x ≡ true → Traces o {A = Unit {0}} nothing_taken (scans_tag x) (λ env. after ((types_tag x).walk env) (λ c env. Passes tt env))
  whole-tag x h = λ s env f. traced-with o {B = Unit {0}} nothing_taken nothing_taken s env ((types_tag x).walk env) (λ env c. tt) (scans_tag x s) (tag-traced o x h s env f) (λ c new q. tt)

  alone-by : (x : TagSpecifier) (y : TagSpecifier-F Expr Suffix TagSpecifier TypeSpecifier Dimension Enumerator Operand Specifiers StructDeclaration StructDeclarator) → out-TagSpecifier x ≡ y → is_spelled_tag x ≡ true
      → Traces o nothing_taken (scans_tag x) (λ env. layer_tag_alone x y env)
  alone-by x (TagSpecifier-F.Struct place None members) e h = whole-tag x h
  alone-by x (TagSpecifier-F.Struct place (Some name) None) e h =
      subst (λ (scan : Scan). Traces o nothing_taken scan (struct_alone name)) (sym (empty-tag x place name e)) (λ s env f. declared-alone name (tag_at env.tags (found_here env.tag_names name.text)) s env f)
  alone-by x (TagSpecifier-F.Struct place (Some name) (Some members)) e h = whole-tag x h
  alone-by x (TagSpecifier-F.Enum place name constants comma) e h = whole-tag x h

  pub tag-alone-traced : (x : TagSpecifier) → is_spelled_tag x ≡ true → Traces o nothing_taken (scans_tag x) (tag_alone x)
  tag-alone-traced x h = alone-by x (out-TagSpecifier x) refl h

  pub tag-item-traced : (x : TagSpecifier) → is_spelled_tag x ≡ true → TracesItem (λ around items env. after (tag_alone x env) (λ _ env. Passes (with_tokens (tag_tokens x) items) env)) (scans_tag x)
  tag-item-traced x h = λ around items s env f taken.
      let t = scans_tag x s in
      traced-after o nothing_taken items_take s env (tag_alone x env) (λ _ env. Passes (with_tokens (tag_tokens x) items) env) t t (tag-alone-traced x h s env f)
      (λ u new r. traced-same o items_take t new (with_tokens (tag_tokens x) items) r.0 (still-taken o s env t new (items_take items) r.2 taken))
