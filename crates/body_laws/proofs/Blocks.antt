-- Blocks and other statements (C11 6.8.2, 6.8.3, 6.8.6): where their parts keep the rules of typed programs, they do.
use Rattle.std.proofs.Common.{◌≡◌, ◌&&◌, Bool, true, false, Option, None, Some, List, [], ◌∷◌, map, ap, sym, subst, ◌∙◌, refl}
use Rattle.c_tree.specs.declared.token.Place.{Place}
use Rattle.c_tree.specs.declared.expressions.Identifier.{Identifier}
use Rattle.c_tree.specs.declared.expressions.Expr.{Expr}
use Rattle.c_tree.specs.declared.expressions.TagSpecifier.{TagSpecifier}
use Rattle.c_tree.specs.declared.expressions.Expr.TheOpen.{TagSpecifier-F}
use Rattle.c_tree.specs.declared.expressions.Expr.TheViews.{out-TagSpecifier}
use Rattle.c_tree.specs.declared.statements.Declaration.{Declaration}
use Rattle.c_tree.specs.declared.statements.InitDeclarator.{InitDeclarator}
use Rattle.c_tree.specs.declared.statements.ExpressionStatement.{ExpressionStatement}
use Rattle.c_meaning.specs.declared.types.CType.{CType}
use Rattle.c_meaning.specs.declared.types.ValueKind.{ValueKind}
use Rattle.c_meaning.specs.declared.types.ValueKind.TheVariants as kind
use Rattle.c_meaning.specs.declared.statements.TypedStatement.TheVariants as statement
use Rattle.c_meaning.specs.declared.statements.TypedItem.TheVariants as item
use Rattle.c_meaning.specs.Types.{kind_of}
use Rattle.c_meaning.specs.Rules.{IsAssignable}
use Rattle.c_conversions.specs.declared.fault.TypeKind.TheVariants.{Mismatch}
use Rattle.c_scopes.specs.Scopes.{found_here}
use Rattle.c_typing.specs.declared.environment.Tag.{Tag}
use Rattle.c_typing.specs.declared.environment.Tag.TheVariants as tag
use Rattle.c_typing.specs.declared.environment.Environment.{Environment}
use Rattle.c_typing.specs.declared.environment.QualifiedType.{QualifiedType}
use Rattle.c_typing.specs.Walks.{Breaks, Passes, after, along}
use Rattle.c_typing.specs.Expressions.{valued, assigned_to}
use Rattle.c_typing.specs.Specifiers.{tag_at, declared_alone}
use Rattle.c_expressions.specs.Typing.{types_expr, types_tag}
use Rattle.c_objects.specs.declared.initializers.Storage.TheVariants.{Automatic}
use Rattle.c_objects.specs.Objects.{object_specs, declarator_walk}
use Rattle.c_heads.specs.declared.context.Body.{Body}
use Rattle.c_heads.specs.Effects.{effect_of}
use Rattle.c_heads.specs.Scopes.{scoped, layer_tag_alone, tag_alone}
use Rattle.c_heads.specs.Tokens.{plus, simple_tokens, declaration_tokens, tag_tokens, return_tokens}
use Rattle.c_bodies.specs.declared.context.Around.{Around}
use Rattle.c_bodies.specs.declared.context.ItemList.{ItemList}
use Rattle.c_bodies.specs.Statements.{StatementWalk, BlockWalk, SelectionWalk, IterationWalk, ItemWalk, break_walk, continue_walk, return_walk, expression_walk, scoped_block, scoped_selection, scoped_iteration, with_item, with_tokens, object_after, declaration_item, no_items, block_of}
use Rattle.typing_laws.specs.Passing.{Passing, scope_of}
use Rattle.typing_laws.specs.Environments.{IsWellFormed}
use Rattle.typing_laws.proofs.Environments.{extends-refl}
use Rattle.expression_laws.specs.Keeping.{Each, Grown, Keeps, KeepsOver, ValueIn, AssignableIn, TypeIn}
use Rattle.expression_laws.proofs.Steps.{passing-if, passing-weaker, grown-in, grown-after}
use Rattle.expression_laws.proofs.Weakened.{scope-stands, plain-kept}
use Rattle.expression_laws.proofs.Joined.{assigned-passing}
use Rattle.expression_laws.proofs.Walked.{along-keeps, valued-keeps}
use Rattle.specifier_laws.specs.Declared.{PlainIn}
use Rattle.specifier_laws.proofs.Declaring.{tag-extends, tag-well}
use Rattle.source_laws.specs.Spelled.{every, is_spelled_tag, are_spelled_specs}
use Rattle.source_laws.proofs.Sources.{expr-typed, tag-typed}
use Rattle.effect_laws.specs.Simple.{is_spelled_simple, EffectIn}
use Rattle.effect_laws.proofs.Effects.{effect-keeps}
use Rattle.effect_laws.proofs.Lasting.{effect-lasts, expr-lasts, assignable-lasts}
use Rattle.object_laws.specs.Declaring.{is_spelled_init, is_spelled_declaration, DeclaratorIn}
use Rattle.object_laws.proofs.Declarations.{declarator-passing, specs-passing}
use Rattle.statement_laws.specs.Final.{IsTypedItem}
use Rattle.statement_laws.proofs.Scoping.{scoped-keeps}
use Rattle.statement_laws.proofs.Lasting.{declarator-lasts}
use Rattle.statement_laws.proofs.Nodes.{block-statement, effect-statement, break-statement, continue-statement, return-statement, selection-statement, iteration-statement, statement-item, object-item, block-made}
use Rattle.body_laws.specs.Statements.{spelled_where, StatementIn, SelectionIn, IterationIn, BlockIn, ItemsIn, KeepsStatement, KeepsSelection, KeepsIteration, KeepsBlock, KeepsItem}
use Rattle.body_laws.proofs.Finals.{final-before, each-more}

both : (a b : Bool) → (a && b) ≡ true → (a ≡ true) × (b ≡ true)
both true b h = (refl, h)
both false b h = absurd (cc)

abbrev AnyIn : {A : Type 0} → Environment → A → Type 0
AnyIn env a = Unit {0}

-- ---- tags that stand alone (C11 6.7.2.3p7)

alone-passing : (name : Identifier) (o : Option Tag) (env : Environment) → IsWellFormed env → Passing (Grown AnyIn env) (declared_alone name o env)
alone-passing name None env well = (tag-extends tag.Declared env name.text, tag-well tag.Declared env name.text well tt, tt)
alone-passing name (Some tag.Enum) env well = tt
alone-passing name (Some tag.Declared) env well = (extends-refl env, well, tt)
alone-passing name (Some tag.Open) env well = (extends-refl env, well, tt)
alone-passing name (Some (tag.Complete number)) env well = (extends-refl env, well, tt)

module _ (t : TagSpecifier) (h : is_spelled_tag t ≡ true) where
  other-keeps : Keeps AnyIn (λ env. after ((types_tag t).walk env) (λ c env. Passes (tt {0}) env))
  other-keeps = λ env well. grown-after TypeIn AnyIn env ((types_tag t).walk env) (λ c env. Passes (tt {0}) env) (tag-typed t h env well) (λ c new g w r. (extends-refl new, w, tt))

  layer-keeps : {A B C D E F G H I J : Type 0} → (y : TagSpecifier-F A B C D E F G H I J) → Keeps AnyIn (layer_tag_alone t y)
  layer-keeps (TagSpecifier-F.Struct place None members) = other-keeps
  layer-keeps (TagSpecifier-F.Struct place (Some name) (Some members)) = other-keeps
  layer-keeps (TagSpecifier-F.Struct place (Some name) None) = λ env well. alone-passing name (tag_at env.tags (found_here env.tag_names name.text)) env well
  layer-keeps (TagSpecifier-F.Enum place name constants comma) = other-keeps

  pub alone-keeps : Keeps AnyIn (tag_alone t)
  alone-keeps = layer-keeps (out-TagSpecifier t)

module _ (body : Body) where
  -- ---- other statements

  pub break-keeps : (place : Place) (around : Around) → Keeps (StatementIn body) (break_walk place around)
  break-keeps place around = λ env well.
      passing-if (Grown (StatementIn body) env) around.breaks (Passes statement.Break env) (Breaks Mismatch place) (λ e. (extends-refl env, well, (λ within f. break-statement within))) (λ e. tt)

  pub continue-keeps : (place : Place) (around : Around) → Keeps (StatementIn body) (continue_walk place around)
  continue-keeps place around = λ env well.
      passing-if (Grown (StatementIn body) env) around.continues (Passes statement.Continue env) (Breaks Mismatch place) (λ e. (extends-refl env, well, (λ within f. continue-statement within))) (λ e. tt)

  pub expression-keeps : (value : ExpressionStatement) → is_spelled_simple value ≡ true → Keeps (StatementIn body) (expression_walk value)
  expression-keeps value h = λ env well.
      grown-after EffectIn (StatementIn body) env (effect_of value env) (λ e env. Passes (statement.Effect (plus (simple_tokens value) 1) e) env) (effect-keeps value h env well)
      (λ e new g w r. (
        extends-refl new,
        w,
        (λ within f. effect-statement within (plus (simple_tokens value) 1) e (effect-lasts (scope_of new) within.scope f.0 (scope-stands new w) e r)),
      ))

  none-passing : (place : Place) (k : ValueKind) (env : Environment) → kind_of body.result ≡ k → IsWellFormed env
      → Passing (Grown (StatementIn body) env) (elim k [
        | kind.Void ↦ Passes (statement.Return (return_tokens None) kind.Void None) env
        | kind.Integer t ↦ Breaks Mismatch place
        | kind.Pointer ↦ Breaks Mismatch place
        | kind.Struct number ↦ Breaks Mismatch place
      ])
  none-passing place kind.Void env e well =
      (extends-refl env, well, (λ within f. return-statement within (return_tokens None) kind.Void None (ap kind_of f.1 ∙ e, refl)))
  none-passing place (kind.Integer t) env e well = tt
  none-passing place kind.Pointer env e well = tt
  none-passing place (kind.Struct number) env e well = tt

  pub return-keeps : (place : Place) (value : Option Expr) → spelled_where value ≡ true → Keeps (StatementIn body) (return_walk body place value)
  return-keeps place None h = λ env well. none-passing place (kind_of body.result) env refl well
  return-keeps place (Some e) h = λ env well.
      grown-after ValueIn (StatementIn body) env (valued (types_expr e) env)
      (λ v env. after (assigned_to place body.result v env)
      (λ value env. Passes (statement.Return (return_tokens (Some e)) (kind_of body.result) (Some value)) env)) (valued-keeps (types_expr e) (expr-typed e h) env well)
      (λ v new g w r. grown-after (AssignableIn body.result) (StatementIn body) new (assigned_to place body.result v new)
      (λ value env. Passes (statement.Return (return_tokens (Some e)) (kind_of body.result) (Some value)) env)
      (grown-in (AssignableIn body.result) new (assigned_to place body.result v new) w (assigned-passing new place body.result v r))
      (λ value last j u a. (
        extends-refl last,
        u,
        λ within f.
            let stand = scope-stands last u in
            let k = expr-lasts (scope_of last) within.scope f.0 stand value a.0 in
            let assignable = assignable-lasts (scope_of last) within.scope f.0 stand value body.result a.0 a.1 in
            return-statement within (return_tokens (Some e)) (kind_of body.result) (Some value)
            (k.0, subst (λ (c : CType). IsAssignable within.scope value c) (sym f.1) assignable, ap kind_of f.1),
      )))

  pub block-keeps : (block : BlockWalk) (around : Around) → KeepsBlock body block → Keeps (StatementIn body) (scoped_block block around)
  block-keeps block around h = λ env well.
      grown-after (BlockIn body) (StatementIn body) env (scoped (block around) env) (λ b env. Passes (statement.Block b) env) (scoped-keeps (BlockIn body) (block around) (λ env a r. r) (h around) env well)
      (λ b new g w r. (extends-refl new, w, (λ within f. block-statement within b (r within f))))

  pub selection-keeps : (walk : SelectionWalk) (around : Around) → KeepsSelection body walk → Keeps (StatementIn body) (scoped_selection walk around)
  selection-keeps walk around h = λ env well.
      grown-after (SelectionIn body) (StatementIn body) env (scoped (walk around) env) (λ s env. Passes (statement.Selection s) env) (scoped-keeps (SelectionIn body) (walk around) (λ env a r. r) (h around) env well)
      (λ s new g w r. (extends-refl new, w, (λ within f. selection-statement within s (r within f))))

  pub iteration-keeps : (walk : IterationWalk) (around : Around) → KeepsIteration body walk → Keeps (StatementIn body) (scoped_iteration walk around)
  iteration-keeps walk around h = λ env well.
      grown-after (IterationIn body) (StatementIn body) env (scoped (walk around) env) (λ i env. Passes (statement.Iteration i) env) (scoped-keeps (IterationIn body) (walk around) (λ env a r. r) (h around) env well)
      (λ i new g w r. (extends-refl new, w, (λ within f. iteration-statement within i (r within f))))

  -- ---- items

  pub statement-item-keeps : (walk : StatementWalk) → KeepsStatement body walk → KeepsItem body (λ around items env. after (walk around env) (λ s env. Passes (with_item (item.Statement s) items) env))
  statement-item-keeps walk h = λ around items env well r.
      grown-after (StatementIn body) (ItemsIn body) env (walk around env) (λ s env. Passes (with_item (item.Statement s) items) env) (h around env well)
      (λ s new g w p. (extends-refl new, w, (λ within f. each-more (IsTypedItem within) items.items (item.Statement s) (r within (final-before body env new g within f)) (statement-item within s (p within f)))))

  module _ (q : QualifiedType) where
    abbrev SoFar : Environment → ItemList → Type 0
    SoFar env items = ItemsIn body env items × PlainIn env q.ctype

    object-after-keeps : (d : InitDeclarator) → is_spelled_init d ≡ true → KeepsOver SoFar (object_after q d)
    object-after-keeps d h = λ items env well r.
        grown-after (DeclaratorIn Automatic) SoFar env (declarator_walk Automatic q d env) (λ declared env. Passes (with_item (item.Object declared) items) env) (declarator-passing Automatic q d env h well r.1)
        (λ declared new g w fits. (
          extends-refl new,
          w,
          (
            (λ within f. each-more (IsTypedItem within) items.items (item.Object declared) (r.0 within (final-before body env new g within f))
                (object-item within declared (declarator-lasts (scope_of new) within.scope f.0 (scope-stands new w) declared fits))),
            plain-kept env new g well q.ctype r.1,
          ),
        ))

    each-object : (ds : List InitDeclarator) → every (map is_spelled_init ds) ≡ true → Each (KeepsOver SoFar) (map (object_after q) ds)
    each-object [] h = tt
    each-object (d ∷ ds) h = let b = both (is_spelled_init d) (every (map is_spelled_init ds)) h in (object-after-keeps d b.0, each-object ds b.1)

  pub declaration-item-keeps : (declaration : Declaration) → is_spelled_declaration declaration ≡ true → KeepsItem body (λ around items env. declaration_item declaration items env)
  declaration-item-keeps declaration h = λ around items env well r.
      let b = both (are_spelled_specs declaration.specs) (every (map is_spelled_init declaration.declarators)) h in
      grown-after (λ env q. PlainIn env q.ctype) (ItemsIn body) env (object_specs declaration env)
      (λ q env. along (map (object_after q) declaration.declarators) (with_tokens (declaration_tokens declaration) items) env) (specs-passing declaration env b.0 well)
      (λ q new g w plain. passing-weaker (Grown (SoFar q) new) (Grown (ItemsIn body) new) (along (map (object_after q) declaration.declarators) (with_tokens (declaration_tokens declaration) items) new)
      (λ all last s. (s.0, s.1, s.2.0))
      (along-keeps (SoFar q) (map (object_after q) declaration.declarators) (each-object q declaration.declarators b.1) (with_tokens (declaration_tokens declaration) items) new w
      ((λ within f. r within (final-before body env new g within f)), plain)))

  pub tag-item-keeps : (t : TagSpecifier) → is_spelled_tag t ≡ true → KeepsItem body (λ around items env. after (tag_alone t env) (λ _ env. Passes (with_tokens (tag_tokens t) items) env))
  tag-item-keeps t h = λ around items env well r.
      grown-after AnyIn (ItemsIn body) env (tag_alone t env) (λ _ env. Passes (with_tokens (tag_tokens t) items) env) (alone-keeps t h env well)
      (λ u new g w p. (extends-refl new, w, (λ within f. r within (final-before body env new g within f))))

  each-item : (around : Around) (walks : List ItemWalk) → Each (KeepsItem body) walks → Each (KeepsOver (ItemsIn body)) (map (λ part. part around) walks)
  each-item around [] h = tt
  each-item around (walk ∷ walks) h = (h.0 around, each-item around walks h.1)

  pub whole-block-keeps : (parts : List ItemWalk) → Each (KeepsItem body) parts → KeepsBlock body (λ around env. after (along (map (λ part. part around) parts) no_items env) (λ all env. Passes (block_of all) env))
  whole-block-keeps parts h = λ around env well.
      grown-after (ItemsIn body) (BlockIn body) env (along (map (λ part. part around) parts) no_items env) (λ all env. Passes (block_of all) env)
      (along-keeps (ItemsIn body) (map (λ part. part around) parts) (each-item around parts h) no_items env well (λ within f. tt))
      (λ all new g w r. (extends-refl new, w, (λ within f. block-made within all.tokens all.items (r within f))))
