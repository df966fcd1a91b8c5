-- Loops (C11 6.8.5): where their parts keep the rules of typed programs, they do.
use Rattle.std.proofs.Common.{◌≡◌, ◌&&◌, ℕ, Bool, true, false, Option, None, List, [], ◌∷◌, ◌++◌, map, refl}
use Rattle.c_tree.specs.declared.token.Place.{Place}
use Rattle.c_tree.specs.declared.expressions.Expr.{Expr}
use Rattle.c_tree.specs.declared.statements.LoopBound.{LoopBound}
use Rattle.c_tree.specs.declared.statements.First.{First}
use Rattle.c_tree.specs.declared.statements.First.TheVariants as source
use Rattle.c_tree.specs.declared.statements.Declaration.{Declaration}
use Rattle.c_tree.specs.declared.statements.InitDeclarator.{InitDeclarator}
use Rattle.c_tree.specs.declared.statements.ExpressionStatement.{ExpressionStatement}
use Rattle.c_meaning.specs.declared.statements.Controlling.{Controlling}
use Rattle.c_meaning.specs.declared.statements.TypedDeclarator.{TypedDeclarator}
use Rattle.c_meaning.specs.declared.statements.TypedFirst.{TypedFirst}
use Rattle.c_meaning.specs.declared.statements.TypedFirst.TheVariants as first
use Rattle.c_meaning.specs.declared.statements.TypedStep.{TypedStep}
use Rattle.c_meaning.specs.declared.statements.TypedStatement.{TypedStatement}
use Rattle.c_meaning.specs.declared.statements.TypedIteration.TheVariants as iteration
use Rattle.c_meaning.specs.StatementRules.{Within, ControllingFits, ControllingWhere, FirstFits, StepFits, DeclaratorFits, DeclaratorsFit}
use Rattle.c_typing.specs.declared.environment.Environment.{Environment}
use Rattle.c_typing.specs.declared.environment.QualifiedType.{QualifiedType}
use Rattle.c_typing.specs.Walks.{Checked, Breaks, Passes, after, along}
use Rattle.c_objects.specs.declared.initializers.Storage.TheVariants.{Automatic}
use Rattle.c_objects.specs.Objects.{declarator_walk, declarator_after, object_specs, declaration_walk}
use Rattle.c_heads.specs.declared.context.Body.{Body}
use Rattle.c_heads.specs.Effects.{effect_of}
use Rattle.c_heads.specs.Loops.{controlling_of, controlling_where, first_of, step_where, step_number, counter_of, bounded}
use Rattle.c_heads.specs.Scopes.{scoped}
use Rattle.c_heads.specs.Tokens.{while_tokens, do_tokens, for_tokens}
use Rattle.c_bodies.specs.declared.context.ForHead.{ForHead}
use Rattle.c_bodies.specs.Statements.{StatementWalk, in_loop, while_end, while_walk, do_end, do_walk, for_head, for_end, for_walk}
use Rattle.typing_laws.specs.Passing.{Passing, scope_of}
use Rattle.typing_laws.specs.Environments.{IsWellFormed}
use Rattle.typing_laws.proofs.Environments.{extends-refl, scope-grows}
use Rattle.expression_laws.specs.Keeping.{Each, Stays, Grown, Keeps, KeepsOver}
use Rattle.expression_laws.proofs.Steps.{passing-weaker, grown-in, grown-after, stays-after}
use Rattle.expression_laws.proofs.Weakened.{scope-stands, plain-kept}
use Rattle.expression_laws.proofs.Walked.{along-keeps}
use Rattle.specifier_laws.specs.Declared.{PlainIn}
use Rattle.source_laws.specs.Spelled.{every, is_spelled, are_spelled_specs}
use Rattle.effect_laws.specs.Simple.{EffectIn, StepWhere, ControllingIn, ControllingWhereIn}
use Rattle.effect_laws.proofs.Effects.{effect-keeps}
use Rattle.effect_laws.proofs.Conditions.{controlling-keeps, controlling-where-keeps, step-where-keeps, SpelledWhere, SpelledStep}
use Rattle.effect_laws.proofs.Lasting.{controlling-lasts, controlling-where-lasts, step-where-lasts}
use Rattle.object_laws.specs.Declaring.{is_spelled_init, is_spelled_declaration, DeclaratorIn}
use Rattle.object_laws.proofs.Declarations.{declarator-passing, specs-passing}
use Rattle.statement_laws.specs.Final.{Finally, IsTypedStatement, StepsAs}
use Rattle.statement_laws.proofs.Scoping.{scoped-keeps}
use Rattle.statement_laws.proofs.Lasting.{declarators-last, first-lasts}
use Rattle.statement_laws.proofs.Nodes.{while-iteration, do-iteration, for-iteration}
use Rattle.statement_laws.proofs.Steps.{step-stepped}
use Rattle.statement_laws.proofs.Counters.{counter-fits}
use Rattle.body_laws.specs.Statements.{is_few_bound, first_spelled, StatementIn, IterationIn, KeepsStatement}
use Rattle.body_laws.proofs.Finals.{final-before, finally-lasts, steps-last}
use Rattle.body_laws.proofs.Bounds.{FewWhere, FewIn, counter-few, bounded-passing}

both : (a b : Bool) → (a && b) ≡ true → (a ≡ true) × (b ≡ true)
both true b h = (refl, h)
both false b h = absurd (cc)

-- ---- what a `for` begins with

abbrev pub FirstIn : Environment → TypedFirst → Type 0
FirstIn env f = FirstFits (scope_of env) f

abbrev DeclaratorsIn : Environment → List TypedDeclarator → Type 0
DeclaratorsIn env ds = DeclaratorsFit (scope_of env) ds

declarators-more : (env : Environment) (ds : List TypedDeclarator) (d : TypedDeclarator) → DeclaratorsIn env ds → DeclaratorFits (scope_of env) d → DeclaratorsIn env (ds ++ d ∷ [])
declarators-more env [] d h k = (k, tt)
declarators-more env (first ∷ ds) d h k = (h.0, declarators-more env ds d h.1 k)

module _ (q : QualifiedType) where
  abbrev SoFar : Environment → List TypedDeclarator → Type 0
  SoFar env ds = DeclaratorsIn env ds × PlainIn env q.ctype

  declarator-keeps : (d : InitDeclarator) → is_spelled_init d ≡ true → KeepsOver SoFar (declarator_after Automatic q d)
  declarator-keeps d h = λ before env well r.
      grown-after (DeclaratorIn Automatic) SoFar env (declarator_walk Automatic q d env) (λ declared env. Passes (before ++ declared ∷ []) env) (declarator-passing Automatic q d env h well r.1)
      (λ declared new g w fits. (
        extends-refl new,
        w,
        (declarators-more new before declared (declarators-last (scope_of env) (scope_of new) (scope-grows env new g) (scope-stands env well) before r.0) fits, plain-kept env new g well q.ctype r.1),
      ))

  each-declarator : (ds : List InitDeclarator) → every (map is_spelled_init ds) ≡ true → Each (KeepsOver SoFar) (map (declarator_after Automatic q) ds)
  each-declarator [] h = tt
  each-declarator (d ∷ ds) h = let b = both (is_spelled_init d) (every (map is_spelled_init ds)) h in (declarator-keeps d b.0, each-declarator ds b.1)

declaration-keeps : (declaration : Declaration) → is_spelled_declaration declaration ≡ true → Keeps DeclaratorsIn (declaration_walk Automatic declaration)
declaration-keeps declaration h = λ env well.
    let b = both (are_spelled_specs declaration.specs) (every (map is_spelled_init declaration.declarators)) h in
    grown-after (λ env q. PlainIn env q.ctype) DeclaratorsIn env (object_specs declaration env) (λ q env. along (map (declarator_after Automatic q) declaration.declarators) [] env)
    (specs-passing declaration env b.0 well)
    (λ q new g w plain. passing-weaker (Grown (SoFar q) new) (Grown DeclaratorsIn new) (along (map (declarator_after Automatic q) declaration.declarators) [] new)
    (λ ds last s. (s.0, s.1, s.2.0))
    (along-keeps (SoFar q) (map (declarator_after Automatic q) declaration.declarators) (each-declarator q declaration.declarators b.1) [] new w (tt, plain)))

first-keeps : (f : First) → first_spelled f ≡ true → Keeps FirstIn (first_of f)
first-keeps source.Nothing h = λ env well. (extends-refl env, well, tt)
first-keeps (source.Declaration declaration) h = λ env well.
    grown-after DeclaratorsIn FirstIn env (declaration_walk Automatic declaration env) (λ all env. Passes (first.Objects all) env) (declaration-keeps declaration h env well) (λ all new g w r. (extends-refl new, w, r))
first-keeps (source.Expression simple) h = λ env well.
    grown-after EffectIn FirstIn env (effect_of simple env) (λ e env. Passes (first.Effect e) env) (effect-keeps simple h env well) (λ e new g w r. (extends-refl new, w, r))

-- ---- bodies of loops

module _ (body : Body) (few : FewWhere body.bound) where
  controlling-finally : (env : Environment) → IsWellFormed env → (c : Controlling) → ControllingIn env c → Finally (λ within c. ControllingFits within.scope c) body env c
  controlling-finally env well c h = λ within f. controlling-lasts (scope_of env) within.scope f.0 (scope-stands env well) c h

  inner-keeps : (inner : StatementWalk) → KeepsStatement body inner → Keeps (StatementIn body) (scoped (inner in_loop))
  inner-keeps inner h = scoped-keeps (StatementIn body) (inner in_loop) (λ env a r. r) (h in_loop)

  while-end-passing : (bound : Option LoopBound) (place : Place) (c : Controlling) (s : TypedStatement) (env : Environment) → is_few_bound bound ≡ true
      → Finally (λ within c. ControllingFits within.scope c) body env c → StatementIn body env s → Passing (Stays (IterationIn body) env) (while_end body bound place c s env)
  while-end-passing bound place c s env b h k =
      stays-after FewIn (Stays (IterationIn body) env) env (bounded place body bound None env) (λ n env. Passes (iteration.While (while_tokens bound) n c s) env)
      (bounded-passing place body bound None env few b tt)
      (λ n le. (refl, λ within f. while-iteration within (while_tokens bound) n c s (k within f) (le, h within f)))

  pub while-keeps : (bound : Option LoopBound) (place : Place) (condition : Expr) (inner : StatementWalk) → is_few_bound bound ≡ true → is_spelled condition ≡ true → KeepsStatement body inner
      → Keeps (IterationIn body) (while_walk body bound place condition inner)
  while-keeps bound place condition inner b h k = λ env well.
      grown-after ControllingIn (IterationIn body) env (controlling_of place condition env) (λ c env. after (scoped (inner in_loop) env) (λ s env. while_end body bound place c s env)) (controlling-keeps place condition h env well)
      (λ c new g w r. grown-after (StatementIn body) (IterationIn body) new (scoped (inner in_loop) new) (λ s env. while_end body bound place c s env) (inner-keeps inner k new w)
      (λ s last j u p. grown-in (IterationIn body) last (while_end body bound place c s last) u
      (while-end-passing bound place c s last b (finally-lasts (λ within c. ControllingFits within.scope c) body new last j c (controlling-finally new w c r)) p)))

  pub do-keeps : (bound : Option LoopBound) (place : Place) (inner : StatementWalk) (condition : Expr) → is_few_bound bound ≡ true → is_spelled condition ≡ true → KeepsStatement body inner
      → Keeps (IterationIn body) (do_walk body bound place inner condition)
  do-keeps bound place inner condition b h k = λ env well.
      grown-after (StatementIn body) (IterationIn body) env (scoped (inner in_loop) env) (λ s env. do_end body bound place condition s env) (inner-keeps inner k env well)
      (λ s new g w p. grown-after ControllingIn (IterationIn body) new (controlling_of place condition new) (λ c env. after (bounded place body bound None env) (λ n env. Passes (iteration.Do (do_tokens bound) n s c) env))
      (controlling-keeps place condition h new w)
      (λ c last j u r. grown-in (IterationIn body) last (after (bounded place body bound None last) (λ n env. Passes (iteration.Do (do_tokens bound) n s c) env)) u
      (stays-after FewIn (Stays (IterationIn body) last) last (bounded place body bound None last) (λ n env. Passes (iteration.Do (do_tokens bound) n s c) env)
      (bounded-passing place body bound None last few b tt)
      (λ n le. (refl, λ within f. do-iteration within (do_tokens bound) n s c (finally-lasts IsTypedStatement body new last j s p within f) (le, controlling-finally last u c r within f))))))

  -- ---- `for`

  abbrev HeadFits : Within → ForHead → Type 0
  HeadFits within head = FirstFits within.scope head.first × ControllingWhere within.scope head.condition × StepFits within.scope head.step

  abbrev HeadIn : Environment → ForHead → Type 0
  HeadIn env head = Finally HeadFits body env head × StepsAs head.number env head.step

  -- a step, and the declaration of what it changes
  abbrev SteppedIn : Option ℕ → Environment → Option TypedStep → Type 0
  SteppedIn number env step = StepWhere env step × StepsAs number env step

  stepped-in : (number : Option ℕ) (env : Environment) (c : Checked (Option TypedStep)) → Passing (Grown StepWhere env) c → Passing (λ step new. StepsAs number env step) c → Passing (Grown (SteppedIn number) env) c
  stepped-in number env (Breaks kind place) h k = tt
  stepped-in number env (Passes step new) h k = (h.0, h.1, (h.2, steps-last number env new h.0 step k))

  stepped-keeps : (step : Option ExpressionStatement) → SpelledStep step → (env : Environment) → IsWellFormed env → Passing (Grown (SteppedIn (step_number env step)) env) (step_where step env)
  stepped-keeps step s env well = stepped-in (step_number env step) env (step_where step env) (step-where-keeps step s env well) (step-stepped step env)

  for-head-keeps : (place : Place) (initial : First) (condition : Option Expr) (step : Option ExpressionStatement) → first_spelled initial ≡ true → SpelledWhere condition → SpelledStep step
      → Keeps HeadIn (for_head place initial condition step)
  for-head-keeps place initial condition step h c s = λ env well.
      grown-after FirstIn HeadIn env (first_of initial env)
      (λ f env. after (controlling_where place condition env)
      (λ c env. let number = step_number env step in
      after (step_where step env) (λ s env. Passes (record { first = f; condition = c; number = number; step = s }) env))) (first-keeps initial h env well)
      (λ f one g w r. grown-after ControllingWhereIn HeadIn one (controlling_where place condition one)
      (λ c env. let number = step_number env step in
      after (step_where step env) (λ s env. Passes (record { first = f; condition = c; number = number; step = s }) env)) (controlling-where-keeps place condition c one w)
      (λ con two j u p. grown-after (SteppedIn (step_number two step)) HeadIn two (step_where step two) (λ s env. Passes (record { first = f; condition = con; number = step_number two step; step = s }) env)
      (stepped-keeps step s two u)
      (λ st last i v q. (
        extends-refl last,
        v,
        (
          λ within fin.
              let at-two = final-before body two last i within fin in
              let at-one = final-before body one two j within at-two in (
                first-lasts (scope_of one) within.scope at-one.0 (scope-stands one w) f r,
                controlling-where-lasts (scope_of two) within.scope at-two.0 (scope-stands two u) con p,
                step-where-lasts (scope_of last) within.scope fin.0 (scope-stands last v) st q.0,
              ),
          q.1,
        ),
      ))))

  for-end-passing : (bound : Option LoopBound) (place : Place) (initial : First) (head : ForHead) (s : TypedStatement) (env : Environment) → is_few_bound bound ≡ true → HeadIn env head → StatementIn body env s
      → Passing (Stays (IterationIn body) env) (for_end body bound place initial head s env)
  for-end-passing bound place initial head s env b h k =
      let counter = counter_of body head.number head.first head.condition head.step s in
      stays-after FewIn (Stays (IterationIn body) env) env (bounded place body bound counter env)
      (λ n env. Passes (iteration.For (for_tokens bound initial) n counter head.first head.condition head.step s) env)
      (bounded-passing place body bound counter env few b (counter-few body head.number head.first head.condition head.step s))
      (λ n le. (
        refl,
        λ within f.
            let fits = h.0 within f in
            for-iteration within (for_tokens bound initial) n counter head.first head.condition head.step s (k within f)
            (le, fits.0, fits.1, fits.2, counter-fits body env within f.2 head.first s head.number head.condition head.step h.1 fits.2),
      ))

  pub for-keeps : (bound : Option LoopBound) (place : Place) (initial : First) (condition : Option Expr) (step : Option ExpressionStatement) (inner : StatementWalk) → is_few_bound bound ≡ true → first_spelled initial ≡ true
      → SpelledWhere condition → SpelledStep step → KeepsStatement body inner → Keeps (IterationIn body) (for_walk body bound place initial condition step inner)
  for-keeps bound place initial condition step inner b h c s k = λ env well.
      grown-after HeadIn (IterationIn body) env (for_head place initial condition step env) (λ head env. after (scoped (inner in_loop) env) (λ s env. for_end body bound place initial head s env))
      (for-head-keeps place initial condition step h c s env well)
      (λ head new g w r. grown-after (StatementIn body) (IterationIn body) new (scoped (inner in_loop) new) (λ s env. for_end body bound place initial head s env) (inner-keeps inner k new w)
      (λ st last j u p. grown-in (IterationIn body) last (for_end body bound place initial head st last) u
      (for-end-passing bound place initial head st last b (finally-lasts HeadFits body new last j head r.0, steps-last head.number new last j head.step r.1) p)))
