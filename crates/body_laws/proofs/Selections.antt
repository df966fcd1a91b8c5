-- Selections (C11 6.8.4): where their parts keep the rules of typed programs, they do.
use Rattle.std.proofs.Common.{◌≡◌, ◌++◌, true, Option, None, Some, List, [], ◌∷◌, map, ap, sym, subst, ◌∙◌, refl, arith}
use Rattle.hy_bits.specs.declared.scalar.Scalar.{Scalar}
use Rattle.c_tree.specs.declared.token.Place.{Place}
use Rattle.c_tree.specs.declared.expressions.Expr.{Expr}
use Rattle.c_tree.specs.declared.statements.Label.{Label}
use Rattle.c_meaning.specs.declared.expressions.TypedExpr.{TypedExpr}
use Rattle.c_meaning.specs.declared.statements.TypedStatement.{TypedStatement}
use Rattle.c_meaning.specs.declared.statements.TypedSection.{TypedSection}
use Rattle.c_meaning.specs.declared.statements.TypedLabel.{TypedLabel}
use Rattle.c_meaning.specs.declared.statements.TypedSelection.TheVariants as selection
use Rattle.c_meaning.specs.declared.statements.TypedItem.TheOpen.{TypedSection-F}
use Rattle.c_meaning.specs.declared.statements.TypedItem.TheViews.{roll-TypedSection, out-TypedSection, out-roll-TypedSection}
use Rattle.c_meaning.specs.Types.{kind_of}
use Rattle.c_meaning.specs.Sizes.{promoted}
use Rattle.c_meaning.specs.Constants.{constant_of}
use Rattle.c_meaning.specs.TypeRules.{Typed}
use Rattle.c_meaning.specs.Rules.{IsTypedExpr, IsCondition, IsInteger}
use Rattle.c_meaning.specs.StatementRules.{Within, labels_of}
use Rattle.c_conversions.specs.Operators.{signed}
use Rattle.c_typing.specs.declared.environment.Environment.{Environment}
use Rattle.c_typing.specs.Walks.{Passes, after, unless, along}
use Rattle.c_typing.specs.Values.{kind_operand, converted}
use Rattle.c_typing.specs.Expressions.{valued}
use Rattle.c_expressions.specs.Typing.{types_expr}
use Rattle.c_heads.specs.declared.context.Body.{Body}
use Rattle.c_heads.specs.Labels.{Labelled, no_labels, next_section, label_of}
use Rattle.c_heads.specs.Loops.{condition_of}
use Rattle.c_heads.specs.Scopes.{scoped}
use Rattle.c_heads.specs.Tokens.{if_tokens, switch_tokens}
use Rattle.c_bodies.specs.declared.context.Around.{Around}
use Rattle.c_bodies.specs.declared.context.Sections.{Sections}
use Rattle.c_bodies.specs.declared.context.Switched.{Switched}
use Rattle.c_bodies.specs.Statements.{StatementWalk, SectionWalk, otherwise_walk, if_walk, no_sections, in_switch, switched_of, switch_of, sections_walk, switch_walk, statement_after, with_section}
use Rattle.typing_laws.specs.Passing.{scope_of}
use Rattle.typing_laws.proofs.Environments.{extends-refl}
use Rattle.typing_laws.proofs.Parts as P
use Rattle.conversion_laws.proofs.Changes.{sign-fits}
use Rattle.expression_laws.specs.Keeping.{Each, Grown, Keeps, KeepsOver, ValueIn}
use Rattle.expression_laws.proofs.Steps.{passing-unless, grown-after}
use Rattle.expression_laws.proofs.Weakened.{scope-stands}
use Rattle.expression_laws.proofs.Joined.{converted-fits}
use Rattle.expression_laws.proofs.Walked.{along-keeps, valued-keeps}
use Rattle.source_laws.specs.Spelled.{every, is_spelled}
use Rattle.source_laws.proofs.Sources.{expr-typed}
use Rattle.effect_laws.specs.Simple.{ConditionIn}
use Rattle.effect_laws.proofs.Conditions.{condition-keeps}
use Rattle.effect_laws.proofs.Lasting.{condition-lasts, expr-lasts}
use Rattle.statement_laws.specs.Final.{Finally, IsTypedStatement, IsTypedSection}
use Rattle.statement_laws.proofs.Scoping.{scoped-keeps}
use Rattle.statement_laws.proofs.Nodes.{OtherwiseFits, if-selection, switch-selection, section-made}
use Rattle.body_laws.specs.Statements.{label_spelled, StatementIn, SelectionIn, SectionsIn, LabelsAre, KeepsStatement, KeepsSection}
use Rattle.body_laws.proofs.Finals.{final-before, each-more}
use Rattle.body_laws.proofs.Labelling.{LabelledIn, labels-keep}

append-none : {A : Type 0} (xs : List A) → xs ++ [] ≡ xs
append-none [] = refl
append-none (x ∷ xs) = ap (λ ys. x ∷ ys) (append-none xs)

append-assoc : {A : Type 0} (xs ys zs : List A) → (xs ++ ys) ++ zs ≡ xs ++ (ys ++ zs)
append-assoc [] ys zs = refl
append-assoc (x ∷ xs) ys zs = ap (λ us. x ∷ us) (append-assoc xs ys zs)

module _ (body : Body) where
  -- ---- "if"

  abbrev OtherwiseIn : Environment → Option TypedStatement → Type 0
  OtherwiseIn env o = Finally OtherwiseFits body env o

  abbrev pub KeepsOtherwise : Option StatementWalk → Type 0
  KeepsOtherwise None = Unit {0}
  KeepsOtherwise (Some walk) = KeepsStatement body walk

  scoped-statement : (walk : StatementWalk) (around : Around) → KeepsStatement body walk → Keeps (StatementIn body) (scoped (walk around))
  scoped-statement walk around h = scoped-keeps (StatementIn body) (walk around) (λ env a r. r) (h around)

  otherwise-keeps : (o : Option StatementWalk) (around : Around) → KeepsOtherwise o → Keeps OtherwiseIn (otherwise_walk o around)
  otherwise-keeps None around h = λ env well. (extends-refl env, well, (λ within f. tt))
  otherwise-keeps (Some walk) around h = λ env well.
      grown-after (StatementIn body) OtherwiseIn env (scoped (walk around) env) (λ s env. Passes (Some s) env) (scoped-statement walk around h env well) (λ s new g w r. (extends-refl new, w, r))

  abbrev ConditionFits : Within → TypedExpr → Type 0
  ConditionFits within e = IsTypedExpr within.scope e × IsCondition within.scope e

  pub if-keeps : (place : Place) (condition : Expr) (consequence : StatementWalk) (otherwise : Option StatementWalk) (around : Around) → is_spelled condition ≡ true → KeepsStatement body consequence → KeepsOtherwise otherwise
      → Keeps (SelectionIn body) (if_walk place condition consequence otherwise around)
  if-keeps place condition consequence otherwise around h k o = λ env well.
      grown-after ConditionIn (SelectionIn body) env (condition_of place condition env)
      (λ c env. after (scoped (consequence around) env)
      (λ s env. after (otherwise_walk otherwise around env) (λ o env. Passes (selection.If (if_tokens condition otherwise) c s o) env))) (condition-keeps place condition h env well)
      (λ c one g w r. grown-after (StatementIn body) (SelectionIn body) one (scoped (consequence around) one)
      (λ s env. after (otherwise_walk otherwise around env) (λ o env. Passes (selection.If (if_tokens condition otherwise) c s o) env)) (scoped-statement consequence around k one w)
      (λ s two j u p. grown-after OtherwiseIn (SelectionIn body) two (otherwise_walk otherwise around two) (λ o env. Passes (selection.If (if_tokens condition otherwise) c s o) env) (otherwise-keeps otherwise around o two u)
      (λ ot last i v q. (
        extends-refl last,
        v,
        λ within f.
            let at-two = final-before body two last i within f in
            let at-one = final-before body one two j within at-two in
            if-selection within (if_tokens condition otherwise) c s ot (p within at-two) (q within f) (condition-lasts (scope_of one) within.scope at-one.0 (scope-stands one w) c r),
      ))))

  -- ---- "switch"

  abbrev SwitchedFits : Within → Switched → Type 0
  SwitchedFits within on = IsTypedExpr within.scope on.value × IsInteger within.scope on.value on.scalar × (promoted on.scalar ≡ on.scalar)

  abbrev SwitchedIn : Environment → Switched → Type 0
  SwitchedIn env on = IsTypedExpr (scope_of env) on.value × IsInteger (scope_of env) on.value on.scalar × (promoted on.scalar ≡ on.scalar)

  switched-keeps : (place : Place) (value : Expr) → is_spelled value ≡ true → Keeps SwitchedIn (switched_of place value)
  switched-keeps place value h = λ env well.
      grown-after ValueIn SwitchedIn env (valued (types_expr value) env)
      (λ v env. unless place (signed (kind_operand (kind_of v.ctype)))
      (λ p env. Passes (record { scalar = p.scalar; value = converted p.conversion v.expr }) env) env) (valued-keeps (types_expr value) (expr-typed value h) env well)
      (λ v new g w r. passing-unless (Grown SwitchedIn new) place (signed (kind_operand (kind_of v.ctype)))
      (λ p env. Passes (record { scalar = p.scalar; value = converted p.conversion v.expr }) env) new
      (λ p e.
      let fit = sign-fits v.ctype (constant_of v.expr) p e in
      let made = converted-fits (scope_of new) p.conversion v.expr (Typed v.ctype) r.0 fit.0.0 in
      (extends-refl new, w, (made.0, made.1 ∙ fit.0.1, fit.1))))

  -- ---- sections

  abbrev StatementsIn : Environment → List TypedStatement → Type 0
  StatementsIn env ss = Finally (λ within ss. P.Each (IsTypedStatement within) ss) body env ss

  statement-after-keeps : (around : Around) (walk : StatementWalk) → KeepsStatement body walk → KeepsOver StatementsIn (statement_after around walk)
  statement-after-keeps around walk h = λ before env well r.
      grown-after (StatementIn body) StatementsIn env (walk around env) (λ s env. Passes (before ++ s ∷ []) env) (h around env well)
      (λ s new g w p. (extends-refl new, w, (λ within f. each-more (IsTypedStatement within) before s (r within (final-before body env new g within f)) (p within f))))

  each-statement : (around : Around) (walks : List StatementWalk) → Each (KeepsStatement body) walks → Each (KeepsOver StatementsIn) (map (statement_after around) walks)
  each-statement around [] h = tt
  each-statement around (walk ∷ walks) h = (statement-after-keeps around walk h.0, each-statement around walks h.1)

  labels-more : (sections : List TypedSection) (labels : List TypedLabel) (statements : List TypedStatement)
      → labels_of (sections ++ roll-TypedSection (record { labels = labels; statements = statements }) ∷ []) ≡ labels_of sections ++ labels
  labels-more [] labels statements =
      ap (λ (z : TypedSection-F _ _ _ _ _ _). z.labels ++ []) (out-roll-TypedSection (record { labels = labels; statements = statements })) ∙ append-none labels
  labels-more (s ∷ sections) labels statements =
      ap (λ (rest : List TypedLabel). (out-TypedSection s).labels ++ rest) (labels-more sections labels statements)
      ∙ sym (append-assoc (out-TypedSection s).labels (labels_of sections) labels)

  next-are : (t : Scalar) (all : List TypedLabel) (l : Labelled) → LabelsAre t all l → LabelsAre t all (next_section l)
  next-are t all l h = record { fit = h.fit; words = h.words; default = h.default }

  begun-are : (t : Scalar) (sections : Sections) → sections.labelled.labels ≡ [] → LabelsAre t (labels_of sections.sections) sections.labelled → LabelsAre t (labels_of sections.sections ++ sections.labelled.labels) sections.labelled
  begun-are t sections none h =
      subst (λ (labels : List TypedLabel). LabelsAre t labels sections.labelled)
      (sym (ap (λ (more : List TypedLabel). labels_of sections.sections ++ more) none ∙ append-none (labels_of sections.sections))) h

  pub section-keeps : (labels : List Label) (statements : List StatementWalk) → every (map label_spelled labels) ≡ true → Each (KeepsStatement body) statements
      → KeepsSection body (λ around t sections env.
      after (along (map (label_of t) labels) sections.labelled env)
      (λ labelled env. after (along (map (statement_after around) statements) [] env) (λ statements env. Passes (with_section labelled statements sections.sections) env)))
  section-keeps labels statements h hs = λ around t sections env well r.
      let done = labels_of sections.sections in
      grown-after (LabelledIn t done) (SectionsIn body t) env (along (map (label_of t) labels) sections.labelled env)
      (λ labelled env. after (along (map (statement_after around) statements) [] env) (λ statements env. Passes (with_section labelled statements sections.sections) env))
      (labels-keep t done labels h sections.labelled env well (begun-are t sections r.1 r.2))
      (λ labelled one g w l. grown-after StatementsIn (SectionsIn body t) one (along (map (statement_after around) statements) [] one) (λ ss env. Passes (with_section labelled ss sections.sections) env)
      (along-keeps StatementsIn (map (statement_after around) statements) (each-statement around statements hs) [] one w (λ within f. tt))
      (λ ss last j u p. (
        extends-refl last,
        u,
        (
          (λ within f. each-more (IsTypedSection within) sections.sections _
              (r.0 within (final-before body env one g within (final-before body one last j within f))) (section-made within labelled.labels ss (p within f))),
          refl,
          subst (λ (all : List TypedLabel). LabelsAre t all (next_section labelled)) (sym (labels-more sections.sections labelled.labels ss)) (next-are t (done ++ labelled.labels) labelled l),
        ),
      )))

  each-section : (around : Around) (t : Scalar) (walks : List SectionWalk) → Each (KeepsSection body) walks → Each (KeepsOver (SectionsIn body t)) (map (λ section. section around t) walks)
  each-section around t [] h = tt
  each-section around t (walk ∷ walks) h = (h.0 around t, each-section around t walks h.1)

  none-are : (t : Scalar) → LabelsAre t [] no_labels
  none-are t = record { fit = tt; words = λ w c. absurd (omega (arith, c.1)); default = λ e c. absurd (omega (arith, c.1)) }

  sections-keep : (around : Around) (t : Scalar) (walks : List SectionWalk) → Each (KeepsSection body) walks → Keeps (SectionsIn body t) (sections_walk around t walks)
  sections-keep around t walks h = λ env well. along-keeps (SectionsIn body t) (map (λ section. section around t) walks) (each-section around t walks h) no_sections env well ((λ within f. tt), refl, none-are t)

  pub switch-keeps : (place : Place) (value : Expr) (sections : List SectionWalk) (around : Around) → is_spelled value ≡ true → Each (KeepsSection body) sections → Keeps (SelectionIn body) (switch_walk place value sections around)
  switch-keeps place value sections around h hs = λ env well.
      grown-after SwitchedIn (SelectionIn body) env (switched_of place value env)
      (λ on env. after (scoped (sections_walk (in_switch around) on.scalar sections) env) (λ all env. Passes (switch_of value on all) env)) (switched-keeps place value h env well)
      (λ on one g w r. grown-after (SectionsIn body on.scalar) (SelectionIn body) one (scoped (sections_walk (in_switch around) on.scalar sections) one) (λ all env. Passes (switch_of value on all) env)
      (scoped-keeps (SectionsIn body on.scalar) (sections_walk (in_switch around) on.scalar sections) (λ env a r. r) (sections-keep (in_switch around) on.scalar sections hs) one w)
      (λ all last j u p. (
        extends-refl last,
        u,
        λ within f.
            let at-one = final-before body one last j within f in
            let k = expr-lasts (scope_of one) within.scope at-one.0 (scope-stands one w) on.value r.0 in
            switch-selection within (switch_tokens value all.labelled.tokens) on.scalar on.value all.sections (p.0 within f) (k.0, k.1 ∙ r.1, r.2, p.2.fit),
      )))
