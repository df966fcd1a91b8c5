-- Each jump of a typed statement leaves a loop or a `switch` that stands around it (C11 6.8.6.2p1, 6.8.6.3p1).
use Rattle.std.proofs.Common.{◌≡◌, ◌||◌, ◌++◌, ℕ, Bool, true, false, Option, None, Some, List, [], ◌∷◌, map, ap, sym, subst, ◌∙◌, refl}
use Rattle.hy_bits.specs.declared.scalar.Scalar.{Scalar}
use Rattle.c_tree.specs.declared.token.Place.{Place}
use Rattle.c_tree.specs.declared.expressions.Expr.{Expr}
use Rattle.c_tree.specs.declared.statements.Label.{Label}
use Rattle.c_tree.specs.declared.statements.Declaration.{Declaration}
use Rattle.c_tree.specs.declared.statements.InitDeclarator.{InitDeclarator}
use Rattle.c_tree.specs.declared.statements.BlockItem.{BlockItem}
use Rattle.c_tree.specs.declared.statements.Iteration.{Iteration}
use Rattle.c_tree.specs.declared.statements.Selection.{Selection}
use Rattle.c_tree.specs.declared.statements.Statement.{Statement}
use Rattle.c_tree.specs.declared.statements.Block.{Block}
use Rattle.c_tree.specs.declared.statements.LabelledSection.{LabelledSection}
use Rattle.c_tree.specs.declared.statements.BlockItem.TheOpen.{BlockItem-F, Iteration-F, Selection-F, Statement-F, Block-F, LabelledSection-F}
use Rattle.c_tree.specs.declared.statements.BlockItem.TheViews.{roll-BlockItem, roll-Iteration, roll-Selection, roll-Statement, roll-Block, roll-LabelledSection}
use Rattle.c_tree.specs.declared.statements.BlockItem.TheFolds as T
use Rattle.c_meaning.specs.declared.expressions.TypedExpr.{TypedExpr}
use Rattle.c_meaning.specs.declared.statements.TypedDeclarator.{TypedDeclarator}
use Rattle.c_meaning.specs.declared.statements.TypedLabel.{TypedLabel}
use Rattle.c_meaning.specs.declared.statements.TypedStatement.{TypedStatement}
use Rattle.c_meaning.specs.declared.statements.TypedStatement.TheVariants as statement
use Rattle.c_meaning.specs.declared.statements.TypedSelection.{TypedSelection}
use Rattle.c_meaning.specs.declared.statements.TypedSelection.TheVariants as selection
use Rattle.c_meaning.specs.declared.statements.TypedIteration.{TypedIteration}
use Rattle.c_meaning.specs.declared.statements.TypedItem.{TypedItem}
use Rattle.c_meaning.specs.declared.statements.TypedItem.TheVariants as item
use Rattle.c_meaning.specs.declared.statements.TypedBlock.{TypedBlock}
use Rattle.c_meaning.specs.declared.statements.TypedSection.{TypedSection}
use Rattle.c_meaning.specs.declared.statements.TypedItem.TheOpen.{TypedItem-F, TypedSelection-F, TypedStatement-F}
use Rattle.c_meaning.specs.declared.statements.TypedItem.TheViews.{roll-TypedBlock, roll-TypedSection}
use Rattle.c_meaning.specs.declared.statements.TypedItem.TheFolds as M
use Rattle.c_meaning.specs.StatementRules.{Jumps, no_jumps, either, any_jumps, item_jumps, iteration_jumps, selection_jumps, statement_jumps, block_jumps, section_jumps, jumps_of}
use Rattle.c_conversions.specs.declared.fault.TypeKind.TheVariants.{Mismatch}
use Rattle.c_typing.specs.declared.environment.Environment.{Environment}
use Rattle.c_typing.specs.declared.environment.QualifiedType.{QualifiedType}
use Rattle.c_typing.specs.Walks.{Checked, Breaks, Passes, Walk, after, along}
use Rattle.c_objects.specs.declared.initializers.Storage.TheVariants.{Automatic}
use Rattle.c_objects.specs.Objects.{object_specs, declarator_walk}
use Rattle.c_heads.specs.declared.context.Body.{Body}
use Rattle.c_heads.specs.Labels.{label_of}
use Rattle.c_heads.specs.Loops.{condition_of}
use Rattle.c_heads.specs.Scopes.{within, outside, scoped, tag_alone}
use Rattle.c_heads.specs.Tokens.{if_tokens, switch_tokens, declaration_tokens, tag_tokens, return_tokens}
use Rattle.c_typing.specs.Expressions.{valued, assigned_to}
use Rattle.c_expressions.specs.Typing.{types_expr}
use Rattle.c_meaning.specs.declared.types.ValueKind.{ValueKind}
use Rattle.c_meaning.specs.declared.types.ValueKind.TheVariants as kind
use Rattle.c_meaning.specs.declared.statements.TypedEffect.{TypedEffect}
use Rattle.c_meaning.specs.Types.{kind_of}
use Rattle.c_heads.specs.Effects.{effect_of}
use Rattle.c_bodies.specs.declared.context.Around.{Around}
use Rattle.c_bodies.specs.declared.context.ItemList.{ItemList}
use Rattle.c_bodies.specs.declared.context.Sections.{Sections}
use Rattle.c_bodies.specs.Statements.{ItemWalk, IterationWalk, SelectionWalk, StatementWalk, BlockWalk, SectionWalk, item_rule, iteration_rule, selection_rule, statement_rule, block_rule, section_rule, types_item, types_iteration, types_selection, types_statement, types_block, types_section, otherwise_walk, if_walk, no_sections, in_switch, switched_of, switch_of, sections_walk, switch_walk, statement_after, with_section, return_walk, with_item, with_tokens, object_after, declaration_item, no_items, block_of}
use Rattle.typing_laws.specs.Passing.{Passing}
use Rattle.typing_laws.proofs.Postfix.{passing-after}
use Rattle.expression_laws.specs.Keeping.{Each}
use Rattle.expression_laws.proofs.Steps.{passing-if}
use Rattle.body_laws.specs.Jumping.{jumps_of_item, jumps_of_iteration, jumps_of_selection, jumps_of_statement, jumps_of_section, JumpsAre}

-- ---- jumps together

none-are : (around : Around) → JumpsAre around no_jumps
none-are around = ((λ e. absurd (cc)), (λ e. absurd (cc)))

or-is : (a b c : Bool) → (a ≡ true → c ≡ true) → (b ≡ true → c ≡ true) → (a || b) ≡ true → c ≡ true
or-is true b c h k e = h refl
or-is false b c h k e = k e

either-are : (around : Around) (a b : Jumps) → JumpsAre around a → JumpsAre around b → JumpsAre around (either a b)
either-are around a b h k = (or-is a.breaks b.breaks around.breaks h.0 k.0, or-is a.continues b.continues around.continues h.1 k.1)

or-left : (a b : Bool) → a ≡ true → (a || b) ≡ true
or-left true b h = refl
or-left false b h = absurd (cc)

or-right : (a b : Bool) → b ≡ true → (a || b) ≡ true
or-right true b h = refl
or-right false b h = h

any-more : (around : Around) (js : List Jumps) (j : Jumps) → JumpsAre around (any_jumps js) → JumpsAre around j → JumpsAre around (any_jumps (js ++ j ∷ []))
any-more around [] j h k = either-are around j no_jumps k (none-are around)
any-more around (x ∷ js) j h k =
    either-are around x (any_jumps (js ++ j ∷ []))
    ((λ e. h.0 (or-left x.breaks (any_jumps js).breaks e)), (λ e. h.1 (or-left x.continues (any_jumps js).continues e)))
    (any-more around js j ((λ e. h.0 (or-right x.breaks (any_jumps js).breaks e)), (λ e. h.1 (or-right x.continues (any_jumps js).continues e))) k)

map-more : {A : Type 0} (f : A → Jumps) (xs : List A) (y : A) → map f (xs ++ y ∷ []) ≡ map f xs ++ f y ∷ []
map-more f [] y = refl
map-more f (x ∷ xs) y = ap (λ ys. f x ∷ ys) (map-more f xs y)

-- ---- walks

abbrev AnyOf : {A : Type 0} → A → Environment → Type 0
AnyOf a env = Unit {0}

any-passing : {A : Type 0} (c : Checked A) → Passing AnyOf c
any-passing (Breaks kind place) = tt
any-passing (Passes a env) = tt

scoped-passing : {A : Type 0} (P : A → Type 0) (walk : Walk A) (env : Environment) → Passing (λ a e. P a) (walk (within env)) → Passing (λ a e. P a) (scoped walk env)
scoped-passing P walk env h = passing-after (λ a e. P a) (λ a e. P a) (walk (within env)) (λ a env. Passes a (outside env)) h (λ a new p. p)

abbrev JumpOver : {A : Type 0} → (A → Type 0) → (A → Walk A) → Type 0
JumpOver {A} P walk = (a : A) (env : Environment) → P a → Passing (λ b e. P b) (walk a env)

along-jumps : {A : Type 0} (P : A → Type 0) (walks : List (A → Walk A)) → Each (JumpOver P) walks → JumpOver P (along walks)
along-jumps P [] h = λ a env p. p
along-jumps P (walk ∷ walks) h = λ a env p. passing-after (λ b e. P b) (λ b e. P b) (walk a env) (λ b env. along walks b env) (h.0 a env p) (λ b new q. along-jumps P walks h.1 b new q)

-- ---- nodes

iteration-none : (i : TypedIteration) → jumps_of_iteration i ≡ no_jumps
iteration-none i = M.fold_out-TypedIteration Jumps Jumps Jumps Jumps Jumps Jumps item_jumps iteration_jumps selection_jumps statement_jumps block_jumps section_jumps i

at-block : (b : TypedBlock) → jumps_of_statement (statement.Block b) ≡ jumps_of b
at-block b = ap jumps_of_statement (sym (statement.rolls-Block b)) ∙ M.fold-roll-TypedStatement Jumps Jumps Jumps Jumps Jumps Jumps item_jumps iteration_jumps selection_jumps statement_jumps block_jumps section_jumps (TypedStatement-F.Block b)

at-empty : jumps_of_statement statement.Empty ≡ no_jumps
at-empty = ap jumps_of_statement (sym statement.rolls-Empty) ∙ M.fold-roll-TypedStatement Jumps Jumps Jumps Jumps Jumps Jumps item_jumps iteration_jumps selection_jumps statement_jumps block_jumps section_jumps TypedStatement-F.Empty

at-effect : (tokens : ℕ) (e : TypedEffect) → jumps_of_statement (statement.Effect tokens e) ≡ no_jumps
at-effect tokens e = ap jumps_of_statement (sym (statement.rolls-Effect tokens e)) ∙ M.fold-roll-TypedStatement Jumps Jumps Jumps Jumps Jumps Jumps item_jumps iteration_jumps selection_jumps statement_jumps block_jumps section_jumps (TypedStatement-F.Effect tokens e)

at-break : jumps_of_statement statement.Break ≡ record { breaks = true; continues = false }
at-break = ap jumps_of_statement (sym statement.rolls-Break) ∙ M.fold-roll-TypedStatement Jumps Jumps Jumps Jumps Jumps Jumps item_jumps iteration_jumps selection_jumps statement_jumps block_jumps section_jumps TypedStatement-F.Break

at-continue : jumps_of_statement statement.Continue ≡ record { breaks = false; continues = true }
at-continue = ap jumps_of_statement (sym statement.rolls-Continue) ∙ M.fold-roll-TypedStatement Jumps Jumps Jumps Jumps Jumps Jumps item_jumps iteration_jumps selection_jumps statement_jumps block_jumps section_jumps TypedStatement-F.Continue

at-return : (tokens : ℕ) (k : ValueKind) (value : Option TypedExpr) → jumps_of_statement (statement.Return tokens k value) ≡ no_jumps
at-return tokens k value = ap jumps_of_statement (sym (statement.rolls-Return tokens k value)) ∙ M.fold-roll-TypedStatement Jumps Jumps Jumps Jumps Jumps Jumps item_jumps iteration_jumps selection_jumps statement_jumps block_jumps section_jumps (TypedStatement-F.Return tokens k value)

at-selection : (s : TypedSelection) → jumps_of_statement (statement.Selection s) ≡ jumps_of_selection s
at-selection s = ap jumps_of_statement (sym (statement.rolls-Selection s)) ∙ M.fold-roll-TypedStatement Jumps Jumps Jumps Jumps Jumps Jumps item_jumps iteration_jumps selection_jumps statement_jumps block_jumps section_jumps (TypedStatement-F.Selection s)

at-iteration : (i : TypedIteration) → jumps_of_statement (statement.Iteration i) ≡ no_jumps
at-iteration i = ap jumps_of_statement (sym (statement.rolls-Iteration i)) ∙ M.fold-roll-TypedStatement Jumps Jumps Jumps Jumps Jumps Jumps item_jumps iteration_jumps selection_jumps statement_jumps block_jumps section_jumps (TypedStatement-F.Iteration i) ∙ iteration-none i

at-if-alone : (tokens : ℕ) (c : TypedExpr) (s : TypedStatement) → jumps_of_selection (selection.If tokens c s None) ≡ either (jumps_of_statement s) no_jumps
at-if-alone tokens c s = ap jumps_of_selection (sym (selection.rolls-If tokens c s None)) ∙ M.fold-roll-TypedSelection Jumps Jumps Jumps Jumps Jumps Jumps item_jumps iteration_jumps selection_jumps statement_jumps block_jumps section_jumps (TypedSelection-F.If tokens c s None)

at-if : (tokens : ℕ) (c : TypedExpr) (s o : TypedStatement) → jumps_of_selection (selection.If tokens c s (Some o)) ≡ either (jumps_of_statement s) (jumps_of_statement o)
at-if tokens c s o = ap jumps_of_selection (sym (selection.rolls-If tokens c s (Some o))) ∙ M.fold-roll-TypedSelection Jumps Jumps Jumps Jumps Jumps Jumps item_jumps iteration_jumps selection_jumps statement_jumps block_jumps section_jumps (TypedSelection-F.If tokens c s (Some o))

at-switch : (tokens : ℕ) (t : Scalar) (value : TypedExpr) (sections : List TypedSection) → jumps_of_selection (selection.Switch tokens t value sections) ≡ record { breaks = false; continues = (any_jumps (map jumps_of_section sections)).continues }
at-switch tokens t value sections = ap jumps_of_selection (sym (selection.rolls-Switch tokens t value sections)) ∙ M.fold-roll-TypedSelection Jumps Jumps Jumps Jumps Jumps Jumps item_jumps iteration_jumps selection_jumps statement_jumps block_jumps section_jumps (TypedSelection-F.Switch tokens t value sections)

at-statement-item : (s : TypedStatement) → jumps_of_item (item.Statement s) ≡ jumps_of_statement s
at-statement-item s = ap jumps_of_item (sym (item.rolls-Statement s)) ∙ M.fold-roll-TypedItem Jumps Jumps Jumps Jumps Jumps Jumps item_jumps iteration_jumps selection_jumps statement_jumps block_jumps section_jumps (TypedItem-F.Statement s)

at-object-item : (d : TypedDeclarator) → jumps_of_item (item.Object d) ≡ no_jumps
at-object-item d = ap jumps_of_item (sym (item.rolls-Object d)) ∙ M.fold-roll-TypedItem Jumps Jumps Jumps Jumps Jumps Jumps item_jumps iteration_jumps selection_jumps statement_jumps block_jumps section_jumps (TypedItem-F.Object d)

at-whole-block : (tokens : ℕ) (items : List TypedItem) → jumps_of (roll-TypedBlock (record { tokens = tokens; items = items })) ≡ any_jumps (map jumps_of_item items)
at-whole-block tokens items = M.fold-roll-TypedBlock Jumps Jumps Jumps Jumps Jumps Jumps item_jumps iteration_jumps selection_jumps statement_jumps block_jumps section_jumps (record { tokens = tokens; items = items })

at-section : (labels : List TypedLabel) (statements : List TypedStatement) → jumps_of_section (roll-TypedSection (record { labels = labels; statements = statements })) ≡ any_jumps (map jumps_of_statement statements)
at-section labels statements = M.fold-roll-TypedSection Jumps Jumps Jumps Jumps Jumps Jumps item_jumps iteration_jumps selection_jumps statement_jumps block_jumps section_jumps (record { labels = labels; statements = statements })

-- ---- walks of trees

abbrev pub StatementJumps : Around → TypedStatement → Type 0
StatementJumps around s = JumpsAre around (jumps_of_statement s)

abbrev SelectionJumps : Around → TypedSelection → Type 0
SelectionJumps around s = JumpsAre around (jumps_of_selection s)

abbrev pub BlockJumps : Around → TypedBlock → Type 0
BlockJumps around b = JumpsAre around (jumps_of b)

abbrev ItemsJumps : Around → ItemList → Type 0
ItemsJumps around items = JumpsAre around (any_jumps (map jumps_of_item items.items))

abbrev SectionsJumps : Around → Sections → Type 0
SectionsJumps around s = JumpsAre around (any_jumps (map jumps_of_section s.sections))

abbrev StatementsJumps : Around → List TypedStatement → Type 0
StatementsJumps around ss = JumpsAre around (any_jumps (map jumps_of_statement ss))

abbrev KS : StatementWalk → Type 0
KS walk = (around : Around) (env : Environment) → Passing (λ s e. StatementJumps around s) (walk around env)

abbrev KC : SelectionWalk → Type 0
KC walk = (around : Around) (env : Environment) → Passing (λ s e. SelectionJumps around s) (walk around env)

abbrev KL : IterationWalk → Type 0
KL walk = Unit {0}

abbrev pub KB : BlockWalk → Type 0
KB walk = (around : Around) (env : Environment) → Passing (λ b e. BlockJumps around b) (walk around env)

abbrev KI : ItemWalk → Type 0
KI walk = (around : Around) → JumpOver (ItemsJumps around) (walk around)

abbrev KD : SectionWalk → Type 0
KD walk = (around : Around) (t : Scalar) → JumpOver (SectionsJumps around) (walk around t)

-- ---- productions

items-with : (around : Around) (items : ItemList) (x : TypedItem) → ItemsJumps around items → JumpsAre around (jumps_of_item x) → ItemsJumps around (with_item x items)
items-with around items x h k = subst (λ (js : List Jumps). JumpsAre around (any_jumps js)) (sym (map-more jumps_of_item items.items x)) (any-more around (map jumps_of_item items.items) (jumps_of_item x) h k)

statement-item-jumps : (walk : StatementWalk) → KS walk → KI (λ around items env. after (walk around env) (λ s env. Passes (with_item (item.Statement s) items) env))
statement-item-jumps walk h = λ around items env p.
    passing-after (λ s e. StatementJumps around s) (λ all e. ItemsJumps around all) (walk around env) (λ s env. Passes (with_item (item.Statement s) items) env) (h around env)
    (λ s new j. items-with around items (item.Statement s) p (subst (JumpsAre around) (sym (at-statement-item s)) j))

object-jumps : (around : Around) (q : QualifiedType) (d : InitDeclarator) → JumpOver (ItemsJumps around) (object_after q d)
object-jumps around q d = λ items env p.
    passing-after AnyOf (λ all e. ItemsJumps around all) (declarator_walk Automatic q d env) (λ declared env. Passes (with_item (item.Object declared) items) env) (any-passing (declarator_walk Automatic q d env))
    (λ declared new u. items-with around items (item.Object declared) p (subst (JumpsAre around) (sym (at-object-item declared)) (none-are around)))

each-object : (around : Around) (q : QualifiedType) (ds : List InitDeclarator) → Each (JumpOver (ItemsJumps around)) (map (object_after q) ds)
each-object around q [] = tt
each-object around q (d ∷ ds) = (object-jumps around q d, each-object around q ds)

declaration-jumps : (declaration : Declaration) → KI (λ around items env. declaration_item declaration items env)
declaration-jumps declaration = λ around items env p.
    passing-after AnyOf (λ all e. ItemsJumps around all) (object_specs declaration env) (λ q env. along (map (object_after q) declaration.declarators) (with_tokens (declaration_tokens declaration) items) env)
    (any-passing (object_specs declaration env))
    (λ q new u. along-jumps (ItemsJumps around) (map (object_after q) declaration.declarators) (each-object around q declaration.declarators) (with_tokens (declaration_tokens declaration) items) new p)

each-item : (around : Around) (walks : List ItemWalk) → Each KI walks → Each (JumpOver (ItemsJumps around)) (map (λ part. part around) walks)
each-item around [] h = tt
each-item around (walk ∷ walks) h = (h.0 around, each-item around walks h.1)

block-jumps : (parts : List ItemWalk) → Each KI parts → KB (λ around env. after (along (map (λ part. part around) parts) no_items env) (λ all env. Passes (block_of all) env))
block-jumps parts h = λ around env.
    passing-after (λ all e. ItemsJumps around all) (λ b e. BlockJumps around b) (along (map (λ part. part around) parts) no_items env) (λ all env. Passes (block_of all) env)
    (along-jumps (ItemsJumps around) (map (λ part. part around) parts) (each-item around parts h) no_items env (none-are around))
    (λ all new j. subst (JumpsAre around) (sym (at-whole-block all.tokens all.items)) j)

statement-after-jumps : (around : Around) (walk : StatementWalk) → KS walk → JumpOver (StatementsJumps around) (statement_after around walk)
statement-after-jumps around walk h = λ before env p.
    passing-after (λ s e. StatementJumps around s) (λ ss e. StatementsJumps around ss) (walk around env) (λ s env. Passes (before ++ s ∷ []) env) (h around env)
    (λ s new j. subst (λ (js : List Jumps). JumpsAre around (any_jumps js)) (sym (map-more jumps_of_statement before s)) (any-more around (map jumps_of_statement before) (jumps_of_statement s) p j))

each-statement : (around : Around) (walks : List StatementWalk) → Each KS walks → Each (JumpOver (StatementsJumps around)) (map (statement_after around) walks)
each-statement around [] h = tt
each-statement around (walk ∷ walks) h = (statement-after-jumps around walk h.0, each-statement around walks h.1)

section-jumps : (labels : List Label) (statements : List StatementWalk) → Each KS statements → KD (λ around t sections env.
    after (along (map (label_of t) labels) sections.labelled env)
    (λ labelled env. after (along (map (statement_after around) statements) [] env) (λ statements env. Passes (with_section labelled statements sections.sections) env)))
section-jumps labels statements hs = λ around t sections env p.
    passing-after AnyOf (λ s e. SectionsJumps around s) (along (map (label_of t) labels) sections.labelled env)
    (λ labelled env. after (along (map (statement_after around) statements) [] env) (λ statements env. Passes (with_section labelled statements sections.sections) env))
    (any-passing (along (map (label_of t) labels) sections.labelled env))
    (λ labelled one u. passing-after (λ ss e. StatementsJumps around ss) (λ s e. SectionsJumps around s) (along (map (statement_after around) statements) [] one)
    (λ ss env. Passes (with_section labelled ss sections.sections) env)
    (along-jumps (StatementsJumps around) (map (statement_after around) statements) (each-statement around statements hs) [] one (none-are around))
    (λ ss last j.
    let new = roll-TypedSection (record { labels = labelled.labels; statements = ss }) in
    subst (λ (js : List Jumps). JumpsAre around (any_jumps js)) (sym (map-more jumps_of_section sections.sections new))
    (any-more around (map jumps_of_section sections.sections) (jumps_of_section new) p (subst (JumpsAre around) (sym (at-section labelled.labels ss)) j))))

abbrev KO : Option StatementWalk → Type 0
KO None = Unit {0}
KO (Some walk) = KS walk

abbrev OtherwiseJumps : Around → Option TypedStatement → Type 0
OtherwiseJumps around None = Unit {0}
OtherwiseJumps around (Some s) = StatementJumps around s

if-whole : (around : Around) (tokens : ℕ) (c : TypedExpr) (s : TypedStatement) (o : Option TypedStatement) → StatementJumps around s → OtherwiseJumps around o → SelectionJumps around (selection.If tokens c s o)
if-whole around tokens c s None j p = subst (JumpsAre around) (sym (at-if-alone tokens c s)) (either-are around (jumps_of_statement s) no_jumps j (none-are around))
if-whole around tokens c s (Some o) j p = subst (JumpsAre around) (sym (at-if tokens c s o)) (either-are around (jumps_of_statement s) (jumps_of_statement o) j p)

if-jumps : (place : Place) (condition : Expr) (consequence : StatementWalk) (otherwise : Option StatementWalk) → KS consequence → KO otherwise → KC (if_walk place condition consequence otherwise)
if-jumps place condition consequence None k o = λ around env.
    passing-after AnyOf (λ s e. SelectionJumps around s) (condition_of place condition env)
    (λ c env. after (scoped (consequence around) env)
    (λ s env. after (otherwise_walk None around env) (λ o env. Passes (selection.If (if_tokens {A = StatementWalk} condition None) c s o) env))) (any-passing (condition_of place condition env))
    (λ c one u. passing-after (λ s e. StatementJumps around s) (λ s e. SelectionJumps around s) (scoped (consequence around) one)
    (λ s env. after (otherwise_walk None around env) (λ o env. Passes (selection.If (if_tokens {A = StatementWalk} condition None) c s o) env))
    (scoped-passing (StatementJumps around) (consequence around) one (k around (within one)))
    (λ s two j. subst (JumpsAre around) (sym (at-if-alone (if_tokens {A = StatementWalk} condition None) c s)) (either-are around (jumps_of_statement s) no_jumps j (none-are around))))
if-jumps place condition consequence (Some walk) k o = λ around env.
    passing-after AnyOf (λ s e. SelectionJumps around s) (condition_of place condition env)
    (λ c env. after (scoped (consequence around) env)
    (λ s env. after (otherwise_walk (Some walk) around env) (λ o env. Passes (selection.If (if_tokens condition (Some walk)) c s o) env))) (any-passing (condition_of place condition env))
    (λ c one u. passing-after (λ s e. StatementJumps around s) (λ s e. SelectionJumps around s) (scoped (consequence around) one)
    (λ s env. after (otherwise_walk (Some walk) around env) (λ o env. Passes (selection.If (if_tokens condition (Some walk)) c s o) env))
    (scoped-passing (StatementJumps around) (consequence around) one (k around (within one)))
    (λ s two j. passing-after (λ o e. OtherwiseJumps around o) (λ s e. SelectionJumps around s) (otherwise_walk (Some walk) around two) (λ o env. Passes (selection.If (if_tokens condition (Some walk)) c s o) env)
    (passing-after (λ s e. StatementJumps around s) (λ o e. OtherwiseJumps around o) (scoped (walk around) two) (λ s env. Passes (Some s) env) (scoped-passing (StatementJumps around) (walk around) two (o around (within two))) (λ s last p. p))
    (λ ot last p. if-whole around (if_tokens condition (Some walk)) c s ot j p)))

each-section : (around : Around) (t : Scalar) (walks : List SectionWalk) → Each KD walks → Each (JumpOver (SectionsJumps around)) (map (λ section. section around t) walks)
each-section around t [] h = tt
each-section around t (walk ∷ walks) h = (h.0 around t, each-section around t walks h.1)

switch-jumps : (place : Place) (value : Expr) (sections : List SectionWalk) → Each KD sections → KC (switch_walk place value sections)
switch-jumps place value sections hs = λ around env.
    passing-after AnyOf (λ s e. SelectionJumps around s) (switched_of place value env)
    (λ on env. after (scoped (sections_walk (in_switch around) on.scalar sections) env) (λ all env. Passes (switch_of value on all) env)) (any-passing (switched_of place value env))
    (λ on one u. passing-after (λ all e. SectionsJumps (in_switch around) all) (λ s e. SelectionJumps around s) (scoped (sections_walk (in_switch around) on.scalar sections) one) (λ all env. Passes (switch_of value on all) env)
    (scoped-passing (SectionsJumps (in_switch around)) (sections_walk (in_switch around) on.scalar sections) one
    (along-jumps (SectionsJumps (in_switch around)) (map (λ section. section (in_switch around) on.scalar) sections) (each-section (in_switch around) on.scalar sections hs) no_sections (within one) (none-are (in_switch around))))
    (λ all last j. subst (JumpsAre around) (sym (at-switch (switch_tokens value all.labelled.tokens) on.scalar on.value all.sections)) ((λ e. absurd (cc)), j.1)))

module _ (body : Body) where
  abbrev PI : BlockItem → Type 0
  PI x = KI (types_item body x)

  abbrev PL : Iteration → Type 0
  PL x = KL (types_iteration body x)

  abbrev PC : Selection → Type 0
  PC x = KC (types_selection body x)

  abbrev PS : Statement → Type 0
  PS x = KS (types_statement body x)

  abbrev PB : Block → Type 0
  PB x = KB (types_block body x)

  abbrev PD : LabelledSection → Type 0
  PD x = KD (types_section body x)

  abbrev VI : Type 0
  VI = (x : BlockItem) × PI x

  abbrev VL : Type 0
  VL = (x : Iteration) × PL x

  abbrev VC : Type 0
  VC = (x : Selection) × PC x

  abbrev VS : Type 0
  VS = (x : Statement) × PS x

  abbrev VB : Type 0
  VB = (x : Block) × PB x

  abbrev VD : Type 0
  VD = (x : LabelledSection) × PD x

  abbrev bare-BlockItem : BlockItem-F VI VL VC VS VB VD → BlockItem-F BlockItem Iteration Selection Statement Block LabelledSection
  bare-BlockItem = T.map-BlockItem VI VL VC VS VB VD BlockItem Iteration Selection Statement Block LabelledSection (λ v. v.0) (λ v. v.0) (λ v. v.0) (λ v. v.0) (λ v. v.0) (λ v. v.0)

  abbrev walks-BlockItem : BlockItem-F BlockItem Iteration Selection Statement Block LabelledSection → BlockItem-F ItemWalk IterationWalk SelectionWalk StatementWalk BlockWalk SectionWalk
  walks-BlockItem = T.map-BlockItem BlockItem Iteration Selection Statement Block LabelledSection ItemWalk IterationWalk SelectionWalk StatementWalk BlockWalk SectionWalk (types_item body) (types_iteration body) (types_selection body) (types_statement body) (types_block body) (types_section body)

  abbrev bare-Iteration : Iteration-F VI VL VC VS VB VD → Iteration-F BlockItem Iteration Selection Statement Block LabelledSection
  bare-Iteration = T.map-Iteration VI VL VC VS VB VD BlockItem Iteration Selection Statement Block LabelledSection (λ v. v.0) (λ v. v.0) (λ v. v.0) (λ v. v.0) (λ v. v.0) (λ v. v.0)

  abbrev walks-Iteration : Iteration-F BlockItem Iteration Selection Statement Block LabelledSection → Iteration-F ItemWalk IterationWalk SelectionWalk StatementWalk BlockWalk SectionWalk
  walks-Iteration = T.map-Iteration BlockItem Iteration Selection Statement Block LabelledSection ItemWalk IterationWalk SelectionWalk StatementWalk BlockWalk SectionWalk (types_item body) (types_iteration body) (types_selection body) (types_statement body) (types_block body) (types_section body)

  abbrev bare-Selection : Selection-F VI VL VC VS VB VD → Selection-F BlockItem Iteration Selection Statement Block LabelledSection
  bare-Selection = T.map-Selection VI VL VC VS VB VD BlockItem Iteration Selection Statement Block LabelledSection (λ v. v.0) (λ v. v.0) (λ v. v.0) (λ v. v.0) (λ v. v.0) (λ v. v.0)

  abbrev walks-Selection : Selection-F BlockItem Iteration Selection Statement Block LabelledSection → Selection-F ItemWalk IterationWalk SelectionWalk StatementWalk BlockWalk SectionWalk
  walks-Selection = T.map-Selection BlockItem Iteration Selection Statement Block LabelledSection ItemWalk IterationWalk SelectionWalk StatementWalk BlockWalk SectionWalk (types_item body) (types_iteration body) (types_selection body) (types_statement body) (types_block body) (types_section body)

  abbrev bare-Statement : Statement-F VI VL VC VS VB VD → Statement-F BlockItem Iteration Selection Statement Block LabelledSection
  bare-Statement = T.map-Statement VI VL VC VS VB VD BlockItem Iteration Selection Statement Block LabelledSection (λ v. v.0) (λ v. v.0) (λ v. v.0) (λ v. v.0) (λ v. v.0) (λ v. v.0)

  abbrev walks-Statement : Statement-F BlockItem Iteration Selection Statement Block LabelledSection → Statement-F ItemWalk IterationWalk SelectionWalk StatementWalk BlockWalk SectionWalk
  walks-Statement = T.map-Statement BlockItem Iteration Selection Statement Block LabelledSection ItemWalk IterationWalk SelectionWalk StatementWalk BlockWalk SectionWalk (types_item body) (types_iteration body) (types_selection body) (types_statement body) (types_block body) (types_section body)

  abbrev bare-Block : Block-F VI VL VC VS VB VD → Block-F BlockItem Iteration Selection Statement Block LabelledSection
  bare-Block = T.map-Block VI VL VC VS VB VD BlockItem Iteration Selection Statement Block LabelledSection (λ v. v.0) (λ v. v.0) (λ v. v.0) (λ v. v.0) (λ v. v.0) (λ v. v.0)

  abbrev walks-Block : Block-F BlockItem Iteration Selection Statement Block LabelledSection → Block-F ItemWalk IterationWalk SelectionWalk StatementWalk BlockWalk SectionWalk
  walks-Block = T.map-Block BlockItem Iteration Selection Statement Block LabelledSection ItemWalk IterationWalk SelectionWalk StatementWalk BlockWalk SectionWalk (types_item body) (types_iteration body) (types_selection body) (types_statement body) (types_block body) (types_section body)

  abbrev bare-LabelledSection : LabelledSection-F VI VL VC VS VB VD → LabelledSection-F BlockItem Iteration Selection Statement Block LabelledSection
  bare-LabelledSection = T.map-LabelledSection VI VL VC VS VB VD BlockItem Iteration Selection Statement Block LabelledSection (λ v. v.0) (λ v. v.0) (λ v. v.0) (λ v. v.0) (λ v. v.0) (λ v. v.0)

  abbrev walks-LabelledSection : LabelledSection-F BlockItem Iteration Selection Statement Block LabelledSection → LabelledSection-F ItemWalk IterationWalk SelectionWalk StatementWalk BlockWalk SectionWalk
  walks-LabelledSection = T.map-LabelledSection BlockItem Iteration Selection Statement Block LabelledSection ItemWalk IterationWalk SelectionWalk StatementWalk BlockWalk SectionWalk (types_item body) (types_iteration body) (types_selection body) (types_statement body) (types_block body) (types_section body)

  module _ (A W : Type 0) (types : A → W) (K : W → Type 0) where
    abbrev V : Type 0
    V = (x : A) × K (types x)

    each-kept : (ys : List V) → Each K (map types (map (λ v. v.0) ys))
    each-kept [] = tt
    each-kept (y ∷ ys) = (y.1, each-kept ys)

  item-of : (y : BlockItem-F VI VL VC VS VB VD) → KI (item_rule body (walks-BlockItem (bare-BlockItem y)))
  item-of (BlockItem-F.Statement s) = statement-item-jumps (types_statement body s.0) s.1
  item-of (BlockItem-F.Declaration declaration) = declaration-jumps declaration
  item-of (BlockItem-F.TagSpecifier tag) = λ around items env p.
      passing-after AnyOf (λ all e. ItemsJumps around all) (tag_alone tag env) (λ _ env. Passes (with_tokens (tag_tokens tag) items) env) (any-passing (tag_alone tag env)) (λ u new t. p)

  selection-of : (y : Selection-F VI VL VC VS VB VD) → KC (selection_rule body (walks-Selection (bare-Selection y)))
  selection-of (Selection-F.If place condition consequence None) = if-jumps place condition (types_statement body consequence.0) None consequence.1 tt
  selection-of (Selection-F.If place condition consequence (Some otherwise)) = if-jumps place condition (types_statement body consequence.0) (Some (types_statement body otherwise.0)) consequence.1 otherwise.1
  selection-of (Selection-F.Switch place value sections) = switch-jumps place value (map (types_section body) (map (λ v. v.0) sections)) (each-kept LabelledSection SectionWalk (types_section body) KD sections)

  alone : (around : Around) (s : TypedStatement) → jumps_of_statement s ≡ no_jumps → StatementJumps around s
  alone around s e = subst (JumpsAre around) (sym e) (none-are around)

  none-returned : (place : Place) (k : ValueKind) (around : Around) (env : Environment) → Passing (λ s e. StatementJumps around s) (elim k [
    | kind.Void ↦ Passes (statement.Return (return_tokens None) kind.Void None) env
    | kind.Integer t ↦ Breaks Mismatch place
    | kind.Pointer ↦ Breaks Mismatch place
    | kind.Struct number ↦ Breaks Mismatch place
  ])
  none-returned place kind.Void around env = alone around (statement.Return (return_tokens None) kind.Void None) (at-return (return_tokens None) kind.Void None)
  none-returned place (kind.Integer t) around env = tt
  none-returned place kind.Pointer around env = tt
  none-returned place (kind.Struct number) around env = tt

  return-jumps : (place : Place) (value : Option Expr) (around : Around) (env : Environment) → Passing (λ s e. StatementJumps around s) (return_walk body place value env)
  return-jumps place None around env = none-returned place (kind_of body.result) around env
  return-jumps place (Some e) around env =
      passing-after AnyOf (λ s e. StatementJumps around s) (valued (types_expr e) env)
      (λ v env. after (assigned_to place body.result v env)
      (λ value env. Passes (statement.Return (return_tokens (Some e)) (kind_of body.result) (Some value)) env)) (any-passing (valued (types_expr e) env))
      (λ v new u. passing-after AnyOf (λ s e. StatementJumps around s) (assigned_to place body.result v new)
      (λ value env. Passes (statement.Return (return_tokens (Some e)) (kind_of body.result) (Some value)) env) (any-passing (assigned_to place body.result v new))
      (λ value last w. alone around (statement.Return (return_tokens (Some e)) (kind_of body.result) (Some value)) (at-return (return_tokens (Some e)) (kind_of body.result) (Some value))))

  statement-of : (y : Statement-F VI VL VC VS VB VD) → KS (statement_rule body (walks-Statement (bare-Statement y)))
  statement-of (Statement-F.Block block) = λ around env.
      passing-after (λ b e. BlockJumps around b) (λ s e. StatementJumps around s) (scoped (types_block body block.0 around) env) (λ b env. Passes (statement.Block b) env)
      (scoped-passing (BlockJumps around) (types_block body block.0 around) env (block.1 around (within env))) (λ b new j. subst (JumpsAre around) (sym (at-block b)) j)
  statement-of (Statement-F.Empty place) = λ around env. alone around statement.Empty at-empty
  statement-of (Statement-F.Expression value) = λ around env.
      passing-after AnyOf (λ s e. StatementJumps around s) (effect_of value env) _ (any-passing (effect_of value env)) (λ e new u. alone around (statement.Effect _ e) (at-effect _ e))
  statement-of (Statement-F.Break place) = λ around env.
      passing-if (λ s e. StatementJumps around s) around.breaks (Passes statement.Break env) (Breaks Mismatch place) (λ b. subst (JumpsAre around) (sym at-break) ((λ e. b), (λ e. absurd (cc)))) (λ e. tt)
  statement-of (Statement-F.Continue place) = λ around env.
      passing-if (λ s e. StatementJumps around s) around.continues (Passes statement.Continue env) (Breaks Mismatch place) (λ b. subst (JumpsAre around) (sym at-continue) ((λ e. absurd (cc)), (λ e. b))) (λ e. tt)
  statement-of (Statement-F.Return place value) = λ around env. return-jumps place value around env
  statement-of (Statement-F.Selection walk) = λ around env.
      passing-after (λ b e. SelectionJumps around b) (λ s e. StatementJumps around s) (scoped (types_selection body walk.0 around) env) (λ b env. Passes (statement.Selection b) env)
      (scoped-passing (SelectionJumps around) (types_selection body walk.0 around) env (walk.1 around (within env))) (λ b new j. subst (JumpsAre around) (sym (at-selection b)) j)
  statement-of (Statement-F.Iteration walk) = λ around env.
      passing-after AnyOf (λ s e. StatementJumps around s) (scoped (types_iteration body walk.0 around) env) (λ i env. Passes (statement.Iteration i) env) (any-passing (scoped (types_iteration body walk.0 around) env))
      (λ i new u. alone around (statement.Iteration i) (at-iteration i))

  block-of : (y : Block-F VI VL VC VS VB VD) → KB (block_rule body (walks-Block (bare-Block y)))
  block-of y = block-jumps (map (types_item body) (map (λ v. v.0) y.parts)) (each-kept BlockItem ItemWalk (types_item body) KI y.parts)

  section-of : (y : LabelledSection-F VI VL VC VS VB VD) → KD (section_rule body (walks-LabelledSection (bare-LabelledSection y)))
  section-of y = section-jumps y.labels (map (types_statement body) (map (λ v. v.0) y.statements)) (each-kept Statement StatementWalk (types_statement body) KS y.statements)

  whole-BlockItem : (y : BlockItem-F VI VL VC VS VB VD) → PI (roll-BlockItem (bare-BlockItem y))
  whole-BlockItem y = subst KI (sym (T.fold-roll-BlockItem ItemWalk IterationWalk SelectionWalk StatementWalk BlockWalk SectionWalk (item_rule body) (iteration_rule body) (selection_rule body) (statement_rule body) (block_rule body) (section_rule body) (bare-BlockItem y))) (item-of y)

  whole-Iteration : (y : Iteration-F VI VL VC VS VB VD) → PL (roll-Iteration (bare-Iteration y))
  whole-Iteration y = tt

  whole-Selection : (y : Selection-F VI VL VC VS VB VD) → PC (roll-Selection (bare-Selection y))
  whole-Selection y = subst KC (sym (T.fold-roll-Selection ItemWalk IterationWalk SelectionWalk StatementWalk BlockWalk SectionWalk (item_rule body) (iteration_rule body) (selection_rule body) (statement_rule body) (block_rule body) (section_rule body) (bare-Selection y))) (selection-of y)

  whole-Statement : (y : Statement-F VI VL VC VS VB VD) → PS (roll-Statement (bare-Statement y))
  whole-Statement y = subst KS (sym (T.fold-roll-Statement ItemWalk IterationWalk SelectionWalk StatementWalk BlockWalk SectionWalk (item_rule body) (iteration_rule body) (selection_rule body) (statement_rule body) (block_rule body) (section_rule body) (bare-Statement y))) (statement-of y)

  whole-Block : (y : Block-F VI VL VC VS VB VD) → PB (roll-Block (bare-Block y))
  whole-Block y = subst KB (sym (T.fold-roll-Block ItemWalk IterationWalk SelectionWalk StatementWalk BlockWalk SectionWalk (item_rule body) (iteration_rule body) (selection_rule body) (statement_rule body) (block_rule body) (section_rule body) (bare-Block y))) (block-of y)

  whole-LabelledSection : (y : LabelledSection-F VI VL VC VS VB VD) → PD (roll-LabelledSection (bare-LabelledSection y))
  whole-LabelledSection y = subst KD (sym (T.fold-roll-LabelledSection ItemWalk IterationWalk SelectionWalk StatementWalk BlockWalk SectionWalk (item_rule body) (iteration_rule body) (selection_rule body) (statement_rule body) (block_rule body) (section_rule body) (bare-LabelledSection y))) (section-of y)

  -- the jumps of a block that is typed leave what stands around it
  pub block-jumps-are : (x : Block) → KB (types_block body x)
  block-jumps-are = T.ind-Block PI PL PC PS PB PD
      (λ x y is. subst (λ (z : BlockItem-F BlockItem Iteration Selection Statement Block LabelledSection). PI (roll-BlockItem z)) is (whole-BlockItem y))
      (λ x y is. subst (λ (z : Iteration-F BlockItem Iteration Selection Statement Block LabelledSection). PL (roll-Iteration z)) is (whole-Iteration y))
      (λ x y is. subst (λ (z : Selection-F BlockItem Iteration Selection Statement Block LabelledSection). PC (roll-Selection z)) is (whole-Selection y))
      (λ x y is. subst (λ (z : Statement-F BlockItem Iteration Selection Statement Block LabelledSection). PS (roll-Statement z)) is (whole-Statement y))
      (λ x y is. subst (λ (z : Block-F BlockItem Iteration Selection Statement Block LabelledSection). PB (roll-Block z)) is (whole-Block y))
      (λ x y is. subst (λ (z : LabelledSection-F BlockItem Iteration Selection Statement Block LabelledSection). PD (roll-LabelledSection z)) is (whole-LabelledSection y))
