-- Statements as whole trees (C11 6.8): each production's rule on what its parts are, from left to right.
use Rattle.std.specs.Prelude.{ℕ, true, if◌then◌else◌, Option, None, Some, List, [], ◌∷◌, ◌++◌, map}
use Rattle.hy_bits.specs.declared.scalar.Scalar.{Scalar}
use Rattle.c_tree.specs.declared.token.Place.{Place}
use Rattle.c_tree.specs.declared.expressions.Expr.{Expr}
use Rattle.c_tree.specs.declared.statements.Statement.{Statement}
use Rattle.c_tree.specs.declared.statements.Selection.{Selection}
use Rattle.c_tree.specs.declared.statements.Iteration.{Iteration}
use Rattle.c_tree.specs.declared.statements.LabelledSection.{LabelledSection}
use Rattle.c_tree.specs.declared.statements.Block.{Block}
use Rattle.c_tree.specs.declared.statements.BlockItem.{BlockItem}
use Rattle.c_tree.specs.declared.statements.Declaration.{Declaration}
use Rattle.c_tree.specs.declared.statements.InitDeclarator.{InitDeclarator}
use Rattle.c_tree.specs.declared.statements.LoopBound.{LoopBound}
use Rattle.c_tree.specs.declared.statements.First.{First}
use Rattle.c_tree.specs.declared.statements.ExpressionStatement.{ExpressionStatement}
use Rattle.c_tree.specs.declared.statements.BlockItem.TheOpen.{BlockItem-F, Iteration-F, Selection-F, Statement-F, Block-F, LabelledSection-F}
use Rattle.c_tree.specs.declared.statements.BlockItem.TheFolds.{fold-BlockItem, fold-Iteration, fold-Selection, fold-Statement, fold-Block, fold-LabelledSection}
use Rattle.c_meaning.specs.declared.types.ValueKind.TheVariants as kind
use Rattle.c_meaning.specs.declared.statements.Controlling.{Controlling}
use Rattle.c_meaning.specs.declared.statements.TypedStatement.{TypedStatement}
use Rattle.c_meaning.specs.declared.statements.TypedStatement.TheVariants as statement
use Rattle.c_meaning.specs.declared.statements.TypedSelection.{TypedSelection}
use Rattle.c_meaning.specs.declared.statements.TypedSelection.TheVariants as selection
use Rattle.c_meaning.specs.declared.statements.TypedIteration.{TypedIteration}
use Rattle.c_meaning.specs.declared.statements.TypedIteration.TheVariants as iteration
use Rattle.c_meaning.specs.declared.statements.TypedBlock.{TypedBlock}
use Rattle.c_meaning.specs.declared.statements.TypedItem.{TypedItem}
use Rattle.c_meaning.specs.declared.statements.TypedItem.TheVariants as item
use Rattle.c_meaning.specs.declared.statements.TypedItem.TheViews.{roll-TypedBlock, roll-TypedSection}
use Rattle.c_meaning.specs.declared.statements.TypedSection.{TypedSection}
use Rattle.c_meaning.specs.Types.{kind_of}
use Rattle.c_conversions.specs.declared.fault.TypeKind.TheVariants.{Mismatch}
use Rattle.c_conversions.specs.Operators.{signed}
use Rattle.c_typing.specs.declared.environment.QualifiedType.{QualifiedType}
use Rattle.c_typing.specs.Walks.{Breaks, Passes, Walk, after, unless, along}
use Rattle.c_typing.specs.Values.{kind_operand, converted}
use Rattle.c_typing.specs.Expressions.{valued, assigned_to}
use Rattle.c_expressions.specs.Typing.{types_expr}
use Rattle.c_objects.specs.declared.initializers.Storage.TheVariants.{Automatic}
use Rattle.c_objects.specs.Objects.{object_specs, declarator_walk}
use Rattle.c_heads.specs.declared.context.Body.{Body}
use Rattle.c_bodies.specs.declared.context.Sections.{Sections}
use Rattle.c_bodies.specs.declared.context.Around.{Around}
use Rattle.c_bodies.specs.declared.context.ItemList.{ItemList}
use Rattle.c_bodies.specs.declared.context.ForHead.{ForHead}
use Rattle.c_bodies.specs.declared.context.Switched.{Switched}
use Rattle.c_heads.specs.Tokens.{plus, simple_tokens, declaration_tokens, tag_tokens, if_tokens, switch_tokens, while_tokens, do_tokens, for_tokens, return_tokens}
use Rattle.c_heads.specs.Effects.{effect_of}
use Rattle.c_heads.specs.Loops.{condition_of, controlling_of, controlling_where, first_of, step_where, step_number, counter_of, bounded}
use Rattle.c_heads.specs.Scopes.{scoped, tag_alone}
use Rattle.c_heads.specs.Labels.{Labelled, no_labels, next_section, label_of}

-- ---- what each kind of tree is, where it stands

abbrev pub StatementWalk : Type 0
StatementWalk = Around → Walk TypedStatement

abbrev pub SelectionWalk : Type 0
SelectionWalk = Around → Walk TypedSelection

abbrev pub IterationWalk : Type 0
IterationWalk = Around → Walk TypedIteration

abbrev pub BlockWalk : Type 0
BlockWalk = Around → Walk TypedBlock

-- the items of a block so far, with one more
abbrev pub ItemWalk : Type 0
ItemWalk = Around → ItemList → Walk ItemList

abbrev pub SectionWalk : Type 0
SectionWalk = Around → Scalar → Sections → Walk Sections

-- ---- loops (C11 6.8.5)

abbrev pub in_loop : Around
in_loop = record { breaks = true; continues = true }

abbrev pub while_end : Body → Option LoopBound → Place → Controlling → TypedStatement → Walk TypedIteration
while_end body bound place c s env = after (bounded place body bound None env) (λ n env. Passes (iteration.While (while_tokens bound) n c s) env)

abbrev pub while_walk : Body → Option LoopBound → Place → Expr → StatementWalk → Walk TypedIteration
while_walk body bound place condition inner env =
    after (controlling_of place condition env) (λ c env. after (scoped (inner in_loop) env) (λ s env. while_end body bound place c s env))

abbrev pub do_end : Body → Option LoopBound → Place → Expr → TypedStatement → Walk TypedIteration
do_end body bound place condition s env =
    after (controlling_of place condition env)
    (λ c env. after (bounded place body bound None env) (λ n env. Passes (iteration.Do (do_tokens bound) n s c) env))

abbrev pub do_walk : Body → Option LoopBound → Place → StatementWalk → Expr → Walk TypedIteration
do_walk body bound place inner condition env = after (scoped (inner in_loop) env) (λ s env. do_end body bound place condition s env)

-- the head of a `for`, and the number of what its step changes
abbrev pub for_head : Place → First → Option Expr → Option ExpressionStatement → Walk ForHead
for_head place initial condition step env =
    after (first_of initial env)
    (λ f env. after (controlling_where place condition env)
    (λ c env. let number = step_number env step in
    after (step_where step env) (λ s env. Passes (record { first = f; condition = c; number = number; step = s }) env)))

abbrev pub for_end : Body → Option LoopBound → Place → First → ForHead → TypedStatement → Walk TypedIteration
for_end body bound place initial head s env =
    let counter = counter_of body head.number head.first head.condition head.step s in
    after (bounded place body bound counter env)
    (λ n env. Passes (iteration.For (for_tokens bound initial) n counter head.first head.condition head.step s) env)

abbrev pub for_walk : Body → Option LoopBound → Place → First → Option Expr → Option ExpressionStatement → StatementWalk → Walk TypedIteration
for_walk body bound place initial condition step inner env =
    after (for_head place initial condition step env)
    (λ head env. after (scoped (inner in_loop) env) (λ s env. for_end body bound place initial head s env))

abbrev pub iteration_rule : Body → Iteration-F ItemWalk IterationWalk SelectionWalk StatementWalk BlockWalk SectionWalk → IterationWalk
iteration_rule body (Iteration-F.While bound place condition inner) around = while_walk body bound place condition inner
iteration_rule body (Iteration-F.Do bound place inner condition) around = do_walk body bound place inner condition
iteration_rule body (Iteration-F.For bound place initial condition step inner) around = for_walk body bound place initial condition step inner

-- ---- selections (C11 6.8.4)

abbrev pub otherwise_walk : Option StatementWalk → Around → Walk (Option TypedStatement)
otherwise_walk None around env = Passes None env
otherwise_walk (Some walk) around env = after (scoped (walk around) env) (λ s env. Passes (Some s) env)

abbrev pub if_walk : Place → Expr → StatementWalk → Option StatementWalk → Around → Walk TypedSelection
if_walk place condition consequence otherwise around env =
    after (condition_of place condition env)
    (λ c env. after (scoped (consequence around) env)
    (λ s env. after (otherwise_walk otherwise around env) (λ o env. Passes (selection.If (if_tokens condition otherwise) c s o) env)))

abbrev pub no_sections : Sections
no_sections = record { labelled = no_labels; sections = [] }

abbrev pub in_switch : Around → Around
in_switch around = record { breaks = true; continues = around.continues }

-- C11 6.8.4.2p1, p5: what is switched on is an integer, which is promoted
abbrev pub switched_of : Place → Expr → Walk Switched
switched_of place value env =
    after (valued (types_expr value) env)
    (λ v env. unless place (signed (kind_operand (kind_of v.ctype)))
    (λ p env. Passes (record { scalar = p.scalar; value = converted p.conversion v.expr }) env) env)

abbrev pub switch_of : Expr → Switched → Sections → TypedSelection
switch_of value on sections = selection.Switch (switch_tokens value sections.labelled.tokens) on.scalar on.value sections.sections

abbrev pub sections_walk : Around → Scalar → List SectionWalk → Walk Sections
sections_walk around t sections env = along (map (λ section. section around t) sections) no_sections env

abbrev pub switch_walk : Place → Expr → List SectionWalk → Around → Walk TypedSelection
switch_walk place value sections around env =
    after (switched_of place value env)
    (λ on env. after (scoped (sections_walk (in_switch around) on.scalar sections) env) (λ all env. Passes (switch_of value on all) env))

abbrev pub selection_rule : Body → Selection-F ItemWalk IterationWalk SelectionWalk StatementWalk BlockWalk SectionWalk → SelectionWalk
selection_rule body (Selection-F.If place condition consequence otherwise) = if_walk place condition consequence otherwise
selection_rule body (Selection-F.Switch place value sections) = switch_walk place value sections

-- one more statement after those before it
abbrev pub statement_after : Around → StatementWalk → List TypedStatement → Walk (List TypedStatement)
statement_after around walk before env = after (walk around env) (λ s env. Passes (before ++ s ∷ []) env)

abbrev pub with_section : Labelled → List TypedStatement → List TypedSection → Sections
with_section labelled statements sections = record {
  labelled = next_section labelled;
  sections = sections ++ roll-TypedSection (record { labels = labelled.labels; statements = statements }) ∷ [];
}

abbrev pub section_rule : Body → LabelledSection-F ItemWalk IterationWalk SelectionWalk StatementWalk BlockWalk SectionWalk → SectionWalk
section_rule body section around t sections env =
    after (along (map (label_of t) section.labels) sections.labelled env)
    (λ labelled env. after (along (map (statement_after around) section.statements) [] env)
    (λ statements env. Passes (with_section labelled statements sections.sections) env))

-- ---- other statements

-- C11 6.8.6.2, 6.8.6.3
abbrev pub break_walk : Place → Around → Walk TypedStatement
break_walk place around env = if around.breaks then Passes statement.Break env else Breaks Mismatch place

abbrev pub continue_walk : Place → Around → Walk TypedStatement
continue_walk place around env = if around.continues then Passes statement.Continue env else Breaks Mismatch place

-- C11 6.8.6.4p1
abbrev pub return_walk : Body → Place → Option Expr → Walk TypedStatement
return_walk body place None env =
    elim (kind_of body.result) [
      | kind.Void ↦ Passes (statement.Return (return_tokens None) kind.Void None) env
      | kind.Integer t ↦ Breaks Mismatch place
      | kind.Pointer ↦ Breaks Mismatch place
      | kind.Struct number ↦ Breaks Mismatch place
    ]
return_walk body place (Some e) env =
    after (valued (types_expr e) env)
    (λ v env. after (assigned_to place body.result v env)
    (λ value env. Passes (statement.Return (return_tokens (Some e)) (kind_of body.result) (Some value)) env))

abbrev pub expression_walk : ExpressionStatement → Walk TypedStatement
expression_walk value env = after (effect_of value env) (λ e env. Passes (statement.Effect (plus (simple_tokens value) 1) e) env)

abbrev pub scoped_block : BlockWalk → Around → Walk TypedStatement
scoped_block block around env = after (scoped (block around) env) (λ b env. Passes (statement.Block b) env)

abbrev pub scoped_selection : SelectionWalk → Around → Walk TypedStatement
scoped_selection walk around env = after (scoped (walk around) env) (λ s env. Passes (statement.Selection s) env)

abbrev pub scoped_iteration : IterationWalk → Around → Walk TypedStatement
scoped_iteration walk around env = after (scoped (walk around) env) (λ i env. Passes (statement.Iteration i) env)

abbrev pub statement_rule : Body → Statement-F ItemWalk IterationWalk SelectionWalk StatementWalk BlockWalk SectionWalk → StatementWalk
statement_rule body (Statement-F.Block block) around env = scoped_block block around env
statement_rule body (Statement-F.Empty place) around env = Passes statement.Empty env
statement_rule body (Statement-F.Expression value) around env = expression_walk value env
statement_rule body (Statement-F.Break place) around env = break_walk place around env
statement_rule body (Statement-F.Continue place) around env = continue_walk place around env
statement_rule body (Statement-F.Return place value) around env = return_walk body place value env
statement_rule body (Statement-F.Selection walk) around env = scoped_selection walk around env
statement_rule body (Statement-F.Iteration walk) around env = scoped_iteration walk around env

-- ---- blocks (C11 6.8.2)

abbrev pub with_item : TypedItem → ItemList → ItemList
with_item typed items = record { tokens = items.tokens; items = items.items ++ typed ∷ [] }

abbrev pub with_tokens : ℕ → ItemList → ItemList
with_tokens tokens items = record { tokens = plus items.tokens tokens; items = items.items }

abbrev pub object_after : QualifiedType → InitDeclarator → ItemList → Walk ItemList
object_after q declarator items env =
    after (declarator_walk Automatic q declarator env) (λ declared env. Passes (with_item (item.Object declared) items) env)

abbrev pub declaration_item : Declaration → ItemList → Walk ItemList
declaration_item declaration items env =
    after (object_specs declaration env)
    (λ q env. along (map (object_after q) declaration.declarators) (with_tokens (declaration_tokens declaration) items) env)

abbrev pub item_rule : Body → BlockItem-F ItemWalk IterationWalk SelectionWalk StatementWalk BlockWalk SectionWalk → ItemWalk
item_rule body (BlockItem-F.Statement walk) around items env = after (walk around env) (λ s env. Passes (with_item (item.Statement s) items) env)
item_rule body (BlockItem-F.Declaration declaration) around items env = declaration_item declaration items env
item_rule body (BlockItem-F.TagSpecifier tag) around items env = after (tag_alone tag env) (λ _ env. Passes (with_tokens (tag_tokens tag) items) env)

abbrev pub no_items : ItemList
no_items = record { tokens = 2; items = [] }

abbrev pub block_of : ItemList → TypedBlock
block_of all = roll-TypedBlock (record { tokens = all.tokens; items = all.items })

abbrev pub block_rule : Body → Block-F ItemWalk IterationWalk SelectionWalk StatementWalk BlockWalk SectionWalk → BlockWalk
block_rule body block around env =
    after (along (map (λ part. part around) block.parts) no_items env) (λ all env. Passes (block_of all) env)

-- ---- whole trees

abbrev pub types_statement : Body → Statement → StatementWalk
types_statement body =
    fold-Statement ItemWalk IterationWalk SelectionWalk StatementWalk BlockWalk SectionWalk
    (item_rule body) (iteration_rule body) (selection_rule body) (statement_rule body) (block_rule body) (section_rule body)

abbrev pub types_selection : Body → Selection → SelectionWalk
types_selection body =
    fold-Selection ItemWalk IterationWalk SelectionWalk StatementWalk BlockWalk SectionWalk
    (item_rule body) (iteration_rule body) (selection_rule body) (statement_rule body) (block_rule body) (section_rule body)

abbrev pub types_iteration : Body → Iteration → IterationWalk
types_iteration body =
    fold-Iteration ItemWalk IterationWalk SelectionWalk StatementWalk BlockWalk SectionWalk
    (item_rule body) (iteration_rule body) (selection_rule body) (statement_rule body) (block_rule body) (section_rule body)

abbrev pub types_block : Body → Block → BlockWalk
types_block body =
    fold-Block ItemWalk IterationWalk SelectionWalk StatementWalk BlockWalk SectionWalk
    (item_rule body) (iteration_rule body) (selection_rule body) (statement_rule body) (block_rule body) (section_rule body)

abbrev pub types_item : Body → BlockItem → ItemWalk
types_item body =
    fold-BlockItem ItemWalk IterationWalk SelectionWalk StatementWalk BlockWalk SectionWalk
    (item_rule body) (iteration_rule body) (selection_rule body) (statement_rule body) (block_rule body) (section_rule body)

abbrev pub types_section : Body → LabelledSection → SectionWalk
types_section body =
    fold-LabelledSection ItemWalk IterationWalk SelectionWalk StatementWalk BlockWalk SectionWalk
    (item_rule body) (iteration_rule body) (selection_rule body) (statement_rule body) (block_rule body) (section_rule body)
