-- Statements as a text spells them, where the bounds of loops are few, and walks of statements that keep the rules of typed programs.
use Rattle.std.specs.Prelude.{◌≡◌, ◌&&◌, ℕ, nat_le, nat_eq, Bool, true, false, Option, None, Some, List, [], map, Contains}
use Rattle.std.specs.List.{list_any}
use Rattle.hy_bits.specs.declared.scalar.Scalar.{Scalar}
use Rattle.c_tree.specs.declared.expressions.Expr.{Expr}
use Rattle.c_tree.specs.declared.statements.LoopBound.{LoopBound}
use Rattle.c_tree.specs.declared.statements.First.{First}
use Rattle.c_tree.specs.declared.statements.First.TheVariants as first
use Rattle.c_tree.specs.declared.statements.ExpressionStatement.{ExpressionStatement}
use Rattle.c_tree.specs.declared.statements.Label.{Label}
use Rattle.c_tree.specs.declared.statements.Label.TheVariants as source
use Rattle.c_tree.specs.declared.statements.Block.{Block}
use Rattle.c_tree.specs.declared.statements.BlockItem.{BlockItem}
use Rattle.c_tree.specs.declared.statements.Iteration.{Iteration}
use Rattle.c_tree.specs.declared.statements.Selection.{Selection}
use Rattle.c_tree.specs.declared.statements.Statement.{Statement}
use Rattle.c_tree.specs.declared.statements.LabelledSection.{LabelledSection}
use Rattle.c_tree.specs.declared.statements.BlockItem.TheOpen.{BlockItem-F, Iteration-F, Selection-F, Statement-F, Block-F, LabelledSection-F}
use Rattle.c_tree.specs.declared.statements.BlockItem.TheFolds.{fold-BlockItem, fold-Iteration, fold-Selection, fold-Statement, fold-Block, fold-LabelledSection}
use Rattle.c_meaning.specs.declared.statements.TypedStatement.{TypedStatement}
use Rattle.c_meaning.specs.declared.statements.TypedSelection.{TypedSelection}
use Rattle.c_meaning.specs.declared.statements.TypedIteration.{TypedIteration}
use Rattle.c_meaning.specs.declared.statements.TypedBlock.{TypedBlock}
use Rattle.c_meaning.specs.declared.statements.TypedLabel.{TypedLabel}
use Rattle.c_meaning.specs.declared.statements.TypedLabel.TheVariants as label
use Rattle.c_meaning.specs.StatementRules.{LabelsFit, labels_of, most_bound, IsTypedBlock}
use Rattle.c_typing.specs.declared.environment.Environment.{Environment}
use Rattle.c_heads.specs.declared.context.Body.{Body}
use Rattle.c_heads.specs.Labels.{Labelled}
use Rattle.c_bodies.specs.declared.context.Around.{Around}
use Rattle.c_bodies.specs.declared.context.ItemList.{ItemList}
use Rattle.c_bodies.specs.declared.context.Sections.{Sections}
use Rattle.c_bodies.specs.Statements.{StatementWalk, SelectionWalk, IterationWalk, BlockWalk, ItemWalk, SectionWalk}
use Rattle.typing_laws.proofs.Parts.{Each}
use Rattle.expression_laws.specs.Keeping.{Keeps, KeepsOver}
use Rattle.source_laws.specs.Spelled.{every, where_some, is_spelled, is_spelled_tag}
use Rattle.effect_laws.specs.Simple.{is_spelled_simple}
use Rattle.object_laws.specs.Declaring.{is_spelled_declaration}
use Rattle.statement_laws.specs.Final.{Finally, IsTypedStatement, IsTypedSelection, IsTypedIteration, IsTypedItem, IsTypedSection}

-- ---- as a text spells them

abbrev pub is_few_bound : Option LoopBound → Bool
is_few_bound None = true
is_few_bound (Some bound) = nat_le bound.number most_bound

abbrev pub spelled_where : Option Expr → Bool
spelled_where None = true
spelled_where (Some e) = is_spelled e

abbrev pub step_spelled : Option ExpressionStatement → Bool
step_spelled None = true
step_spelled (Some s) = is_spelled_simple s

abbrev pub first_spelled : First → Bool
first_spelled first.Nothing = true
first_spelled (first.Declaration declaration) = is_spelled_declaration declaration
first_spelled (first.Expression simple) = is_spelled_simple simple

abbrev pub label_spelled : Label → Bool
label_spelled (source.Case place value) = is_spelled value
label_spelled (source.Default place) = true

abbrev pub item_spelled : BlockItem-F Bool Bool Bool Bool Bool Bool → Bool
item_spelled (BlockItem-F.Statement statement) = statement
item_spelled (BlockItem-F.Declaration declaration) = is_spelled_declaration declaration
item_spelled (BlockItem-F.TagSpecifier tag) = is_spelled_tag tag

abbrev pub iteration_spelled : Iteration-F Bool Bool Bool Bool Bool Bool → Bool
iteration_spelled (Iteration-F.While bound place condition inner) = is_few_bound bound && is_spelled condition && inner
iteration_spelled (Iteration-F.Do bound place inner condition) = is_few_bound bound && is_spelled condition && inner
iteration_spelled (Iteration-F.For bound place initial condition step inner) =
    is_few_bound bound && first_spelled initial && spelled_where condition && step_spelled step && inner

abbrev pub selection_spelled : Selection-F Bool Bool Bool Bool Bool Bool → Bool
selection_spelled (Selection-F.If place condition consequence otherwise) = is_spelled condition && consequence && where_some otherwise
selection_spelled (Selection-F.Switch place value sections) = is_spelled value && every sections

abbrev pub statement_spelled : Statement-F Bool Bool Bool Bool Bool Bool → Bool
statement_spelled (Statement-F.Block block) = block
statement_spelled (Statement-F.Empty place) = true
statement_spelled (Statement-F.Expression value) = is_spelled_simple value
statement_spelled (Statement-F.Break place) = true
statement_spelled (Statement-F.Continue place) = true
statement_spelled (Statement-F.Return place value) = spelled_where value
statement_spelled (Statement-F.Selection selection) = selection
statement_spelled (Statement-F.Iteration iteration) = iteration

abbrev pub block_spelled : Block-F Bool Bool Bool Bool Bool Bool → Bool
block_spelled block = every block.parts

abbrev pub section_spelled : LabelledSection-F Bool Bool Bool Bool Bool Bool → Bool
section_spelled section = every (map label_spelled section.labels) && every section.statements

abbrev pub is_spelled_item : BlockItem → Bool
is_spelled_item = fold-BlockItem Bool Bool Bool Bool Bool Bool item_spelled iteration_spelled selection_spelled statement_spelled block_spelled section_spelled

abbrev pub is_spelled_iteration : Iteration → Bool
is_spelled_iteration = fold-Iteration Bool Bool Bool Bool Bool Bool item_spelled iteration_spelled selection_spelled statement_spelled block_spelled section_spelled

abbrev pub is_spelled_selection : Selection → Bool
is_spelled_selection = fold-Selection Bool Bool Bool Bool Bool Bool item_spelled iteration_spelled selection_spelled statement_spelled block_spelled section_spelled

abbrev pub is_spelled_statement : Statement → Bool
is_spelled_statement = fold-Statement Bool Bool Bool Bool Bool Bool item_spelled iteration_spelled selection_spelled statement_spelled block_spelled section_spelled

abbrev pub is_spelled_block : Block → Bool
is_spelled_block = fold-Block Bool Bool Bool Bool Bool Bool item_spelled iteration_spelled selection_spelled statement_spelled block_spelled section_spelled

abbrev pub is_spelled_section : LabelledSection → Bool
is_spelled_section = fold-LabelledSection Bool Bool Bool Bool Bool Bool item_spelled iteration_spelled selection_spelled statement_spelled block_spelled section_spelled

-- ---- what is found

abbrev pub StatementIn : Body → Environment → TypedStatement → Type 0
StatementIn body env s = Finally IsTypedStatement body env s

abbrev pub SelectionIn : Body → Environment → TypedSelection → Type 0
SelectionIn body env s = Finally IsTypedSelection body env s

abbrev pub IterationIn : Body → Environment → TypedIteration → Type 0
IterationIn body env s = Finally IsTypedIteration body env s

abbrev pub BlockIn : Body → Environment → TypedBlock → Type 0
BlockIn body env b = Finally IsTypedBlock body env b

abbrev pub ItemsIn : Body → Environment → ItemList → Type 0
ItemsIn body env items = Finally (λ within all. Each (IsTypedItem within) all.items) body env items

-- the labels so far, where `l` has their words
pub record LabelsAre (t : Scalar) (all : List TypedLabel) (l : Labelled) : Type 0 where
  pub fit : LabelsFit t all
  pub words : (w : ℕ) → Contains all (label.Case w) → list_any (nat_eq w) l.words ≡ true
  pub default : l.has_default ≡ false → Contains all label.Default → ⊥

abbrev pub SectionsIn : Body → Scalar → Environment → Sections → Type 0
SectionsIn body t env s =
    Finally (λ within all. Each (IsTypedSection within) all.sections) body env s × (s.labelled.labels ≡ []) × LabelsAre t (labels_of s.sections) s.labelled

-- ---- walks

abbrev pub KeepsStatement : Body → StatementWalk → Type 0
KeepsStatement body walk = (around : Around) → Keeps (StatementIn body) (walk around)

abbrev pub KeepsSelection : Body → SelectionWalk → Type 0
KeepsSelection body walk = (around : Around) → Keeps (SelectionIn body) (walk around)

abbrev pub KeepsIteration : Body → IterationWalk → Type 0
KeepsIteration body walk = (around : Around) → Keeps (IterationIn body) (walk around)

abbrev pub KeepsBlock : Body → BlockWalk → Type 0
KeepsBlock body walk = (around : Around) → Keeps (BlockIn body) (walk around)

abbrev pub KeepsItem : Body → ItemWalk → Type 0
KeepsItem body walk = (around : Around) → KeepsOver (ItemsIn body) (walk around)

abbrev pub KeepsSection : Body → SectionWalk → Type 0
KeepsSection body walk = (around : Around) (t : Scalar) → KeepsOver (SectionsIn body t) (walk around t)
