-- Statements that are made of parts that keep the rules.
use Rattle.std.proofs.Common.{◌≡◌, ℕ, Option, None, Some, List, ap, subst, refl}
use Rattle.hy_bits.specs.declared.scalar.Scalar.{Scalar}
use Rattle.c_meaning.specs.declared.types.ValueKind.{ValueKind}
use Rattle.c_meaning.specs.declared.expressions.TypedExpr.{TypedExpr}
use Rattle.c_meaning.specs.declared.statements.TypedEffect.{TypedEffect}
use Rattle.c_meaning.specs.declared.statements.TypedDeclarator.{TypedDeclarator}
use Rattle.c_meaning.specs.declared.statements.Controlling.{Controlling}
use Rattle.c_meaning.specs.declared.statements.Counter.{Counter}
use Rattle.c_meaning.specs.declared.statements.TypedFirst.{TypedFirst}
use Rattle.c_meaning.specs.declared.statements.TypedStep.{TypedStep}
use Rattle.c_meaning.specs.declared.statements.TypedLabel.{TypedLabel}
use Rattle.c_meaning.specs.declared.statements.TypedStatement.{TypedStatement}
use Rattle.c_meaning.specs.declared.statements.TypedStatement.TheVariants as statement
use Rattle.c_meaning.specs.declared.statements.TypedSelection.{TypedSelection}
use Rattle.c_meaning.specs.declared.statements.TypedSelection.TheVariants as selection
use Rattle.c_meaning.specs.declared.statements.TypedIteration.{TypedIteration}
use Rattle.c_meaning.specs.declared.statements.TypedIteration.TheVariants as iteration
use Rattle.c_meaning.specs.declared.statements.TypedItem.{TypedItem}
use Rattle.c_meaning.specs.declared.statements.TypedItem.TheVariants as item
use Rattle.c_meaning.specs.declared.statements.TypedBlock.{TypedBlock}
use Rattle.c_meaning.specs.declared.statements.TypedSection.{TypedSection}
use Rattle.c_meaning.specs.declared.statements.TypedItem.TheOpen.{TypedItem-F, TypedIteration-F, TypedSelection-F, TypedStatement-F}
use Rattle.c_meaning.specs.declared.statements.TypedItem.TheViews.{roll-TypedIteration, roll-TypedSelection, roll-TypedStatement, roll-TypedBlock, roll-TypedSection}
use Rattle.c_meaning.specs.declared.statements.TypedItem.TheFolds as T
use Rattle.c_meaning.specs.StatementRules.{Within, ItemFits, IterationFits, SelectionFits, StatementFits, IsTypedBlock}
use Rattle.typing_laws.proofs.Parts.{Each, each-pairs}
use Rattle.statement_laws.specs.Final.{NoRule, IsTypedItem, IsTypedIteration, IsTypedSelection, IsTypedStatement, IsTypedSection}

module _ (within : Within) where
  abbrev VI : Type 0
  VI = (x : TypedItem) × IsTypedItem within x

  abbrev VL : Type 0
  VL = (x : TypedIteration) × IsTypedIteration within x

  abbrev VC : Type 0
  VC = (x : TypedSelection) × IsTypedSelection within x

  abbrev VS : Type 0
  VS = (x : TypedStatement) × IsTypedStatement within x

  abbrev VB : Type 0
  VB = (x : TypedBlock) × IsTypedBlock within x

  abbrev VD : Type 0
  VD = (x : TypedSection) × IsTypedSection within x

  abbrev StatementNode : Type 0
  StatementNode = TypedStatement-F VI VL VC VS VB VD

  statement-made : (y : StatementNode) (s : TypedStatement) → roll-TypedStatement (T.map-TypedStatement VI VL VC VS VB VD TypedItem TypedIteration TypedSelection TypedStatement TypedBlock TypedSection (λ v. v.0) (λ v. v.0) (λ v. v.0) (λ v. v.0) (λ v. v.0) (λ v. v.0) y) ≡ s
      → StatementFits within (T.map-TypedStatement VI VL VC VS VB VD TypedItem TypedIteration TypedSelection TypedStatement TypedBlock TypedSection (λ v. v.0) (λ v. v.0) (λ v. v.0) (λ v. v.0) (λ v. v.0) (λ v. v.0) y) → IsTypedStatement within s
  statement-made y s is fits =
      subst (IsTypedStatement within) is (T.every_made-TypedStatement (ItemFits within) (IterationFits within) (SelectionFits within) (StatementFits within) NoRule NoRule _ y refl fits)

  pub block-statement : (b : TypedBlock) → IsTypedBlock within b → IsTypedStatement within (statement.Block b)
  block-statement b h = statement-made (TypedStatement-F.Block (b, h)) (statement.Block b) (statement.rolls-Block b) tt

  pub empty-statement : IsTypedStatement within statement.Empty
  empty-statement = statement-made TypedStatement-F.Empty statement.Empty statement.rolls-Empty tt

  pub effect-statement : (tokens : ℕ) (e : TypedEffect) → StatementFits within (TypedStatement-F.Effect tokens e) → IsTypedStatement within (statement.Effect tokens e)
  effect-statement tokens e h = statement-made (TypedStatement-F.Effect tokens e) (statement.Effect tokens e) (statement.rolls-Effect tokens e) h

  pub break-statement : IsTypedStatement within statement.Break
  break-statement = statement-made TypedStatement-F.Break statement.Break statement.rolls-Break tt

  pub continue-statement : IsTypedStatement within statement.Continue
  continue-statement = statement-made TypedStatement-F.Continue statement.Continue statement.rolls-Continue tt

  pub return-statement : (tokens : ℕ) (k : ValueKind) (value : Option TypedExpr) → StatementFits within (TypedStatement-F.Return tokens k value) → IsTypedStatement within (statement.Return tokens k value)
  return-statement tokens k value h = statement-made (TypedStatement-F.Return tokens k value) (statement.Return tokens k value) (statement.rolls-Return tokens k value) h

  pub selection-statement : (s : TypedSelection) → IsTypedSelection within s → IsTypedStatement within (statement.Selection s)
  selection-statement s h = statement-made (TypedStatement-F.Selection (s, h)) (statement.Selection s) (statement.rolls-Selection s) tt

  pub iteration-statement : (i : TypedIteration) → IsTypedIteration within i → IsTypedStatement within (statement.Iteration i)
  iteration-statement i h = statement-made (TypedStatement-F.Iteration (i, h)) (statement.Iteration i) (statement.rolls-Iteration i) tt

  abbrev bare-iteration : TypedIteration-F VI VL VC VS VB VD → TypedIteration-F TypedItem TypedIteration TypedSelection TypedStatement TypedBlock TypedSection
  bare-iteration = T.map-TypedIteration VI VL VC VS VB VD TypedItem TypedIteration TypedSelection TypedStatement TypedBlock TypedSection (λ v. v.0) (λ v. v.0) (λ v. v.0) (λ v. v.0) (λ v. v.0) (λ v. v.0)

  iteration-made : (y : TypedIteration-F VI VL VC VS VB VD) (i : TypedIteration) → roll-TypedIteration (bare-iteration y) ≡ i → IterationFits within (bare-iteration y) → IsTypedIteration within i
  iteration-made y i is fits =
      subst (IsTypedIteration within) is (T.every_made-TypedIteration (ItemFits within) (IterationFits within) (SelectionFits within) (StatementFits within) NoRule NoRule _ y refl fits)

  pub while-iteration : (tokens bound : ℕ) (c : Controlling) (s : TypedStatement) → IsTypedStatement within s → IterationFits within (TypedIteration-F.While tokens bound c s) → IsTypedIteration within (iteration.While tokens bound c s)
  while-iteration tokens bound c s h fits = iteration-made (TypedIteration-F.While tokens bound c (s, h)) (iteration.While tokens bound c s) (iteration.rolls-While tokens bound c s) fits

  pub do-iteration : (tokens bound : ℕ) (s : TypedStatement) (c : Controlling) → IsTypedStatement within s → IterationFits within (TypedIteration-F.Do tokens bound s c) → IsTypedIteration within (iteration.Do tokens bound s c)
  do-iteration tokens bound s c h fits = iteration-made (TypedIteration-F.Do tokens bound (s, h) c) (iteration.Do tokens bound s c) (iteration.rolls-Do tokens bound s c) fits

  pub for-iteration : (tokens bound : ℕ) (counter : Option Counter) (f : TypedFirst) (c : Option Controlling) (step : Option TypedStep) (s : TypedStatement) → IsTypedStatement within s
      → IterationFits within (TypedIteration-F.For tokens bound counter f c step s) → IsTypedIteration within (iteration.For tokens bound counter f c step s)
  for-iteration tokens bound counter f c step s h fits =
      iteration-made (TypedIteration-F.For tokens bound counter f c step (s, h)) (iteration.For tokens bound counter f c step s) (iteration.rolls-For tokens bound counter f c step s) fits

  abbrev bare-selection : TypedSelection-F VI VL VC VS VB VD → TypedSelection-F TypedItem TypedIteration TypedSelection TypedStatement TypedBlock TypedSection
  bare-selection = T.map-TypedSelection VI VL VC VS VB VD TypedItem TypedIteration TypedSelection TypedStatement TypedBlock TypedSection (λ v. v.0) (λ v. v.0) (λ v. v.0) (λ v. v.0) (λ v. v.0) (λ v. v.0)

  selection-made : (y : TypedSelection-F VI VL VC VS VB VD) (x : TypedSelection-F TypedItem TypedIteration TypedSelection TypedStatement TypedBlock TypedSection) (s : TypedSelection) → bare-selection y ≡ x → roll-TypedSelection x ≡ s → SelectionFits within x → IsTypedSelection within s
  selection-made y x s same is fits =
      subst (IsTypedSelection within) is (T.every_made-TypedSelection (ItemFits within) (IterationFits within) (SelectionFits within) (StatementFits within) NoRule NoRule x y same fits)

  abbrev pub OtherwiseFits : Option TypedStatement → Type 0
  OtherwiseFits None = Unit {0}
  OtherwiseFits (Some s) = IsTypedStatement within s

  pub if-selection : (tokens : ℕ) (condition : TypedExpr) (s : TypedStatement) (o : Option TypedStatement) → IsTypedStatement within s → OtherwiseFits o → SelectionFits within (TypedSelection-F.If tokens condition s o)
      → IsTypedSelection within (selection.If tokens condition s o)
  if-selection tokens condition s None h k fits =
      selection-made (TypedSelection-F.If tokens condition (s, h) None) (TypedSelection-F.If tokens condition s None) (selection.If tokens condition s None) refl (selection.rolls-If tokens condition s None) fits
  if-selection tokens condition s (Some o) h k fits =
      selection-made (TypedSelection-F.If tokens condition (s, h) (Some (o, k))) (TypedSelection-F.If tokens condition s (Some o)) (selection.If tokens condition s (Some o)) refl (selection.rolls-If tokens condition s (Some o)) fits

  pub switch-selection : (tokens : ℕ) (t : Scalar) (value : TypedExpr) (sections : List TypedSection) → Each (IsTypedSection within) sections → SelectionFits within (TypedSelection-F.Switch tokens t value sections)
      → IsTypedSelection within (selection.Switch tokens t value sections)
  switch-selection tokens t value sections h fits =
      let ys = each-pairs (IsTypedSection within) sections h in
      selection-made (TypedSelection-F.Switch tokens t value ys.0) (TypedSelection-F.Switch tokens t value sections) (selection.Switch tokens t value sections)
      (ap (λ (zs : List TypedSection). TypedSelection-F.Switch tokens t value zs) ys.1) (selection.rolls-Switch tokens t value sections) fits

  abbrev bare-item : TypedItem-F VI VL VC VS VB VD → TypedItem-F TypedItem TypedIteration TypedSelection TypedStatement TypedBlock TypedSection
  bare-item = T.map-TypedItem VI VL VC VS VB VD TypedItem TypedIteration TypedSelection TypedStatement TypedBlock TypedSection (λ v. v.0) (λ v. v.0) (λ v. v.0) (λ v. v.0) (λ v. v.0) (λ v. v.0)

  pub statement-item : (s : TypedStatement) → IsTypedStatement within s → IsTypedItem within (item.Statement s)
  statement-item s h =
      subst (IsTypedItem within) (item.rolls-Statement s)
      (T.every_made-TypedItem (ItemFits within) (IterationFits within) (SelectionFits within) (StatementFits within) NoRule NoRule (TypedItem-F.Statement s) (TypedItem-F.Statement (s, h)) refl tt)

  pub object-item : (d : TypedDeclarator) → ItemFits within (TypedItem-F.Object d) → IsTypedItem within (item.Object d)
  object-item d h =
      subst (IsTypedItem within) (item.rolls-Object d)
      (T.every_made-TypedItem (ItemFits within) (IterationFits within) (SelectionFits within) (StatementFits within) NoRule NoRule (TypedItem-F.Object d) (TypedItem-F.Object d) refl h)

  pub block-made : (tokens : ℕ) (items : List TypedItem) → Each (IsTypedItem within) items → IsTypedBlock within (roll-TypedBlock (record { tokens = tokens; items = items }))
  block-made tokens items h =
      let ys = each-pairs (IsTypedItem within) items h in
      T.every_made-TypedBlock (ItemFits within) (IterationFits within) (SelectionFits within) (StatementFits within) NoRule NoRule (record { tokens = tokens; items = items })
      (record { tokens = tokens; items = ys.0 }) (ap (λ (zs : List TypedItem). record { tokens = tokens; items = zs }) ys.1) tt

  pub section-made : (labels : List TypedLabel) (statements : List TypedStatement) → Each (IsTypedStatement within) statements → IsTypedSection within (roll-TypedSection (record { labels = labels; statements = statements }))
  section-made labels statements h =
      let ys = each-pairs (IsTypedStatement within) statements h in
      T.every_made-TypedSection (ItemFits within) (IterationFits within) (SelectionFits within) (StatementFits within) NoRule NoRule (record { labels = labels; statements = statements })
      (record { labels = labels; statements = ys.0 }) (ap (λ (zs : List TypedStatement). record { labels = labels; statements = zs }) ys.1) tt
