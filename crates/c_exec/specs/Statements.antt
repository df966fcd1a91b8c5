-- Statements that keep the rules of types, as their execution asks.
use Rattle.std.specs.Prelude.{◌≡◌}
use Rattle.c_meaning.specs.declared.statements.TypedBlock.{TypedBlock}
use Rattle.c_meaning.specs.declared.statements.TypedItem.{TypedItem}
use Rattle.c_meaning.specs.declared.statements.TypedIteration.{TypedIteration}
use Rattle.c_meaning.specs.declared.statements.TypedSelection.{TypedSelection}
use Rattle.c_meaning.specs.declared.statements.TypedStatement.{TypedStatement}
use Rattle.c_meaning.specs.declared.statements.TypedItem.TheFolds.{every-TypedBlock, every-TypedItem, every-TypedIteration, every-TypedSelection, every-TypedStatement}
use Rattle.c_meaning.specs.StatementRules.{ItemFits, IterationFits, SelectionFits, StatementFits, Within}
use Rattle.c_exec.specs.declared.world.World.{World}
use Rattle.c_exec.specs.Expressions.{scope_of}

-- the rules within some function whose scope this is
abbrev pub IsTypedStatement : World → TypedStatement → Type 0
IsTypedStatement world s = (w : Within) × (w.scope ≡ scope_of world) × every-TypedStatement (ItemFits w) (IterationFits w) (SelectionFits w) (StatementFits w) (λ block. Unit {0}) (λ section. Unit {0}) s

abbrev pub IsTypedItem : World → TypedItem → Type 0
IsTypedItem world s = (w : Within) × (w.scope ≡ scope_of world) × every-TypedItem (ItemFits w) (IterationFits w) (SelectionFits w) (StatementFits w) (λ block. Unit {0}) (λ section. Unit {0}) s

abbrev pub IsTypedBlock : World → TypedBlock → Type 0
IsTypedBlock world s = (w : Within) × (w.scope ≡ scope_of world) × every-TypedBlock (ItemFits w) (IterationFits w) (SelectionFits w) (StatementFits w) (λ block. Unit {0}) (λ section. Unit {0}) s

abbrev pub IsTypedSelection : World → TypedSelection → Type 0
IsTypedSelection world s = (w : Within) × (w.scope ≡ scope_of world) × every-TypedSelection (ItemFits w) (IterationFits w) (SelectionFits w) (StatementFits w) (λ block. Unit {0}) (λ section. Unit {0}) s

abbrev pub IsTypedIteration : World → TypedIteration → Type 0
IsTypedIteration world s = (w : Within) × (w.scope ≡ scope_of world) × every-TypedIteration (ItemFits w) (IterationFits w) (SelectionFits w) (StatementFits w) (λ block. Unit {0}) (λ section. Unit {0}) s
