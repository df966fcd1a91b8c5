-- Typed blocks and their items, and what they mean.
use Rattle.std.proofs.Common.{◌≡◌, ℕ, zero, suc, ◌+◌, ◌<◌, List, [], ◌∷◌, get_or, length, map, sym, ap, ◌∙◌, subst, arith}
use Rattle.std.proofs.lemmas.Simd.{map-map}
use Rattle.std.specs.List.{All, flat_map}
use Rattle.hy_bits.specs.declared.width.Width.TheVariants.{W1}
use Rattle.word_graph.specs.declared.entry.Node.{Node}
use Rattle.word_nodes.specs.Nodes.{worth}
use Rattle.c_meaning.specs.declared.statements.TypedBlock.{TypedBlock}
use Rattle.c_meaning.specs.declared.statements.TypedItem.{TypedItem}
use Rattle.c_meaning.specs.declared.statements.TypedIteration.{TypedIteration}
use Rattle.c_meaning.specs.declared.statements.TypedSection.{TypedSection}
use Rattle.c_meaning.specs.declared.statements.TypedSelection.{TypedSelection}
use Rattle.c_meaning.specs.declared.statements.TypedStatement.{TypedStatement}
use Rattle.c_meaning.specs.declared.statements.TypedItem.TheViews.{out-TypedBlock, out-TypedItem, out-TypedStatement, roll-TypedItem, roll-TypedStatement, out-roll-TypedItem, out-roll-TypedStatement}
use Rattle.c_meaning.specs.declared.statements.TypedItem.TheOpen.{TypedItem-F, TypedStatement-F, TypedBlock-F}
use Rattle.c_meaning.specs.declared.statements.TypedItem.TheFolds as T
use Rattle.c_meaning.specs.declared.values.Ending.TheVariants as ending
use Rattle.c_meaning.specs.StatementRules.{ItemFits, IterationFits, SelectionFits, StatementFits, Within}
use Rattle.c_meaning.specs.Expressions as expressions
use Rattle.c_meaning.specs.State.{all_ended}
use Rattle.c_meaning.specs.Statements.{Exec, ItemRun, SectionRun, block_run, ends, in_order}
use Rattle.c_meaning.specs.StatementFolds.{block_rule, item_rule, item_runs, iteration_rule, runs, section_rule, selection_rule, statement_rule}
use Rattle.exec_state.proofs.LeaveLaws.{runs_finally}
use Rattle.exec_state.proofs.SeenLaws.{all_ended_returned, all_ended_seen}
use Rattle.exec_values.proofs.GrowingLaws.{Grows_stands}
use Rattle.exec_steps.specs.declared.running.Running.{Running}
use Rattle.exec_steps.specs.declared.ways.Ways.{Ways}
use Rattle.exec_steps.specs.Running.{Continues, shown}
use Rattle.exec_steps.specs.Ways.{FollowsRun, WaysStand, exits_at}
use Rattle.c_exec.specs.declared.world.World.{World}
use Rattle.c_exec.specs.Statements.{IsTypedItem, IsTypedStatement}
use Rattle.c_exec.specs.Weights.{total, item_weight, statement_weight, item_layer, iteration_layer, selection_layer, statement_layer, block_layer, section_layer}
use Rattle.c_exec.proofs.Parts.{Each, each-firsts}

-- ---- parts

abbrev StatementHolds : (TypedBlock → Type 0) → TypedStatement-F TypedItem TypedIteration TypedSelection TypedStatement TypedBlock TypedSection → Type 0
StatementHolds P (TypedStatement-F.Block block) = P block
StatementHolds P other = Unit {0}

abbrev ItemHolds : (TypedStatement → Type 0) → TypedItem-F TypedItem TypedIteration TypedSelection TypedStatement TypedBlock TypedSection → Type 0
ItemHolds P (TypedItem-F.Statement statement) = P statement
ItemHolds P other = Unit {0}

module _ (w : Within) where
  abbrev NoRule : {A : Type 0} → A → Type 0
  NoRule x = Unit {0}

  abbrev PI : TypedItem → Type 0
  PI = T.every-TypedItem (ItemFits w) (IterationFits w) (SelectionFits w) (StatementFits w) NoRule NoRule

  abbrev PT : TypedIteration → Type 0
  PT = T.every-TypedIteration (ItemFits w) (IterationFits w) (SelectionFits w) (StatementFits w) NoRule NoRule

  abbrev PC : TypedSelection → Type 0
  PC = T.every-TypedSelection (ItemFits w) (IterationFits w) (SelectionFits w) (StatementFits w) NoRule NoRule

  abbrev PS : TypedStatement → Type 0
  PS = T.every-TypedStatement (ItemFits w) (IterationFits w) (SelectionFits w) (StatementFits w) NoRule NoRule

  abbrev PB : TypedBlock → Type 0
  PB = T.every-TypedBlock (ItemFits w) (IterationFits w) (SelectionFits w) (StatementFits w) NoRule NoRule

  abbrev PE : TypedSection → Type 0
  PE = T.every-TypedSection (ItemFits w) (IterationFits w) (SelectionFits w) (StatementFits w) NoRule NoRule

  abbrev VI : Type 0
  VI = (x : TypedItem) × PI x

  abbrev VT : Type 0
  VT = (x : TypedIteration) × PT x

  abbrev VC : Type 0
  VC = (x : TypedSelection) × PC x

  abbrev VS : Type 0
  VS = (x : TypedStatement) × PS x

  abbrev VB : Type 0
  VB = (x : TypedBlock) × PB x

  abbrev VE : Type 0
  VE = (x : TypedSection) × PE x

  statement-parts : (y : TypedStatement-F VI VT VC VS VB VE) → StatementHolds PB (T.map-TypedStatement VI VT VC VS VB VE TypedItem TypedIteration TypedSelection TypedStatement TypedBlock TypedSection (λ v. v.0) (λ v. v.0) (λ v. v.0) (λ v. v.0) (λ v. v.0) (λ v. v.0) y)
  statement-parts (TypedStatement-F.Block block) = block.1
  statement-parts TypedStatement-F.Empty = tt
  statement-parts (TypedStatement-F.Effect tokens effect) = tt
  statement-parts TypedStatement-F.Break = tt
  statement-parts TypedStatement-F.Continue = tt
  statement-parts (TypedStatement-F.Return tokens k value) = tt
  statement-parts (TypedStatement-F.Selection selection) = tt
  statement-parts (TypedStatement-F.Iteration iteration) = tt

  item-parts : (y : TypedItem-F VI VT VC VS VB VE) → ItemHolds PS (T.map-TypedItem VI VT VC VS VB VE TypedItem TypedIteration TypedSelection TypedStatement TypedBlock TypedSection (λ v. v.0) (λ v. v.0) (λ v. v.0) (λ v. v.0) (λ v. v.0) (λ v. v.0) y)
  item-parts (TypedItem-F.Statement statement) = statement.1
  item-parts (TypedItem-F.Object declared) = tt

  block-of : (b : TypedBlock) (s : TypedStatement) → s ≡ roll-TypedStatement (TypedStatement-F.Block b) → PS s → PB b
  block-of b s is h =
      let y = T.every_held-TypedStatement (ItemFits w) (IterationFits w) (SelectionFits w) (StatementFits w) NoRule NoRule s h in
      subst (StatementHolds PB) (y.1 ∙ ap out-TypedStatement is ∙ out-roll-TypedStatement (TypedStatement-F.Block b)) (statement-parts y.0)

  statement-of : (s : TypedStatement) (i : TypedItem) → i ≡ roll-TypedItem (TypedItem-F.Statement s) → PI i → PS s
  statement-of s i is h =
      let y = T.every_held-TypedItem (ItemFits w) (IterationFits w) (SelectionFits w) (StatementFits w) NoRule NoRule i h in
      subst (ItemHolds PS) (y.1 ∙ ap out-TypedItem is ∙ out-roll-TypedItem (TypedItem-F.Statement s)) (item-parts y.0)

  items-of : (b : TypedBlock) → PB b → Each PI (out-TypedBlock b).items
  items-of b h =
      let y = T.every_held-TypedBlock (ItemFits w) (IterationFits w) (SelectionFits w) (StatementFits w) NoRule NoRule b h in
      subst (λ (z : TypedBlock-F TypedItem TypedIteration TypedSelection TypedStatement TypedBlock TypedSection). Each PI z.items) y.1 (each-firsts PI y.0.items)

each_typed : {A : Type 0} (P Q : A → Type 0) (xs : List A) → ((x : A) → P x → Q x) → Each P xs → All Q xs
each_typed P Q [] f h = λ k d within. absurd (omega arith)
each_typed {A = A} P Q (x ∷ xs) f h = by_place (each_typed P Q xs f h.1)
  where
    by_place : All Q xs → (k : ℕ) (d : A) → k < length (x ∷ xs) → Q (get_or (x ∷ xs) k d)
    by_place more zero d within = f x h.0
    by_place more (suc k) d within = more k d (omega arith)

pub block_items_typed : (world : World) (b : TypedBlock) (s : TypedStatement) → s ≡ roll-TypedStatement (TypedStatement-F.Block b) → IsTypedStatement world s → All (IsTypedItem world) (out-TypedBlock b).items
block_items_typed world b s is h =
    each_typed (PI h.0) (IsTypedItem world) (out-TypedBlock b).items (λ i typed. (h.0, h.1, typed)) (items-of h.0 b (block-of h.0 b s is h.2))

pub item_statement_typed : (world : World) (s : TypedStatement) (i : TypedItem) → i ≡ roll-TypedItem (TypedItem-F.Statement s) → IsTypedItem world i → IsTypedStatement world s
item_statement_typed world s i is h = (h.0, h.1, statement-of h.0 s i is h.2)

-- ---- meanings

pub block_means : (world : expressions.World) (b : TypedBlock) (s : TypedStatement) → s ≡ roll-TypedStatement (TypedStatement-F.Block b) → runs world s ≡ block_run (map (item_runs world) (out-TypedBlock b).items)
block_means world b s is =
    ap (runs world) is
    ∙ T.fold-roll-TypedStatement ItemRun Exec Exec Exec Exec SectionRun (item_rule world) (iteration_rule world) (selection_rule world) (statement_rule world) block_rule section_rule (TypedStatement-F.Block b)
    ∙ T.fold_out-TypedBlock ItemRun Exec Exec Exec Exec SectionRun (item_rule world) (iteration_rule world) (selection_rule world) (statement_rule world) block_rule section_rule b

pub item_means : (world : expressions.World) (s : TypedStatement) (i : TypedItem) → i ≡ roll-TypedItem (TypedItem-F.Statement s) → (item_runs world i).run ≡ runs world s
item_means world s i is =
    ap (λ (x : TypedItem). (item_runs world x).run) is
    ∙ ap (λ (r : ItemRun). r.run) (T.fold-roll-TypedItem ItemRun Exec Exec Exec Exec SectionRun (item_rule world) (iteration_rule world) (selection_rule world) (statement_rule world) block_rule section_rule (TypedItem-F.Statement s))

pub empty_means : (world : expressions.World) (s : TypedStatement) → s ≡ roll-TypedStatement TypedStatement-F.Empty → runs world s ≡ ends ending.Normal
empty_means world s is =
    ap (runs world) is
    ∙ T.fold-roll-TypedStatement ItemRun Exec Exec Exec Exec SectionRun (item_rule world) (iteration_rule world) (selection_rule world) (statement_rule world) block_rule section_rule TypedStatement-F.Empty

-- the end of a block's lives isn't seen
pub block_ends : (world : expressions.World) (items : List TypedItem) (old new : Running) (guard : Node) (ways : Ways) →
    FollowsRun (in_order (map (λ item. (item_runs world item).run) items)) old new guard ways → FollowsRun (block_run (map (item_runs world) items)) old new guard ways
block_ends world items old new guard ways follows ins fit =
    let ended = flat_map (λ (r : ItemRun). r.objects) (map (item_runs world) items) in
    runs_finally (worth old.graph ins guard) (shown old ins) (shown new ins) (exits_at new.graph ins ways) (in_order (map (λ (r : ItemRun). r.run) (map (item_runs world) items))) (all_ended ended) (all_ended_seen ended) (all_ended_returned ended)
    (subst (λ (list : List Exec). FollowsRun (in_order list) old new guard ways) (sym (map-map (λ (r : ItemRun). r.run) (item_runs world) items)) follows ins fit)

-- ---- ways while a graph grows

pub ways_stand_later : (regions : ℕ) (old new : Running) (w : Ways) → Continues regions old new → WaysStand old.graph w → WaysStand new.graph w
ways_stand_later regions old new w on is = record {
  normal = Grows_stands on.grows W1 w.normal is.normal;
  breaks = Grows_stands on.grows W1 w.breaks is.breaks;
  continues = Grows_stands on.grows W1 w.continues is.continues;
  returns = Grows_stands on.grows W1 w.returns is.returns;
}

-- ---- how much trees weigh

pub item_weighs : (s : TypedStatement) (i : TypedItem) → i ≡ roll-TypedItem (TypedItem-F.Statement s) → item_weight i ≡ 4 + statement_weight s
item_weighs s i is = ap item_weight is ∙ T.fold-roll-TypedItem ℕ ℕ ℕ ℕ ℕ ℕ item_layer iteration_layer selection_layer statement_layer block_layer section_layer (TypedItem-F.Statement s)

pub block_weighs : (b : TypedBlock) (s : TypedStatement) → s ≡ roll-TypedStatement (TypedStatement-F.Block b) → statement_weight s ≡ 4 + (4 + total (map item_weight (out-TypedBlock b).items))
block_weighs b s is =
    ap statement_weight is
    ∙ T.fold-roll-TypedStatement ℕ ℕ ℕ ℕ ℕ ℕ item_layer iteration_layer selection_layer statement_layer block_layer section_layer (TypedStatement-F.Block b)
    ∙ ap (λ (n : ℕ). 4 + n) (T.fold_out-TypedBlock ℕ ℕ ℕ ℕ ℕ ℕ item_layer iteration_layer selection_layer statement_layer block_layer section_layer b)
