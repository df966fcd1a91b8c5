use Rattle.std.proofs.Common.{◌≡◌, ◌+◌, [], ◌∷◌, List, map, drop, sym, ap, ◌∙◌, subst, arith}
use Rattle.std.proofs.lemmas.Result.{IfOk-weaker}
use Rattle.std.proofs.lemmas.List.{drop_more, drop_all}
use Rattle.c_meaning.specs.declared.statements.TypedItem.{TypedItem}
use Rattle.c_meaning.specs.declared.statements.TypedItem.TheVariants as item
use Rattle.c_meaning.specs.declared.statements.TypedStatement.TheVariants as statement
use Rattle.std.specs.List.{All}
use Rattle.c_meaning.specs.declared.statements.TypedBlock.{TypedBlock}
use Rattle.c_meaning.specs.declared.statements.TypedItem.TheViews.{out-TypedBlock}
use Rattle.c_meaning.specs.Statements.{Exec, block_run, in_order}
use Rattle.c_meaning.specs.StatementFolds.{item_runs}
use Rattle.exec_steps.specs.Ways.{FollowsRun, LeadsOut}
use Rattle.exec_steps.proofs.StepLaws.{continues_grows, continues_on, continues_then}
use Rattle.exec_steps.proofs.WayLaws.{items_first, items_more, items_none}
use Rattle.c_exec.specs.Expressions.{world_as}
use Rattle.c_exec.specs.Statements.{IsTypedItem}
use Rattle.c_exec.specs.Weights.{item_weight, total}
use Rattle.c_exec.proofs.Typed.{weighs}
use Rattle.c_exec.proofs.Blocks.{block_ends, block_items_typed, block_means, block_weighs, item_weighs, empty_means, item_statement_typed, ways_stand_later}
use Rattle.c_exec.proofs.statements.+walk.Goals as goal

pub execute_items-loop-item-init : goal.execute_items-loop-item-init
execute_items-loop-item-init t c = (
  continues_grows c.args.world.now.regions c.args.world.now.region c.args.running.now c.normal_way.new.running c.requires.region c.requires.running c.in_ok-ways.ensures.grows,
  c.in_ok-ways.ensures.stands,
  items_first c.args.world.now.region c.args.running.now c.normal_way.new.running c.args.guard c.in_ok-ways.ways (in_order (map (λ item. (item_runs (world_as c.args.world.now) item).run) c.args.items.now)) c.requires.running c.in_ok-ways.ensures.grows c.in_ok-ways.ensures.value,
)

pub execute_items-item_then-requires : goal.execute_items-item_then-requires
execute_items-item_then-requires t c = (
  omega (arith, c.decreases, weighs item_weight c.args.items.now c.loop-item.item-index c.item-item.result c.loop-item-test.true c.item-item.is),
  (
    subst (IsTypedItem c.args.world.now) (sym c.item-item.is) (c.requires.typed c.loop-item.item-index c.item-item.result c.loop-item-test.true),
    (
      c.loop-item.invariant.0.running,
      (
        c.loop-item.invariant.1,
        c.requires.region,
      ),
    ),
  ),
)

pub execute_items-loop-item-preserved : goal.execute_items-loop-item-preserved
execute_items-loop-item-preserved t c = (
  continues_then c.args.world.now.regions c.args.running.now c.loop-item.running c.item_then.new.running c.loop-item.invariant.0 c.in_ok-ways-2.ensures.continues,
  c.in_ok-ways-2.ensures.stands,
  c.in_ok-ways-2.ensures.follows c.args.running.now c.args.guard (map (λ item. (item_runs (world_as c.args.world.now) item).run) (drop (c.loop-item.item-index + 1) c.args.items.now)) (in_order (map (λ item. (item_runs (world_as c.args.world.now) item).run) c.args.items.now)) c.loop-item.invariant.0
      (subst (λ (os : List TypedItem). LeadsOut c.args.running.now c.loop-item.running c.args.guard c.loop-item.ways (in_order (map (λ item. (item_runs (world_as c.args.world.now) item).run) os)) (in_order (map (λ item. (item_runs (world_as c.args.world.now) item).run) c.args.items.now)))
      (drop_more c.args.items.now c.loop-item.item-index c.item-item.result c.loop-item-test.true ∙ ap (λ (y : TypedItem). y ∷ drop (c.loop-item.item-index + 1) c.args.items.now) (sym c.item-item.is)) c.loop-item.invariant.2),
)

pub execute_items-returns-clause-stands : goal.execute_items-returns-clause-stands
execute_items-returns-clause-stands t c = c.loop-item.invariant.1

pub execute_items-returns-clause-follows : goal.execute_items-returns-clause-follows
execute_items-returns-clause-follows t c =
    items_none c.args.running.now c.loop-item.running c.args.guard c.loop-item.ways (in_order (map (λ item. (item_runs (world_as c.args.world.now) item).run) c.args.items.now))
    (subst (λ (os : List TypedItem). LeadsOut c.args.running.now c.loop-item.running c.args.guard c.loop-item.ways (in_order (map (λ item. (item_runs (world_as c.args.world.now) item).run) os)) (in_order (map (λ item. (item_runs (world_as c.args.world.now) item).run) c.args.items.now)))
    (drop_all c.loop-item.item-index c.args.items.now (omega arith)) c.loop-item.invariant.2)

pub execute_items-returns-clause-continues : goal.execute_items-returns-clause-continues
execute_items-returns-clause-continues t c = c.loop-item.invariant.0

pub item_then-ways_then-requires-clause-first : goal.item_then-ways_then-requires-clause-first
item_then-ways_then-requires-clause-first t c = ways_stand_later c.args.world.now.regions c.args.running.now c.execute_item.new.running c.args.before c.in_ok-next.ensures.continues c.requires.before

pub item_then-returns-clause-follows : goal.item_then-returns-clause-follows
item_then-returns-clause-follows t c =
    IfOk-weaker c.ways_then.result _ _
    (λ v value start guard rest whole on leads. items_more c.args.world.now.regions c.args.world.now.region start c.args.running.now c.execute_item.new.running c.ways_then.new.running guard c.args.before c.in_ok-next.next v
    (item_runs (world_as c.args.world.now) c.args.item.now).run rest whole c.entries-entries.ensures.graph on c.requires.before c.in_ok-next.ensures.continues c.in_ok-next.ensures.follows c.ways_then.ensures.grows value leads)
    c.ways_then.ensures.value

pub item_then-returns-clause-continues : goal.item_then-returns-clause-continues
item_then-returns-clause-continues t c =
    IfOk-weaker c.ways_then.result _ _
    (λ v is. continues_on c.args.world.now.regions c.args.world.now.region c.args.running.now c.execute_item.new.running c.ways_then.new.running c.requires.region c.in_ok-next.ensures.continues c.ways_then.ensures.grows)
    c.ways_then.ensures.stands

pub execute_item-execute_statement-requires : goal.execute_item-execute_statement-requires
execute_item-execute_statement-requires t c = (
  omega (arith, c.decreases, item_weighs c.in-Statement.statement c.args.item.now (c.in-Statement.is ∙ sym (item.rolls-Statement c.in-Statement.statement))),
  (
    item_statement_typed c.args.world.now c.in-Statement.statement c.args.item.now (c.in-Statement.is ∙ sym (item.rolls-Statement c.in-Statement.statement)) c.requires.typed,
    (c.requires.running, (c.requires.guard, c.requires.region)),
  ),
)

pub execute_statement-execute_items-requires : goal.execute_statement-execute_items-requires
execute_statement-execute_items-requires t c =
    let same : c.as_slice-items.result.now ≡ (out-TypedBlock c.in-Block.block).items = c.as_slice-items.ensures ∙ ap (λ (b : TypedBlock). (out-TypedBlock b).items) c.get.ensures in (
      omega (arith, c.decreases, block_weighs c.in-Block.block c.args.statement.now (c.in-Block.is ∙ sym (statement.rolls-Block c.in-Block.block)), ap (λ (os : List TypedItem). total (map item_weight os)) same),
      (
        subst (All (IsTypedItem c.args.world.now)) (sym same) (block_items_typed c.args.world.now c.in-Block.block c.args.statement.now (c.in-Block.is ∙ sym (statement.rolls-Block c.in-Block.block)) c.requires.typed),
        (c.requires.running, (c.requires.guard, c.requires.region)),
      ),
    )

pub execute_statement-returns-in-Block-clause-follows : goal.execute_statement-returns-in-Block-clause-follows
execute_statement-returns-in-Block-clause-follows t c =
    let same : c.as_slice-items.result.now ≡ (out-TypedBlock c.in-Block.block).items = c.as_slice-items.ensures ∙ ap (λ (b : TypedBlock). (out-TypedBlock b).items) c.get.ensures in
    let means = block_means (world_as c.args.world.now) c.in-Block.block c.args.statement.now (c.in-Block.is ∙ sym (statement.rolls-Block c.in-Block.block)) ∙ ap (λ (os : List TypedItem). block_run (map (item_runs (world_as c.args.world.now)) os)) (sym same) in
    IfOk-weaker c.execute_items.result _ _
    (λ w follows. subst (λ (run : Exec). FollowsRun run c.args.running.now c.execute_items.new.running c.args.guard w) (sym means)
    (block_ends (world_as c.args.world.now) c.as_slice-items.result.now c.args.running.now c.execute_items.new.running c.args.guard w follows))
    c.execute_items.ensures.follows

pub execute_statement-returns-in-Empty-clause-follows : goal.execute_statement-returns-in-Empty-clause-follows
execute_statement-returns-in-Empty-clause-follows t c =
    IfOk-weaker c.normal_way.result _ _
    (λ w value. subst (λ (run : Exec). FollowsRun run c.args.running.now c.normal_way.new.running c.args.guard w) (sym (empty_means (world_as c.args.world.now) c.args.statement.now (c.in-Empty.is ∙ sym statement.rolls-Empty)))
    (items_none c.args.running.now c.normal_way.new.running c.args.guard w (in_order [])
    (items_first c.args.world.now.region c.args.running.now c.normal_way.new.running c.args.guard w (in_order []) c.requires.running c.normal_way.ensures.grows value)))
    c.normal_way.ensures.value

pub execute_statement-returns-in-Empty-clause-continues : goal.execute_statement-returns-in-Empty-clause-continues
execute_statement-returns-in-Empty-clause-continues t c =
    IfOk-weaker c.normal_way.result _ _
    (λ w is. continues_grows c.args.world.now.regions c.args.world.now.region c.args.running.now c.normal_way.new.running c.requires.region c.requires.running c.normal_way.ensures.grows)
    c.normal_way.ensures.stands
