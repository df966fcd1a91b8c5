use Rattle.std.proofs.Common.{◌≡◌, drop}
use Rattle.std.specs.List.{flat_map}
use Rattle.c_meaning.specs.State.{all_ended}
use Rattle.c_meaning.specs.Expressions.{World}
use Rattle.c_meaning.specs.StatementFolds.{item_runs}
use Rattle.c_state.specs.Views.{state_as}
use Rattle.c_plain.proofs.calls.end_items.Given as goal

-- the items that are left give the state after all of them
abbrev pub invariant-loop-item : goal.invariant-loop-item
invariant-loop-item l = (world : World) →
    all_ended (flat_map (λ item. (item_runs world item).objects) (drop l.item-index l.items)) (state_as l.state)
    ≡ all_ended (flat_map (λ item. (item_runs world item).objects) l.items) (state_as l.fn.state)
