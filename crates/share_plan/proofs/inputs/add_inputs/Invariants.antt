use Rattle.std.proofs.Common.{◌≡◌, ℕ}
use Rattle.std.specs.List.{fold}
use Rattle.module_split.specs.Cut.{below}
use Rattle.choice_core.specs.declared.sharings.Sharing.{Sharing}
use Rattle.share_plan.specs.Held.{Work}
use Rattle.share_plan.specs.Inputs.{with_leaf}
use Rattle.share_plan.specs.Owned.{AreOwned}
use Rattle.share_plan.specs.Takers.{has_taker, takers_at}
use Rattle.share_plan.proofs.inputs.add_inputs.Given as goal

abbrev pub invariant-loop-leaf : goal.invariant-loop-leaf
invariant-loop-leaf l =
    let now : Work = record { script = l.script; held = l.held } in
    let before : Work = record { script = l.initial.script; held = l.initial.held } in
    record {
      work : now ≡ fold (with_leaf (λ (sharing : Sharing) (node : ℕ). has_taker sharing (takers_at l.takers node)) l.entries l.owners) before (below l.leaf);
      owned : AreOwned l.owners l.leaf l.owned;
    }
