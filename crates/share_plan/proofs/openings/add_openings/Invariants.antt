use Rattle.std.proofs.Common.{◌≡◌, take}
use Rattle.std.specs.List.{fold}
use Rattle.share_plan.specs.Planned.{with_opening}
use Rattle.share_plan.proofs.openings.add_openings.Given as goal

abbrev pub invariant-loop-node : goal.invariant-loop-node
invariant-loop-node l = l.script ≡ fold (with_opening l.entries l.held) l.initial.script (take l.node-index l.results)
