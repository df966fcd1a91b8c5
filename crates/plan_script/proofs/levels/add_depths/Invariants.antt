use Rattle.std.proofs.Common.{◌≡◌}
use Rattle.std.specs.List.{fold}
use Rattle.module_split.specs.Cut.{below}
use Rattle.plan_script.specs.Levels.{with_depth}
use Rattle.plan_script.proofs.levels.add_depths.Given as goal

abbrev pub invariant-loop-depth : goal.invariant-loop-depth
invariant-loop-depth l = l.script ≡ fold (with_depth l.sharing l.gates l.depths) l.initial.script (below l.depth)
