use Rattle.plan_script.specs.Levels.{with_depth}
use Rattle.plan_script.proofs.ListLaws.{fold-below}
use Rattle.plan_script.proofs.levels.add_depths.Goals as goal

pub loop-depth-preserved : goal.loop-depth-preserved
loop-depth-preserved c = fold-below (with_depth c.args.sharing c.args.gates.now c.args.depths.now) c.args.script.now c.loop-depth.depth c.loop-depth.script c.add_depth.new.script c.loop-depth.invariant c.in_ok-add_depth.ensures
