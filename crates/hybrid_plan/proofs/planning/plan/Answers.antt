use Rattle.std.proofs.Common.{sym, subst, map}
use Rattle.plan_script.specs.Script.{Script}
use Rattle.plan_slots.specs.Renamed.{renamed}
use Rattle.hybrid_plan.specs.Levels.{LevelsMatch}
use Rattle.hybrid_plan.proofs.LevelLaws.{levels-match}
use Rattle.hybrid_plan.proofs.planning.plan.Goals as goal

pub plan_of-requires : goal.plan_of-requires
plan_of-requires c = λ slots.
    subst (λ (s : Script). LevelsMatch (map (renamed slots) s.instrs) (map (renamed slots) s.gates)) (sym c.in_ok-script.ensures) (levels-match c.args.bundle.now.parts c.args.bundle.now.choices slots)
