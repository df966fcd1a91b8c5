use Rattle.std.proofs.Common.{◌≡◌, take}
use Rattle.std.specs.List.{fold}
use Rattle.plan_script.specs.Levels.{with_local}
use Rattle.plan_script.proofs.levels.add_locals.Given as goal

abbrev pub invariant-loop-place : goal.invariant-loop-place
invariant-loop-place l = l.script ≡ fold (with_local l.gates) l.initial.script (take l.place-index l.places)
