use Rattle.std.proofs.Common.{◌≡◌, map, take}
use Rattle.plan_script.specs.Gates.{variable_code}
use Rattle.share_plan.proofs.modules.out_codes.Given as goal

abbrev pub invariant-loop-out : goal.invariant-loop-out
invariant-loop-out l = l.codes.items ≡ map (variable_code l.ins l.base) (take l.out-index l.outs)
