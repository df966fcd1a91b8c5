use Rattle.std.proofs.Common.{◌≡◌, take}
use Rattle.std.specs.List.{fold}
use Rattle.share_plan.specs.Modules.{with_out}
use Rattle.share_plan.proofs.modules.add_outs.Given as goal

abbrev pub invariant-loop-out : goal.invariant-loop-out
invariant-loop-out l = l.script ≡ fold (with_out l.ins l.base) l.initial.script (take l.out-index l.outs)
