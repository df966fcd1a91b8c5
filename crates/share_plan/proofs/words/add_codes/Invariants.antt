use Rattle.std.proofs.Common.{◌≡◌, ◌++◌}
use Rattle.share_plan.specs.Modules.{codes_from}
use Rattle.share_plan.proofs.words.add_codes.Given as goal

abbrev pub invariant-loop-offset : goal.invariant-loop-offset
invariant-loop-offset l = l.out.items ≡ l.initial.out.items ++ codes_from l.codes l.place l.offset
