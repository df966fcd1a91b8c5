use Rattle.std.proofs.Common.{◌≡◌, ◌++◌}
use Rattle.plan_slots.specs.Operands.{shares_at}
use Rattle.plan_slots.proofs.operands.add_shares.Given as goal

abbrev pub invariant-loop-offset : goal.invariant-loop-offset
invariant-loop-offset l = l.out.items ≡ l.initial.out.items ++ shares_at l.codes l.place l.offset
