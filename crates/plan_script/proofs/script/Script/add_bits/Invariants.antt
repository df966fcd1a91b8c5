use Rattle.std.proofs.Common.{◌≡◌}
use Rattle.plan_script.specs.Script.{with_bits}
use Rattle.plan_script.proofs.script.Script.add_bits.Given as goal

abbrev pub invariant-loop : goal.invariant-loop
invariant-loop l = l.self ≡ with_bits l.counter l.initial.self
