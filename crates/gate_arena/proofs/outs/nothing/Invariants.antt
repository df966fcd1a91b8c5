use Rattle.std.proofs.Common.{◌≡◌, None, replicate}
use Rattle.gate_arena.proofs.outs.nothing.Given as goal

abbrev pub invariant-loop : goal.invariant-loop
invariant-loop l = l.list.items ≡ replicate l.counter None
