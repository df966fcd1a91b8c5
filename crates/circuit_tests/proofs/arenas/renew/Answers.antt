use Rattle.std.proofs.Common.{arith, sym}
use Rattle.gate_net.specs.Literal.{wire_of}
use Rattle.gate_arena.proofs.CallerLaws.{equal-free}
use Rattle.circuit_tests.proofs.arenas.renew.Goals as goal

pub replace-requires-clause-free : goal.replace-requires-clause-free
replace-requires-clause-free g c =
    equal-free c.args.arena.now.circuit c.add.new.self.circuit c.args.var c.in-Some.gate (wire_of c.in_ok-by.by) c.in_ok-by.ensures.circuit c.has_values-in-Some.ensures.acyclic (sym c.in-Some.ensures) (omega (arith, c.in_ok-by.ensures.answer))
