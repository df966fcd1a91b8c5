use Rattle.std.proofs.Common.{ap, inr, sym}
use Rattle.gate_net.specs.Literal.{wire_of}
use Rattle.gate_arena.proofs.CallerLaws.{input-free, inputs-stand}
use Rattle.circuit_tests.proofs.arenas.bypass.Goals as goal

pub replace-requires-clause-by_stands : goal.replace-requires-clause-by_stands
replace-requires-clause-by_stands c = rw c.right_of.ensures (inputs-stand c.args.arena.now.circuit c.args.var c.in-Some.gate c.has_values.ensures.uses (sym c.in-Some.ensures)).1

pub replace-requires-clause-free : goal.replace-requires-clause-free
replace-requires-clause-free c =
    input-free c.args.arena.now.circuit c.args.var c.in-Some.gate (wire_of c.right_of.result) c.has_values.ensures.acyclic (sym c.in-Some.ensures) (inr (ap wire_of (sym c.right_of.ensures)))
