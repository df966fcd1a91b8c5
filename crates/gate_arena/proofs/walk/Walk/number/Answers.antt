use Rattle.std.proofs.Common.{arith, length, sym}
use Rattle.gate_arena.proofs.WalkLaws.{number_of-low}
use Rattle.gate_arena.proofs.walk.Walk.number.Goals as goal

pub overflow_cast-result : goal.overflow_cast-result
overflow_cast-result c = omega (
  arith,
  number_of-low c.args.self.now.order (length c.args.arena.now.circuit.gates) c.args.place c.in-Some.number c.requires.rest.order_once c.requires.rest.order_low (sym c.in-Some.ensures),
  c.has_values.ensures.limits.2,
)

pub returns-in-Some-clause-low : goal.returns-in-Some-clause-low
returns-in-Some-clause-low c = omega (
  arith,
  number_of-low c.args.self.now.order (length c.args.arena.now.circuit.gates) c.args.place c.in-Some.number c.requires.rest.order_once c.requires.rest.order_low (sym c.in-Some.ensures),
  c.has_values.ensures.limits.2,
)
