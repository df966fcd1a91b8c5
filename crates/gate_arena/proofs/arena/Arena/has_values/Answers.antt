use Rattle.gate_arena.proofs.ValueLaws.{HasValue-one, HasValue-some}
use Rattle.gate_arena.proofs.arena.Arena.has_values.Goals as goal

pub returns-clause-some : goal.returns-clause-some
returns-clause-some c = rw (← c.self.view_is) (λ bits l h. HasValue-some _ bits c.self.invariant.within c.self.invariant.acyclic l h)

pub returns-clause-one : goal.returns-clause-one
returns-clause-one c bits l b d h g = HasValue-one c.args.self.now.circuit bits l b d h g
