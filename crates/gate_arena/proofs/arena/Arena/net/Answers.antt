use Rattle.std.proofs.Common.{[]}
use Rattle.gate_arena.proofs.WalkLaws.{visits_all-one}
use Rattle.gate_arena.proofs.arena.Arena.net.Goals as goal

pub returns-clause-one : goal.returns-clause-one
returns-clause-one c a b v u = visits_all-one c.args.self.now.circuit c.args.self.now.circuit.outs [] a b v u
