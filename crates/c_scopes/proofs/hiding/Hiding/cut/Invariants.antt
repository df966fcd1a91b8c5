use Rattle.std.proofs.Common.{◌≡◌, take, length}
use Rattle.c_scopes.proofs.hiding.Hiding.cut.Given as goal

abbrev pub invariant-loop-self : goal.invariant-loop-self
invariant-loop-self l = (l.self.names ≡ l.fn.self.names) × (take l.count l.self.told ≡ take l.count l.fn.self.told)

abbrev pub decreases-loop-self : goal.decreases-loop-self
decreases-loop-self l = length l.self.told
