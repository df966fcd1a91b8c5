use Rattle.std.proofs.Common.{◌≡◌, map, take}
use Rattle.gate_arena.specs.Order.{new_lit}
use Rattle.gate_arena.proofs.walk.Walk.new_outs.Given as goal

abbrev pub invariant-loop-out : goal.invariant-loop-out
invariant-loop-out l = l.outs.items ≡ map (new_lit l.arena.circuit l.self.order) (take l.out-index l.old)
