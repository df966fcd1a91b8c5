use Rattle.std.proofs.Common.{take, []}
use Rattle.gate_arena.specs.Order.{VisitsAll}
use Rattle.gate_arena.specs.Inside.{IsAtRest}
use Rattle.gate_arena.proofs.walk.Walk.over.Given as goal

abbrev pub invariant-loop-out : goal.invariant-loop-out
invariant-loop-out l = record {
  visits : VisitsAll l.arena.circuit [] (take l.out-index l.out-items) l.walk.order;
  rest : IsAtRest l.arena.circuit l.walk;
}
