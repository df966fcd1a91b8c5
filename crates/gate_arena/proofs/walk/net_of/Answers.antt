use Rattle.std.proofs.Common.{◌∙◌, ℕ, ap, arith, length, max}
use Rattle.std.proofs.lemmas.List.{length-map}
use Rattle.gate_arena.specs.Order.{new_gate_at}
use Rattle.gate_arena.proofs.NetLaws.{IsCircuit-made, KeepsOutputs-made, if_ok, made-net, order-short}
use Rattle.gate_arena.proofs.walk.net_of.Goals as goal

pub overflow_cast-len : goal.overflow_cast-len
overflow_cast-len c = omega (
  arith,
  c.len.ensures,
  ap length c.in_ok-gates.ensures.gates,
  length-map c.in_ok-walk.walk.order (new_gate_at c.args.arena.now.circuit c.in_ok-walk.walk.order),
  order-short c.args.arena.now.circuit c.in_ok-walk.walk c.in_ok-walk.ensures.rest,
  c.has_values.ensures.limits.2,
)

pub of-requires : goal.of-requires
of-requires c =
    IsCircuit-made c.args.arena.now.circuit c.in_ok-walk.walk c.in_ok-walk.ensures.walk c.in_ok-walk.ensures.rest c.has_values.ensures.limits _
    (made-net c.args.arena.now.circuit c.in_ok-walk.walk.order c.ins.result c.in_ok-gates.gates.items c.in_ok-outs.outs.items c.max-budget.result c.len.result c.ins.ensures c.in_ok-gates.ensures.gates c.in_ok-outs.ensures.outs
    (c.max-budget.ensures ∙ ap (λ (b : ℕ). max b c.len.result) c.budget.ensures)
    (omega (arith, c.len.ensures)))

pub returns-clause-values : goal.returns-clause-values
returns-clause-values c = if_ok c.of.result _ _ c.of.ensures.parts (λ m is.
    KeepsOutputs-made c.args.arena.now.circuit c.in_ok-walk.walk c.in_ok-walk.ensures.walk c.in_ok-walk.ensures.rest c.has_values.ensures.limits m
    (is ∙ made-net c.args.arena.now.circuit c.in_ok-walk.walk.order c.ins.result c.in_ok-gates.gates.items c.in_ok-outs.outs.items c.max-budget.result c.len.result c.ins.ensures c.in_ok-gates.ensures.gates c.in_ok-outs.ensures.outs
    (c.max-budget.ensures ∙ ap (λ (b : ℕ). max b c.len.result) c.budget.ensures)
    (omega (arith, c.len.ensures))))
