use Rattle.std.proofs.Common.{◌∙◌, ◌+◌, ℕ, ap}
use Rattle.gate_arena.specs.Inside.{OutList}
use Rattle.gate_arena.proofs.ArenaLaws.{HasValue-net, IsArena-net, known-net, net-same}
use Rattle.gate_arena.proofs.arena.Arena.of.Goals as goal

pub invariant_of-result : goal.invariant_of-result
invariant_of-result c =
    IsArena-net c.args.net.now _ _ _ c.ins-ins.ensures.circuit c.requires
    (net-same c.args.net.now c.ins-ins.result c.in_ok-wires.wires.gates c.in_ok-outs.outs.lits c.budget.result c.ins-ins.ensures.value (c.in_ok-wires.ensures.gates ∙ c.gates-gates.ensures.value)
    (ap (λ (o : OutList). o.lits) c.in_ok-outs.ensures.ok ∙ c.in_ok-lits.ensures.items_if_clones_equal (λ x y e. e) ∙ c.outs.ensures.value)
    c.budget.ensures.value)
    (c.in_ok-wires.ensures.starts ∙ ap (λ (i : ℕ). 1 + i) c.ins-ins.ensures.value)
    (ap (λ (o : OutList). o.wires) c.in_ok-outs.ensures.ok ∙ known-net c.args.net.now c.ins-ins.result c.gates-gates.result.now c.ins-ins.ensures.value c.gates-gates.ensures.value)

pub returns-clause-values : goal.returns-clause-values
returns-clause-values c =
    HasValue-net c.args.net.now _ c.ins-ins.ensures.circuit.ordered
    (net-same c.args.net.now c.ins-ins.result c.in_ok-wires.wires.gates c.in_ok-outs.outs.lits c.budget.result c.ins-ins.ensures.value (c.in_ok-wires.ensures.gates ∙ c.gates-gates.ensures.value)
    (ap (λ (o : OutList). o.lits) c.in_ok-outs.ensures.ok ∙ c.in_ok-lits.ensures.items_if_clones_equal (λ x y e. e) ∙ c.outs.ensures.value)
    c.budget.ensures.value)
