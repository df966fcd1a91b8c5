use Rattle.std.proofs.Common.{ap, ◌∙◌}
use Rattle.gate_net.specs.Circuit.{Circuit}
use Rattle.gate_net.specs.Shape.{gate_limit}
use Rattle.module_split.proofs.ModuleLaws.{IsPiece-of}
use Rattle.bundle_laws.proofs.Nets.{net-fits, net-gives}
use Rattle.module_circuits.proofs.NetLaws.{computes-again, depth-again, reduced-again}
use Rattle.module_circuits.proofs.circuits.net_for.Goals as goal

pub returns-in-Ok-clause-valid : goal.returns-in-Ok-clause-valid
returns-in-Ok-clause-valid c =
    net-fits c.args.graph.now c.args.part.now.ins c.args.part.now.outs c.with_budget-net.result c.gates-gates.ensures.circuit
    (ap (λ (n : Circuit). n.ins) c.with_budget-net.ensures ∙ c.in-Ok.ensures.ins)
    (ap (λ (n : Circuit). n.budget) c.with_budget-net.ensures)
    (computes-again c.args.graph.now c.args.part.now.ins c.args.part.now.outs c.in-Ok.net c.with_budget-net.result gate_limit c.with_budget-net.ensures c.in-Ok.ensures.computes)

pub returns-in-Ok-clause-words : goal.returns-in-Ok-clause-words
returns-in-Ok-clause-words c =
    net-gives c.args.graph.now c.args.part.now c.with_budget-net.result c.entries-entries.ensures.graph (IsPiece-of c.args.graph.now c.args.part.now c.entries-entries.ensures.graph c.requires.part)
    (computes-again c.args.graph.now c.args.part.now.ins c.args.part.now.outs c.in-Ok.net c.with_budget-net.result gate_limit c.with_budget-net.ensures c.in-Ok.ensures.computes)

pub returns-in-Ok-clause-reduced : goal.returns-in-Ok-clause-reduced
returns-in-Ok-clause-reduced c = reduced-again c.in-Ok.net c.with_budget-net.result gate_limit c.with_budget-net.ensures c.in-Ok.ensures.reduced

pub returns-in-Ok-clause-depth : goal.returns-in-Ok-clause-depth
returns-in-Ok-clause-depth c shallow =
    depth-again c.args.graph.now c.args.part.now.nodes c.in-Ok.net c.with_budget-net.result gate_limit c.with_budget-net.ensures (c.in-Ok.ensures.depth shallow)
