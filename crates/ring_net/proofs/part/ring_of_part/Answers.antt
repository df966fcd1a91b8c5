use Rattle.std.proofs.Common.{ap, ◌∙◌, ◌++◌, ℕ, List, map}
use Rattle.word_graph.specs.Meaning.{value}
use Rattle.ring_net.specs.Ring.{Ring, outputs}
use Rattle.ring_net.proofs.PartLaws.{made-outputs, made-ring, nodes-stand}
use Rattle.ring_net.proofs.part.ring_of_part.Goals as goal

-- src/part.rt:132:17
pub gates_of-requires-clause-stand : goal.gates_of-requires-clause-stand
gates_of-requires-clause-stand c = nodes-stand c.args.ins.now c.args.nodes.now _ c.requires.stand

-- src/part.rt:134:8
pub new-requires : goal.new-requires
new-requires c =
    made-ring c.args.graph.now c.args.nodes.now c.args.ins.now c.args.outs.now c.requires c.entries-size.ensures.graph c.add_places-2.new.places.keys c.in_ok-widths.widths.items c.in_ok-gates.gates.items
    c.in_ok-variables.variables.items
    (c.in_ok-add_places-2.ensures ∙ ap (λ (l : List ℕ). l ++ c.args.nodes.now) (c.in_ok-add_places.ensures ∙ ap (λ (l : List ℕ). l ++ c.args.ins.now) c.new-places.ensures.empty))
    c.in_ok-widths.ensures
    c.in_ok-gates.ensures
    c.in_ok-variables.ensures

-- src/part.rt:113:1
pub returns-clause-values : goal.returns-clause-values
returns-clause-values c inputs fit =
    ap (λ (r : Ring). outputs r (map (value c.args.graph.now inputs) c.args.ins.now)) c.new.ensures
    ∙ made-outputs c.args.graph.now c.args.nodes.now c.args.ins.now c.args.outs.now c.requires c.entries-size.ensures.graph c.add_places-2.new.places.keys c.in_ok-widths.widths.items c.in_ok-gates.gates.items
    c.in_ok-variables.variables.items
    (c.in_ok-add_places-2.ensures ∙ ap (λ (l : List ℕ). l ++ c.args.nodes.now) (c.in_ok-add_places.ensures ∙ ap (λ (l : List ℕ). l ++ c.args.ins.now) c.new-places.ensures.empty))
    c.in_ok-widths.ensures
    c.in_ok-gates.ensures
    c.in_ok-variables.ensures
    inputs
    fit
