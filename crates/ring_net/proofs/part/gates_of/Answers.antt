use Rattle.std.proofs.Common.{◌++◌, ◌∷◌, [], get_or, map, take, sym, ap, ◌∙◌}
use Rattle.std.proofs.lemmas.List.{map_more}
use Rattle.ring_net.specs.declared.ring.RingGate.{RingGate}
use Rattle.ring_net.specs.Part.{gate_at}
use Rattle.ring_net.proofs.PartLaws.{gate_at-entry}
use Rattle.ring_net.proofs.part.gates_of.Goals as goal

-- src/part.rt:79:5
pub loop-node-preserved : goal.loop-node-preserved
loop-node-preserved c =
    c.in_ok-push.ensures.items
    ∙ rw (c.gate_for.ensures, c.loop-node.invariant)
    (ap (λ (g : RingGate). map (gate_at c.args.graph.now c.args.places.now.keys) (take c.loop-node.node-index c.args.nodes.now) ++ g ∷ [])
    (gate_at-entry c.args.graph.now c.entries-entries.result.now c.args.places.now.keys (get_or c.args.nodes.now c.loop-node.node-index 0) _ c.entries-entries.ensures.value (c.requires.stand c.loop-node.node-index 0 c.loop-node-test.true))
    ∙ sym (map_more (gate_at c.args.graph.now c.args.places.now.keys) c.args.nodes.now c.loop-node.node-index 0 c.loop-node-test.true))
