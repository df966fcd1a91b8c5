use Rattle.std.proofs.Common.{sym, ◌∙◌}
use Rattle.std.proofs.lemmas.List.{map_more}
use Rattle.ring_net.specs.Part.{variable_of}
use Rattle.ring_net.proofs.part.variables_of.Goals as goal

-- src/part.rt:105:5
pub loop-node-preserved : goal.loop-node-preserved
loop-node-preserved c =
    c.in_ok-push.ensures.items ∙ rw (c.variable_of.ensures, c.loop-node.invariant) (sym (map_more (variable_of c.args.places.now.keys) c.args.nodes.now c.loop-node.node-index 0 c.loop-node-test.true))
