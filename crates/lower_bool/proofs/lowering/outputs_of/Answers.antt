use Rattle.std.proofs.Common.{List, ◌++◌, take, sym, ap, ◌∙◌}
use Rattle.std.specs.List.{flat_map}
use Rattle.gate_net.specs.declared.literal.Lit.{Lit}
use Rattle.lower_bool.specs.Operations.{row_at}
use Rattle.lower_bool.specs.Walk.{row_of_node}
use Rattle.lower_bool.proofs.WalkLaws.{flat_map-more}
use Rattle.lower_bool.proofs.lowering.outputs_of.Goals as goal

pub loop-node-preserved : goal.loop-node-preserved
loop-node-preserved c =
    c.in_ok-extend_from_slice.ensures.items
    ∙ ap (λ (l : List Lit). l ++ c.get.result.now) c.loop-node.invariant
    ∙ ap (λ (l : List Lit). flat_map (row_of_node c.args.places.now.keys c.args.rows.now) (take c.loop-node.node-index c.args.outs.now) ++ l) (c.get.ensures ∙ ap (row_at c.args.rows.now) c.place_of.ensures)
    ∙ sym (flat_map-more (row_of_node c.args.places.now.keys c.args.rows.now) c.args.outs.now c.loop-node.node-index 0 c.loop-node-test.true)
