use Rattle.node_lists.proofs.InputLaws.{is_input, of_both}
use Rattle.node_lists.proofs.input.Goals as goal

pub returns-clause-value : goal.returns-clause-value
returns-clause-value c =
    of_both c.node.result _ _ _ (λ n at gives. is_input c.args.graph.now c.node.new.self c.args.width c.args.number n c.node.ensures.grows at gives) c.node.ensures.answer c.node.ensures.value
