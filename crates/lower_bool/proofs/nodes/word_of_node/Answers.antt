use Rattle.lower_bool.proofs.OperationLaws.{if_ok}
use Rattle.lower_bool.proofs.WalkLaws.{node-answer, node-grows, node-stand, node-stops, node-words}
use Rattle.lower_bool.proofs.nodes.word_of_node.Goals as goal

pub operation-requires-clause-stand : goal.operation-requires-clause-stand
operation-requires-clause-stand c = node-stand c.args.graph.now c.entries-entries.ensures.graph c.args.places.now.keys c.args.rows.now c.args.node c.requires.known c.entries-entries.result.now c.entries-entries.ensures.value _ c.call_of.result c.call_of.ensures c.in_ok-operands.operands c.in_ok-operands.ensures.items c.args.net.now c.requires.words

pub operation-requires-clause-words : goal.operation-requires-clause-words
operation-requires-clause-words c = node-words c.args.graph.now c.entries-entries.ensures.graph c.args.places.now.keys c.args.rows.now c.args.node c.requires.known c.entries-entries.result.now c.entries-entries.ensures.value _ c.call_of.result c.call_of.ensures c.in_ok-operands.operands c.in_ok-operands.ensures.items c.args.net.now c.requires.words

pub returns-clause-lowered : goal.returns-clause-lowered
returns-clause-lowered c =
    if_ok c.operation.result _ _ c.operation.ensures.answer (λ r a p same is among l.
    node-answer c.args.graph.now c.entries-entries.ensures.graph c.args.places.now.keys c.args.rows.now c.args.node c.requires.known c.entries-entries.result.now c.entries-entries.ensures.value _ c.call_of.result c.call_of.ensures c.in_ok-operands.operands c.in_ok-operands.ensures.items c.args.form c.args.net.now c.operation.new.net r.items a p same is among l)

pub returns-clause-grows : goal.returns-clause-grows
returns-clause-grows c = node-grows c.args.graph.now c.entries-entries.ensures.graph c.args.places.now.keys c.args.rows.now c.args.node c.requires.known c.entries-entries.result.now c.entries-entries.ensures.value _ c.call_of.result c.call_of.ensures c.in_ok-operands.operands c.in_ok-operands.ensures.items c.args.form c.args.net.now c.operation.new.net c.operation.ensures.grows

pub returns-clause-stops : goal.returns-clause-stops
returns-clause-stops c = node-stops c.args.graph.now c.entries-entries.ensures.graph c.args.places.now.keys c.args.rows.now c.args.node c.requires.known c.entries-entries.result.now c.entries-entries.ensures.value _ c.call_of.result c.call_of.ensures c.in_ok-operands.operands c.in_ok-operands.ensures.items c.operation.result c.args.net.now c.operation.new.net c.operation.ensures.stops
