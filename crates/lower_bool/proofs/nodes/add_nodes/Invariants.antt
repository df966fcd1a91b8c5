use Rattle.std.proofs.Common.{◌≡◌, ◌++◌, take}
use Rattle.std.specs.List.{sum_by}
use Rattle.word_graph.specs.Size.{size_at}
use Rattle.gate_net.specs.Growth.{Grows}
use Rattle.lower_bool.specs.Walk.{AreLowered, ands_limit_at}
use Rattle.lower_bool.proofs.nodes.add_nodes.Given as goal

abbrev pub invariant-loop-node : goal.invariant-loop-node
invariant-loop-node l =
    (l.places.keys ≡ l.fn.places.keys ++ take l.node-index l.nodes)
    × AreLowered (record { entries = l.fn.graph; nodes = l.nodes; ins = l.fn.places.keys; form = l.form }) l.net l.places.keys l.rows
    × Grows l.fn.net l.net (sum_by (size_at l.fn.graph) (take l.node-index l.nodes)) (sum_by (ands_limit_at l.form l.fn.graph) (take l.node-index l.nodes))
