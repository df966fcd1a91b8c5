use Rattle.std.proofs.Common.{List, [], ◌∷◌, ◌++◌, get_or, refl, ap, ◌∙◌, arith}
use Rattle.std.proofs.lemmas.Result.{err_from_is_err_and}
use Rattle.std.proofs.lemmas.List.Sums.{sum_by_more, sum_by_more_le}
use Rattle.word_graph.specs.Size.{size_at}
use Rattle.gate_net.proofs.GrowthLaws.{Grows-then, StopsWithin-after}
use Rattle.lower_bool.specs.Walk.{Part, ands_limit_at}
use Rattle.lower_bool.proofs.WalkLaws.{AreLowered-push, among-nodes, keys-more, keys-next}
use Rattle.lower_bool.proofs.nodes.add_nodes.Goals as goal

pub returns-in_err-word-clause-grows : goal.returns-in_err-word-clause-grows
returns-in_err-word-clause-grows c = Grows-then c.loop-node.invariant.2 c.word_of_node.ensures.grows (sum_by_more_le (size_at c.args.graph.now) c.args.nodes.now c.loop-node.node-index 0 c.loop-node-test.true) (sum_by_more_le (ands_limit_at c.args.form c.args.graph.now) c.args.nodes.now c.loop-node.node-index 0 c.loop-node-test.true)

pub returns-in_err-word-clause-stops : goal.returns-in_err-word-clause-stops
returns-in_err-word-clause-stops c =
    let p = err_from_is_err_and c.from_residual.result c.from_residual.ensures.1 in
    rw (p.1, p.2) (StopsWithin-after c.word_of_node.new.net (size_at c.args.graph.now (get_or c.args.nodes.now c.loop-node.node-index 0)) _ _ c.loop-node.invariant.2 c.in_err-word.ensures.stops (sum_by_more_le (size_at c.args.graph.now) c.args.nodes.now c.loop-node.node-index 0 c.loop-node-test.true))

pub returns-in_err-add-clause-grows : goal.returns-in_err-add-clause-grows
returns-in_err-add-clause-grows c = Grows-then c.loop-node.invariant.2 c.word_of_node.ensures.grows (sum_by_more_le (size_at c.args.graph.now) c.args.nodes.now c.loop-node.node-index 0 c.loop-node-test.true) (sum_by_more_le (ands_limit_at c.args.form c.args.graph.now) c.args.nodes.now c.loop-node.node-index 0 c.loop-node-test.true)

pub returns-in_err-insert-clause-grows : goal.returns-in_err-insert-clause-grows
returns-in_err-insert-clause-grows c = Grows-then c.loop-node.invariant.2 c.word_of_node.ensures.grows (sum_by_more_le (size_at c.args.graph.now) c.args.nodes.now c.loop-node.node-index 0 c.loop-node-test.true) (sum_by_more_le (ands_limit_at c.args.form c.args.graph.now) c.args.nodes.now c.loop-node.node-index 0 c.loop-node-test.true)

pub loop-node-preserved : goal.loop-node-preserved
loop-node-preserved c =
    let within = c.loop-node-test.true in
    let p : Part = record { entries = c.args.graph.now; nodes = c.args.nodes.now; ins = c.args.places.now.keys; form = c.args.form } in
    let made = keys-more c.args.places.now.keys c.args.nodes.now c.loop-node.places.keys c.insert.new.self.keys c.loop-node.node-index 0 within c.requires.piece.distinct c.loop-node.invariant.0 c.in_ok-insert.ensures.keys in (
      keys-next c.args.places.now.keys c.args.nodes.now c.loop-node.places.keys c.insert.new.self.keys c.loop-node.node-index 0 within c.loop-node.invariant.0 made,
      AreLowered-push p c.loop-node.places.keys c.insert.new.self.keys c.loop-node.rows c.add.new.self (get_or c.args.nodes.now c.loop-node.node-index 0) c.in_ok-word.word.items made
          (c.in_ok-add.ensures.added ∙ ap (λ (l : List _). c.loop-node.rows ++ l ∷ []) c.deref.ensures.value)
          c.word_of_node.ensures.grows c.loop-node.invariant.1
          (c.in_ok-word.ensures.lowered p refl refl (among-nodes c.args.nodes.now c.loop-node.node-index 0 within) c.loop-node.invariant.1),
      Grows-then c.loop-node.invariant.2 c.word_of_node.ensures.grows
          (omega (arith, sum_by_more (size_at c.args.graph.now) c.args.nodes.now c.loop-node.node-index 0 within))
          (omega (arith, sum_by_more (ands_limit_at c.args.form c.args.graph.now) c.args.nodes.now c.loop-node.node-index 0 within)),
    )
