use Rattle.std.proofs.Common.{◌∙◌}
use Rattle.module_split.proofs.CutLaws.{add_edges-same, add_edges-other, add_edges-end}
use Rattle.module_split.proofs.cutting.add_edges.Goals as goal
use Rattle.module_split.proofs.cutting.add_edges.Goals.{then-module-from+in_ok-add_edge, else-module-from}

pub loop-node-preserved : goal.loop-node-preserved
loop-node-preserved c = elim c.if-module-from.branch [
  | then-module-from+in_ok-add_edge w ↦
      let other = rw c.module_number-module.ensures at w.if-module-from.true in
      rw (w.edges-is, w.in_ok-add_edge.ensures, w.from-is, c.module_number-module.ensures, c.in_ok-push.ensures.items, w.words-is, w.new-words-then-module-from.ensures.items)
      (add_edges-other c.args.numbers.now c.args.to c.args.crossing.now c.loop-node.node-index 0 c.loop-node-test.true c.loop-node.edges.items _ c.loop-node.from c.loop-node.words.items c.loop-node.invariant other)
  | else-module-from w ↦
      let same = rw c.module_number-module.ensures at w.if-module-from.false in
      rw (w.edges-is, w.from-is, c.in_ok-push.ensures.items, w.words-is)
      (add_edges-same c.args.numbers.now c.args.to c.args.crossing.now c.loop-node.node-index 0 c.loop-node-test.true c.loop-node.edges.items _ c.loop-node.from c.loop-node.words.items c.loop-node.invariant same)
]

pub returns : goal.returns
returns c = c.in_ok-add_edge-2.ensures ∙ add_edges-end c.args.numbers.now c.args.to c.args.crossing.now c.loop-node.node-index c.loop-node-test.false c.loop-node.edges.items _ c.loop-node.from c.loop-node.words.items c.loop-node.invariant
