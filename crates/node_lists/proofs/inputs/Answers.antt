use Rattle.std.proofs.Common.{get_or, ◌∙◌, arith}
use Rattle.word_graph.proofs.GrowthLaws.{Grows-inputs, Grows-then}
use Rattle.word_nodes.proofs.NodeLaws.{AllStand-push, worths-push}
use Rattle.node_lists.proofs.InputLaws.{AllStand-grown, worths-grown}
use Rattle.node_lists.proofs.inputs.Goals as goal

pub loop-number-preserved : goal.loop-number-preserved
loop-number-preserved c = record {
  grows = Grows-then _ _ _ _ _ _ _ c.loop-number.invariant.grows c.in_ok-input.ensures.grows;
  stands =
      rw c.in_ok-push.ensures.items
      (AllStand-push _ _ _ _ _ _ (AllStand-grown c.in_ok-input.ensures.grows _ _ c.loop-number.invariant.stands) c.loop-number-test.true c.in_ok-input.ensures.stands);
  value = λ ins fit.
      let before = Grows-inputs _ _ _ _ c.in_ok-input.ensures.grows ins fit in
      let here = c.in_ok-input.ensures.value ins fit in
      rw c.in_ok-push.ensures.items
      (worths-push _ _ _ _ c.loop-number.number 0 ins (worths-grown c.in_ok-input.ensures.grows ins _ _ c.loop-number.invariant.stands ∙ c.loop-number.invariant.value ins before) here.0 here.1);
  there = λ ins fit. omega (arith, (c.in_ok-input.ensures.value ins fit).0);
  fit = λ ins fit has.
      let here = has c.loop-number.number c.loop-number-test.true in
      c.in_ok-input.ensures.fit ins (c.loop-number.invariant.fit ins fit has) here.0 here.1;
}
