use Rattle.std.proofs.Common.{get_or, ◌∙◌, arith}
use Rattle.word_nodes.proofs.NodeLaws.{AllStand-later, AllStand-push, Extends-inputs, Extends-then, worths-later, worths-push}
use Rattle.node_lists.proofs.constants.Goals as goal

pub returns-in_err-constant-clause-extends : goal.returns-in_err-constant-clause-extends
returns-in_err-constant-clause-extends c = λ region. Extends-then _ _ _ _ (c.loop-place.invariant.extends region) (c.in_err-constant.ensures.extends region)

pub returns-in_err-push-clause-extends : goal.returns-in_err-push-clause-extends
returns-in_err-push-clause-extends c = λ region. Extends-then _ _ _ _ (c.loop-place.invariant.extends region) (c.in_ok-constant.ensures.extends region)

pub loop-place-preserved : goal.loop-place-preserved
loop-place-preserved c = record {
  extends = λ region. Extends-then _ _ _ _ (c.loop-place.invariant.extends region) (c.in_ok-constant.ensures.extends region);
  nodes = omega (arith, c.loop-place.invariant.nodes, c.in_ok-constant.ensures.nodes);
  gates = omega (arith, c.loop-place.invariant.gates, c.in_ok-constant.ensures.gates);
  stands =
      rw c.in_ok-push.ensures.items
      (AllStand-push _ _ _ _ _ _ (AllStand-later (c.in_ok-constant.ensures.extends 0) _ _ c.loop-place.invariant.stands) c.loop-place-test.true c.in_ok-constant.ensures.stands);
  value = λ ins fit.
      let now = Extends-inputs (c.loop-place.invariant.extends 0) ins fit in
      rw c.in_ok-push.ensures.items
      (worths-push _ _ _ _ c.loop-place.place 0 _
      (worths-later (c.in_ok-constant.ensures.extends 0) ins _ _ c.loop-place.invariant.stands ∙ c.loop-place.invariant.value ins fit)
      (omega (arith, c.requires.0, c.loop-place-test.true))
      (c.in_ok-constant.ensures.value ins now));
}
