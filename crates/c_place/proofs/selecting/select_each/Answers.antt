use Rattle.std.proofs.Common.{◌==◌, length, take_all, get_or, refl, ◌∙◌, arith}
use Rattle.hy_bits.specs.declared.width.Width.TheVariants.{W1}
use Rattle.word_nodes.specs.Nodes.{worth, worths}
use Rattle.word_nodes.proofs.NodeLaws.{Extends-then, Extends-inputs, Stands-later, worth-later, worths-later, AllStand-later, AllStand-length, AllStand-at, AllStand-push, worths-push, worths-at}
use Rattle.c_place.proofs.ListLaws.{chosen-at, chosen-length}
use Rattle.std.proofs.lemmas.List.{length-map}
use Rattle.c_place.proofs.selecting.select_each.Goals as goal

pub bounds-words-place : goal.bounds-words-place
bounds-words-place c = omega (arith, AllStand-length _ _ _ c.requires.words, c.loop-place-test.true)

pub bounds-others-place : goal.bounds-others-place
bounds-others-place c = omega (arith, AllStand-length _ _ _ c.requires.others, c.loop-place-test.true)

pub put-requires-clause-first : goal.put-requires-clause-first
put-requires-clause-first c = Stands-later c.loop-place.invariant.extends _ _ (AllStand-at _ _ _ _ _ _ c.requires.words c.loop-place-test.true)

pub put-requires-clause-second : goal.put-requires-clause-second
put-requires-clause-second c = Stands-later c.loop-place.invariant.extends _ _ (AllStand-at _ _ _ _ _ _ c.requires.others c.loop-place-test.true)

pub returns-in_err-put-clause-extends : goal.returns-in_err-put-clause-extends
returns-in_err-put-clause-extends c = Extends-then _ _ _ _ c.loop-place.invariant.extends c.in_err-put.ensures.extends

pub returns-in_err-push-clause-extends : goal.returns-in_err-push-clause-extends
returns-in_err-push-clause-extends c = Extends-then _ _ _ _ c.loop-place.invariant.extends c.in_ok-put.ensures.extends

pub loop-place-preserved : goal.loop-place-preserved
loop-place-preserved c = record {
  extends = Extends-then _ _ _ _ c.loop-place.invariant.extends c.in_ok-put.ensures.extends;
  nodes = omega (arith, c.loop-place.invariant.nodes, c.in_ok-put.ensures.nodes);
  gates = omega (arith, c.loop-place.invariant.gates, c.in_ok-put.ensures.gates);
  stands =
      rw c.in_ok-push.ensures.items
      (AllStand-push _ _ _ _ _ _ (AllStand-later c.in_ok-put.ensures.extends _ _ c.loop-place.invariant.stands) c.loop-place-test.true c.in_ok-put.ensures.stands);
  value = λ ins fit.
      let before = c.loop-place.invariant.extends in
      let now = Extends-inputs before ins fit in
      let words = worths c.args.graph.now ins c.args.words.now in
      let others = worths c.args.graph.now ins c.args.others.now in
      let left = AllStand-length _ _ _ c.requires.words in
      let right = AllStand-length _ _ _ c.requires.others in
      rw c.in_ok-push.ensures.items
      (worths-push _ _ _ _ c.loop-place.place 0 _
      (worths-later c.in_ok-put.ensures.extends ins _ _ c.loop-place.invariant.stands ∙ c.loop-place.invariant.value ins fit)
      (rw (chosen-length (worth c.args.graph.now ins c.args.c == 1) words others (length c.args.widths.now) (length-map c.args.words.now (worth c.args.graph.now ins) ∙ left) (length-map c.args.others.now (worth c.args.graph.now ins) ∙ right)) c.loop-place-test.true)
      (c.in_ok-put.ensures.value ins now
      ∙ simp (
        worth-later before ins c.args.c c.requires.condition.within,
        worth-later before ins (get_or c.args.words.now c.loop-place.place (record { index = 0 })) (AllStand-at _ c.args.widths.now c.args.words.now c.loop-place.place W1 (record { index = 0 }) c.requires.words c.loop-place-test.true).within,
        worth-later before ins (get_or c.args.others.now c.loop-place.place (record { index = 0 })) (AllStand-at _ c.args.widths.now c.args.others.now c.loop-place.place W1 (record { index = 0 }) c.requires.others c.loop-place-test.true).within,
        chosen-at (worth c.args.graph.now ins c.args.c == 1) words others c.loop-place.place 0,
        worths-at c.args.graph.now ins c.args.words.now c.loop-place.place (record { index = 0 }) 0 (omega (arith, left, c.loop-place-test.true)),
        worths-at c.args.graph.now ins c.args.others.now c.loop-place.place (record { index = 0 }) 0 (omega (arith, right, c.loop-place-test.true)),
      )
      refl));
}

pub returns-clause-value : goal.returns-clause-value
returns-clause-value c = λ ins fit.
    let left = AllStand-length _ _ _ c.requires.words in
    let right = AllStand-length _ _ _ c.requires.others in
    c.loop-place.invariant.value ins fit
    ∙ take_all c.loop-place.place _
    (rw (chosen-length (worth c.args.graph.now ins c.args.c == 1) (worths c.args.graph.now ins c.args.words.now) (worths c.args.graph.now ins c.args.others.now) (length c.args.widths.now) (length-map c.args.words.now (worth c.args.graph.now ins) ∙ left) (length-map c.args.others.now (worth c.args.graph.now ins) ∙ right))
    c.loop-place-test.false)
