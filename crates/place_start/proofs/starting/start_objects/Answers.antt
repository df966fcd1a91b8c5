use Rattle.std.proofs.Common.{rules, ◌≡◌, [], get_or, ap, refl, ◌∙◌, arith}
use Rattle.std.proofs.lemmas.List.Elements.{All-push}
use Rattle.word_nodes.proofs.NodeLaws.{Extends-inputs, Extends-then}
use Rattle.c_place.specs.Boards.{HeldFits, cells_held, held_layout}
use Rattle.c_place.proofs.BoardLaws.{HeldFits-later, cells-later, layouts-later}
use Rattle.place_start.specs.Starts.{object_layout, start_held}
use Rattle.place_start.proofs.StepLaws.{IsOne-later, IsOne-made, cells_more, map-push}
use Rattle.place_start.proofs.starting.start_objects.Goals as goal

pub loop-object-init : goal.loop-object-init
loop-object-init c = record {
  extends = c.in_ok-null.ensures.extends 0;
  nodes = omega (arith, c.in_ok-null.ensures.nodes);
  gates = c.in_ok-null.ensures.gates;
  null = IsOne-made (c.in_ok-null.ensures.extends 0) c.in_ok-null.null c.in_ok-null.ensures.stands c.in_ok-null.ensures.value;
  fits = λ lay. rw c.in_ok-held.ensures.items (λ k d h. absurd (omega (arith, h)));
  layout = rw c.in_ok-held.ensures.items refl;
  value = λ ins fit. rw c.in_ok-held.ensures.items refl;
}

pub returns-in_err-start_object-clause-extends : goal.returns-in_err-start_object-clause-extends
returns-in_err-start_object-clause-extends c = Extends-then _ _ _ _ c.loop-object.invariant.extends c.in_err-start_object.ensures.extends

pub returns-in_err-push-clause-extends : goal.returns-in_err-push-clause-extends
returns-in_err-push-clause-extends c = Extends-then _ _ _ _ c.loop-object.invariant.extends c.in_ok-start_object.ensures.extends

pub loop-object-preserved : goal.loop-object-preserved
loop-object-preserved c =
    let i = c.loop-object.invariant in
    let s = c.in_ok-start_object.ensures in
    let f = s.extends in
    let k = c.loop-object.object-index in
    let object = c.object-item.result in
    let objects = c.args.objects.now in
    let is : object ≡ get_or objects k object = search rules in
    let x = c.in_ok-start_object.field-0 in
    let hs = c.loop-object.held.items in
    let g = c.start_object.new.graph in
    record {
      extends = Extends-then _ _ _ _ i.extends f;
      nodes = omega (arith, i.nodes, s.nodes, cells_more objects k object c.loop-object-test.true is);
      gates = omega (arith, i.gates, s.gates);
      null = IsOne-later f _ i.null;
      fits = λ lay. rw c.in_ok-push.ensures.items (All-push (HeldFits g lay) hs x (λ j d h. HeldFits-later f lay (get_or hs j d) (i.fits lay j d h)) (s.fits lay));
      layout =
          rw c.in_ok-push.ensures.items
          (map-push (held_layout g) (object_layout c.args.structs.now) hs x objects k object (layouts-later f [] hs (i.fits []) ∙ i.layout) c.loop-object-test.true (s.layout ∙ ap (object_layout c.args.structs.now) is));
      value = λ ins fit.
          rw c.in_ok-push.ensures.items
          (map-push (cells_held g ins) start_held hs x objects k object (cells-later f [] ins hs (i.fits []) ∙ i.value ins fit) c.loop-object-test.true (s.value ins (Extends-inputs i.extends ins fit) ∙ ap start_held is));
    }
