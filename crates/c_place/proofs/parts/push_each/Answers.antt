use Rattle.std.proofs.Common.{◌+◌, ◌*◌, ap, ◌∙◌, arith}
use Rattle.hy_bits.specs.declared.width.Width.TheVariants.{W64}
use Rattle.word_nodes.proofs.NodeLaws.{Extends-then, Extends-inputs, Stands-later, worth-later, worth-bit}
use Rattle.c_place.specs.declared.targets.Place.{Place}
use Rattle.c_place.specs.declared.targets.Target.{Target}
use Rattle.c_place.specs.Aims.{IsTarget, aim, aims}
use Rattle.c_place.specs.Boards.{LiesIn}
use Rattle.c_place.proofs.PlaceLaws.{hit-same}
use Rattle.c_place.proofs.TargetLaws.{IsTarget-later}
use Rattle.c_place.proofs.ChoiceLaws.{All-kept, aims-kept, seen-same}
use Rattle.c_place.proofs.PartLaws.{part-step, part-lies, kept-few}
use Rattle.c_place.proofs.parts.push_each.Goals as goal

pub returns-in_err-here-clause-extends : goal.returns-in_err-here-clause-extends
returns-in_err-here-clause-extends c = Extends-then _ _ _ _ c.loop-k.invariant.extends c.in_err-here.ensures.extends

pub returns-in_err-push_live-clause-extends : goal.returns-in_err-push_live-clause-extends
returns-in_err-push_live-clause-extends c = Extends-then _ _ _ _ c.loop-k.invariant.extends c.in_ok-here.ensures.extends

pub loop-k-preserved : goal.loop-k-preserved
loop-k-preserved c =
    let g0 = c.args.graph.now in
    let new = c.hit.new.graph in
    let k = c.loop-k.k in
    let target = c.args.target.now in
    let part = c.args.part in
    let before = c.loop-k.invariant.extends in
    let f = c.in_ok-here.ensures.extends in
    let all = Extends-then _ _ _ _ before f in
    let element = c.part_target-element.result in
    let is = c.part_target-element.ensures in
    let old = c.loop-k.list.items in
    let list = c.push_live.new.list.items in
    let place : Place = record { object = target.object; first = target.first + k * target.size + part.offset; size = part.size; length = part.count } in
    record {
      extends = all;
      nodes = omega (arith, c.loop-k.invariant.nodes, c.in_ok-here.ensures.nodes);
      gates = omega (arith, c.loop-k.invariant.gates, c.in_ok-here.ensures.gates);
      targets =
          All-kept (IsTarget new) old list element _ c.in_ok-push_live.ensures.list
          (λ j d h. IsTarget-later f _ (c.loop-k.invariant.targets j d h))
          (rw is (record { guard = c.in_ok-here.ensures.stands; index = Stands-later all W64 _ c.requires.origin }));
      sums = λ ins fit.
          let now = Extends-inputs before ins fit in
          part-step (aim g0 ins target) part.offset part.size part.count k (aims g0 ins c.args.list.now.items) _ _ (aim new ins element)
          (worth-bit g0 ins target.guard c.entries-entries.ensures.graph fit c.requires.target.guard)
          (c.loop-k.invariant.sums ins fit)
          (ap (aim new ins) is
          ∙ seen-same place _ _ _ _
          (c.in_ok-here.ensures.value ins now ∙ hit-same _ _ _ _ k (worth-later before ins target.guard c.requires.target.guard.within) (worth-later before ins target.index c.requires.target.index.within))
          (worth-later all ins c.args.origin c.requires.origin.within ∙ c.requires.zero ins fit))
          (aims-kept f ins old list element (Extends-inputs f ins now) c.loop-k.invariant.targets c.in_ok-push_live.ensures.list);
      lies = λ layout l h.
          All-kept (LiesIn layout) old list element _ c.in_ok-push_live.ensures.list (c.loop-k.invariant.lies layout l h)
          (part-lies layout target element part.offset part.size part.count k l c.requires.within c.loop-k-test.true
          (ap (λ (t : Target). t.object) is) (ap (λ (t : Target). t.first) is) (ap (λ (t : Target). t.size) is) (ap (λ (t : Target). t.length) is));
      few = omega (arith, c.loop-k.invariant.few, kept-few old list element _ c.in_ok-push_live.ensures.list);
    }
