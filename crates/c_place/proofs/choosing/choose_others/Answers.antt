use Rattle.std.proofs.Common.{◌≡◌, ◌<◌, ◌==◌, Some, true, false, Bool, if◌then◌else◌, length, get_or, slice_get, take, sym, ap, ◌∙◌, arith}
use Rattle.std.proofs.Math.ListN.{get_or-map}
use Rattle.std.proofs.lemmas.List.{length-map, take_all}
use Rattle.std.proofs.lemmas.Option.{slice_get-get_or}
use Rattle.word_nodes.specs.Nodes.{worth}
use Rattle.word_nodes.proofs.NodeLaws.{Extends-none, Extends-then, Extends-inputs, worth-later}
use Rattle.c_place.specs.Aims.{Aim, IsTarget, aim, aims}
use Rattle.c_place.specs.Choices.{absent}
use Rattle.c_place.proofs.TargetLaws.{no_target, IsTarget-later, aim-later}
use Rattle.c_place.proofs.ChoiceLaws.{All-kept, aims-kept, chosen-aims, others-start, others-none, others-left, others-taken, others-passed, others-placed}
use Rattle.c_place.proofs.choosing.choose_others.Goals as goal
use Rattle.c_place.proofs.choosing.choose_others.Goals.{then-not-taken-number+in_ok-target+in_ok-push_live, else-not-taken-number}

pub loop-number-init : goal.loop-number-init
loop-number-init c = record {
  extends = Extends-none _ _;
  nodes = omega arith;
  gates = omega arith;
  targets = c.requires.before;
  sums = λ ins fit. others-start (worth c.args.graph.now ins c.args.c) (aims c.args.graph.now ins c.args.list.now.items) (aims c.args.graph.now ins c.args.others.now) c.args.taken.now;
  placed = others-none c.args.list.now.items c.args.others.now c.args.taken.now;
}

pub returns-in_err-target-clause-extends : goal.returns-in_err-target-clause-extends
returns-in_err-target-clause-extends c = Extends-then _ _ _ _ c.loop-number.invariant.extends c.in_err-target.ensures.extends

pub returns-in_err-push_live-clause-extends : goal.returns-in_err-push_live-clause-extends
returns-in_err-push_live-clause-extends c = Extends-then _ _ _ _ c.loop-number.invariant.extends c.in_ok-target.ensures.extends

pub loop-number-preserved : goal.loop-number-preserved
loop-number-preserved c =
    let g0 = c.args.graph.now in
    let others = c.args.others.now in
    let n = c.loop-number.number in
    let other = get_or others n no_target in
    let before = c.loop-number.invariant.extends in
    let within : n < length others = c.loop-number-test.true in
    let count : n < length c.args.taken.now = omega (arith, within, c.requires.count) in
    let target = c.requires.targets n no_target within in
    elim c.if-not-taken-number.branch [
      | then-not-taken-number+in_ok-target+in_ok-push_live w ↦
          let f = w.in_ok-target.ensures.extends in
          let off : get_or c.args.taken.now n false ≡ false = w.if-not-taken-number.true in
          let free : slice_get c.args.taken.now n ≡ Some false = slice_get-get_or c.args.taken.now n false count ∙ ap (λ (b : Bool). Some b) off in
          rw (w.graph-is, w.list-is)
          (record {
            extends = Extends-then _ _ _ _ before f;
            nodes = omega (arith, c.loop-number.invariant.nodes, w.in_ok-target.ensures.nodes);
            gates = omega (arith, c.loop-number.invariant.gates, w.in_ok-target.ensures.gates);
            targets =
                All-kept (IsTarget w.guarded.new.graph) c.loop-number.list.items w.push_live.new.list.items w.in_ok-target.target _ w.in_ok-push_live.ensures.list
                (λ k d h. IsTarget-later f _ (c.loop-number.invariant.targets k d h)) w.in_ok-target.ensures.target;
            sums = λ ins fit.
                let now = Extends-inputs before ins fit in
                let here = slice_get-get_or (aims g0 ins others) n (aim g0 ins no_target) (rw (length-map others (aim g0 ins)) within) in
                let same = get_or-map (aim g0 ins) others n no_target in
                others-left (worth g0 ins c.args.c) (aims g0 ins c.args.list.now.items) (aims g0 ins others) c.args.taken.now n (aim g0 ins no_target) _ _ (aim w.guarded.new.graph ins w.in_ok-target.target)
                here free (c.loop-number.invariant.sums ins fit)
                (w.in_ok-target.ensures.value ins now
                ∙ chosen-aims {A = Aim} _ _ _ _ _ _ (worth-later before ins c.args.c c.requires.condition.within) (aim-later before ins other target) (ap absent (aim-later before ins other target))
                ∙ ap (λ (a : Aim). if worth g0 ins c.args.c == 1 then a else absent a) (sym same))
                (aims-kept f ins c.loop-number.list.items w.push_live.new.list.items w.in_ok-target.target (Extends-inputs f ins now) c.loop-number.invariant.targets w.in_ok-push_live.ensures.list);
            placed =
                others-placed c.args.list.now.items others c.args.taken.now n no_target c.loop-number.list.items w.push_live.new.list.items w.in_ok-target.target _
                within free c.loop-number.invariant.placed w.in_ok-target.ensures.place w.in_ok-push_live.ensures.list;
          })
      | else-not-taken-number w ↦
          let on : get_or c.args.taken.now n false ≡ true = w.if-not-taken-number.false in
          let set : slice_get c.args.taken.now n ≡ Some true = slice_get-get_or c.args.taken.now n false count ∙ ap (λ (b : Bool). Some b) on in
          rw (w.graph-is, w.list-is)
          (record {
            extends = before;
            nodes = omega (arith, c.loop-number.invariant.nodes);
            gates = omega (arith, c.loop-number.invariant.gates);
            targets = c.loop-number.invariant.targets;
            sums = λ ins fit.
                let here = slice_get-get_or (aims g0 ins others) n (aim g0 ins no_target) (rw (length-map others (aim g0 ins)) within) in
                others-taken (worth g0 ins c.args.c) (aims g0 ins c.args.list.now.items) (aims g0 ins others) c.args.taken.now n (aim g0 ins no_target) _ here set (c.loop-number.invariant.sums ins fit);
            placed = others-passed c.args.list.now.items others c.args.taken.now n c.loop-number.list.items c.loop-number.invariant.placed;
          })
    ]

pub returns-clause-there : goal.returns-clause-there
returns-clause-there c = λ ins fit.
    let g0 = c.args.graph.now in
    let all : take c.loop-number.number (aims g0 ins c.args.others.now) ≡ aims g0 ins c.args.others.now = take_all c.loop-number.number _ (rw (length-map c.args.others.now (aim g0 ins)) c.loop-number-test.false) in
    let flags : take c.loop-number.number c.args.taken.now ≡ c.args.taken.now = take_all c.loop-number.number _ (omega (arith, c.requires.count, c.loop-number-test.false)) in
    rw (all, flags) at ((c.loop-number.invariant.sums ins fit).there)
