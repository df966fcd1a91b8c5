use Rattle.std.proofs.Common.{◌≡◌, ◌==◌, false, if◌then◌else◌, length, get_or, take, replicate, sym, ap, ◌∙◌, arith, rules}
use Rattle.std.specs.Option.{ForSome}
use Rattle.std.proofs.Math.ListN.{get_or-map}
use Rattle.std.proofs.lemmas.List.{length-map, take_all}
use Rattle.word_nodes.specs.Nodes.{worth}
use Rattle.word_nodes.proofs.NodeLaws.{Extends-none, Extends-then, Extends-inputs, worth-later}
use Rattle.c_place.specs.declared.targets.Target.{Target}
use Rattle.c_place.specs.Aims.{Aim, IsTarget, aim, aims, place_of}
use Rattle.c_place.specs.Choices.{partner_aim}
use Rattle.c_place.proofs.TargetLaws.{no_target, IsTarget-later, aim-later}
use Rattle.c_place.proofs.ChoiceLaws.{for_some, from_none, All-at, All-kept, aims-kept, chosen-aims, ones-none, ones-none-placed, ones-step, ones-placed, partner-later, partner-sum, taken-stays}
use Rattle.c_place.proofs.choosing.choose_ones.Goals as goal

pub loop-one-init : goal.loop-one-init
loop-one-init c =
    let none : c.in_ok-taken.taken.items ≡ replicate (length c.args.others.now) false = search rules in
    let empty = c.new-list.ensures.items in
    record {
      extends = Extends-none _ _;
      nodes = omega arith;
      gates = omega arith;
      targets = rw empty (λ k d h. absurd (omega arith));
      sums = λ ins fit. rw (empty, none) (ones-none (worth c.args.graph.now ins c.args.c == 1) (aims c.args.graph.now ins c.args.ones.now) (aims c.args.graph.now ins c.args.others.now) (length c.args.others.now));
      placed = rw (empty, none) (ones-none-placed c.args.ones.now c.args.others.now);
    }

pub chosen_target-requires-clause-first : goal.chosen_target-requires-clause-first
chosen_target-requires-clause-first c = IsTarget-later c.loop-one.invariant.extends _ (c.requires.first c.loop-one.one-index no_target c.loop-one-test.true)

pub chosen_target-requires-clause-second : goal.chosen_target-requires-clause-second
chosen_target-requires-clause-second c = λ x e.
    let s = for_some c.take_partner-partner.result _ c.take_partner-partner.ensures.partner x e in
    (IsTarget-later c.loop-one.invariant.extends x (All-at (IsTarget c.args.graph.now) c.args.others.now s.number x c.requires.second s.is), s.same ∙ c.place.ensures)

pub returns-in_err-target-clause-extends : goal.returns-in_err-target-clause-extends
returns-in_err-target-clause-extends c = Extends-then _ _ _ _ c.loop-one.invariant.extends c.in_err-target.ensures.extends

pub returns-in_err-push_live-clause-extends : goal.returns-in_err-push_live-clause-extends
returns-in_err-push_live-clause-extends c = Extends-then _ _ _ _ c.loop-one.invariant.extends c.in_ok-target.ensures.extends

pub loop-one-preserved : goal.loop-one-preserved
loop-one-preserved c =
    let g0 = c.args.graph.now in
    let ones = c.args.ones.now in
    let others = c.args.others.now in
    let one = get_or ones c.loop-one.one-index no_target in
    let partner = c.take_partner-partner.result in
    let before = c.loop-one.invariant.extends in
    let f = c.in_ok-target.ensures.extends in
    let target = c.requires.first c.loop-one.one-index no_target c.loop-one-test.true in
    let is = for_some partner _ c.take_partner-partner.ensures.partner in
    let none = from_none partner _ c.take_partner-partner.ensures.none in
    let stand : ForSome partner (λ (x : Target). IsTarget g0 x × (place_of x ≡ place_of one)) =
    λ x e. (All-at (IsTarget g0) others (is x e).number x c.requires.second (is x e).is, (is x e).same ∙ c.place.ensures) in
    let stays = taken-stays others c.place.result c.loop-one.taken.items c.take_partner-partner.new.taken.items partner is none in
    record {
      extends = Extends-then _ _ _ _ before f;
      nodes = omega (arith, c.loop-one.invariant.nodes, c.in_ok-target.ensures.nodes);
      gates = omega (arith, c.loop-one.invariant.gates, c.in_ok-target.ensures.gates);
      targets =
          All-kept (IsTarget c.chosen_target.new.graph) c.loop-one.list.items c.push_live.new.list.items c.in_ok-target.target _ c.in_ok-push_live.ensures.list
          (λ k d h. IsTarget-later f _ (c.loop-one.invariant.targets k d h)) c.in_ok-target.ensures.target;
      sums = λ ins fit.
          let now = Extends-inputs before ins fit in
          let p = partner_aim (aim g0 ins) one partner in
          let more = partner-sum (aim g0 ins) others one c.place.result c.loop-one.taken.items c.take_partner-partner.new.taken.items partner is none in
          ones-step (worth g0 ins c.args.c == 1) (aims g0 ins ones) (aims g0 ins others) c.loop-one.one-index (aim g0 ins no_target)
          c.loop-one.taken.items c.take_partner-partner.new.taken.items _ _ (aim c.chosen_target.new.graph ins c.in_ok-target.target) p
          (rw (length-map ones (aim g0 ins)) c.loop-one-test.true)
          (c.loop-one.invariant.sums ins fit)
          (c.in_ok-target.ensures.value ins now
          ∙ chosen-aims {A = Aim} _ _ _ _ _ _ (worth-later before ins c.args.c c.requires.condition.within) (aim-later before ins one target) (partner-later before ins one partner target stand)
          ∙ ap (λ (a : Aim). if worth g0 ins c.args.c == 1 then a else p) (sym (get_or-map (aim g0 ins) ones c.loop-one.one-index no_target)))
          more.0 more.1
          (aims-kept f ins c.loop-one.list.items c.push_live.new.list.items c.in_ok-target.target (Extends-inputs f ins now) c.loop-one.invariant.targets c.in_ok-push_live.ensures.list);
      placed =
          ones-placed ones others c.loop-one.one-index no_target c.loop-one.taken.items c.take_partner-partner.new.taken.items c.loop-one.list.items c.push_live.new.list.items c.in_ok-target.target _
          c.loop-one-test.true c.loop-one.invariant.placed c.in_ok-target.ensures.place stays (rw c.place.ensures at c.take_partner-partner.ensures.all) c.in_ok-push_live.ensures.list;
    }

pub returns-clause-there : goal.returns-clause-there
returns-clause-there c = λ ins fit.
    let g0 = c.args.graph.now in
    let all : take c.loop-one.one-index (aims g0 ins c.args.ones.now) ≡ aims g0 ins c.args.ones.now = take_all c.loop-one.one-index _ (rw (length-map c.args.ones.now (aim g0 ins)) c.loop-one-test.false) in
    rw all at ((c.loop-one.invariant.sums ins fit).there)

pub returns-clause-places : goal.returns-clause-places
returns-clause-places c =
    let all : take c.loop-one.one-index c.args.ones.now ≡ c.args.ones.now = take_all c.loop-one.one-index _ c.loop-one-test.false in
    rw all at c.loop-one.invariant.placed.places
