use Rattle.hy_bits.specs.declared.width.Width.TheVariants.{W1}
use Rattle.word_nodes.proofs.NodeLaws.{Extends-then, Extends-inputs_before, Stands-later}
use Rattle.c_place.proofs.TargetLaws.{IsTarget-later}
use Rattle.c_place.proofs.ChoiceLaws.{chosen-of, placed-through}
use Rattle.c_place.proofs.choosing.select_targets.Goals as goal

pub returns-in_err-otherwise-clause-extends : goal.returns-in_err-otherwise-clause-extends
returns-in_err-otherwise-clause-extends c = Extends-then _ _ _ _ c.in_ok-null.ensures.extends c.in_err-otherwise.ensures.extends

pub choose_ones-requires-clause-first : goal.choose_ones-requires-clause-first
choose_ones-requires-clause-first c =
    let f = Extends-then _ _ _ _ c.in_ok-null.ensures.extends c.in_ok-otherwise.ensures.extends in
    rw c.deref.ensures.value (λ k d h. IsTarget-later f _ (c.requires.first.targets k d h))

pub choose_ones-requires-clause-second : goal.choose_ones-requires-clause-second
choose_ones-requires-clause-second c =
    let f = Extends-then _ _ _ _ c.in_ok-null.ensures.extends c.in_ok-otherwise.ensures.extends in
    rw c.deref-2.ensures.value (λ k d h. IsTarget-later f _ (c.requires.second.targets k d h))

pub returns-in_err-list-clause-extends : goal.returns-in_err-list-clause-extends
returns-in_err-list-clause-extends c =
    Extends-then _ _ _ _ (Extends-then _ _ _ _ c.in_ok-null.ensures.extends c.in_ok-otherwise.ensures.extends) c.in_err-list.ensures.extends

pub choose_others-requires-clause-targets : goal.choose_others-requires-clause-targets
choose_others-requires-clause-targets c =
    let f = Extends-then _ _ _ _ (Extends-then _ _ _ _ c.in_ok-null.ensures.extends c.in_ok-otherwise.ensures.extends) c.in_ok-list.ensures.extends in
    rw c.deref-3.ensures.value (λ k d h. IsTarget-later f _ (c.requires.second.targets k d h))

pub returns-in_err-choose_others-clause-extends : goal.returns-in_err-choose_others-clause-extends
returns-in_err-choose_others-clause-extends c =
    Extends-then _ _ _ _ (Extends-then _ _ _ _ (Extends-then _ _ _ _ c.in_ok-null.ensures.extends c.in_ok-otherwise.ensures.extends) c.in_ok-list.ensures.extends) c.in_err-choose_others.ensures.extends

pub returns-clause-pointer : goal.returns-clause-pointer
returns-clause-pointer c =
    let a = c.args.a.now in
    let b = c.args.b.now in
    let f1 = c.in_ok-null.ensures.extends in
    let f2 = c.in_ok-otherwise.ensures.extends in
    let f3 = c.in_ok-list.ensures.extends in
    let f4 = c.in_ok-choose_others.ensures.extends in
    let all = Extends-then _ _ _ _ (Extends-then _ _ _ _ (Extends-then _ _ _ _ f1 f2) f3) f4 in
    record {
      null = Stands-later f4 W1 _ (Stands-later f3 W1 _ (Stands-later f2 W1 _ c.in_ok-null.ensures.stands));
      targets = c.in_ok-choose_others.ensures.targets;
      one = λ ins fit.
          (chosen-of f1 f2 f3 f4 c.entries-entries.ensures.graph c.args.c c.in_ok-null.null c.in_ok-otherwise.otherwise a b c.in_ok-list.list.items c.choose_others.new.list.items c.in_ok-list.taken.items
          c.requires.first c.requires.second c.requires.condition c.in_ok-null.ensures.stands c.in_ok-otherwise.ensures.stands c.in_ok-null.ensures.value c.in_ok-otherwise.ensures.value
          (rw c.deref-2.ensures.value at c.in_ok-list.ensures.count)
          (rw (c.deref.ensures.value, c.deref-2.ensures.value) at c.in_ok-list.ensures.there)
          (rw (c.deref.ensures.value, c.deref-2.ensures.value) at c.in_ok-list.ensures.among)
          (rw (c.deref-3.ensures.value, c.deref-4.ensures.value) at c.in_ok-choose_others.ensures.there)
          (rw c.deref-3.ensures.value at c.in_ok-choose_others.ensures.among)
          ins (Extends-inputs_before all ins fit)).0;
    }

pub returns-clause-value : goal.returns-clause-value
returns-clause-value c = λ ins fit.
    let a = c.args.a.now in
    let b = c.args.b.now in
    (chosen-of c.in_ok-null.ensures.extends c.in_ok-otherwise.ensures.extends c.in_ok-list.ensures.extends c.in_ok-choose_others.ensures.extends
    c.entries-entries.ensures.graph c.args.c c.in_ok-null.null c.in_ok-otherwise.otherwise a b c.in_ok-list.list.items c.choose_others.new.list.items c.in_ok-list.taken.items
    c.requires.first c.requires.second c.requires.condition c.in_ok-null.ensures.stands c.in_ok-otherwise.ensures.stands c.in_ok-null.ensures.value c.in_ok-otherwise.ensures.value
    (rw c.deref-2.ensures.value at c.in_ok-list.ensures.count)
    (rw (c.deref.ensures.value, c.deref-2.ensures.value) at c.in_ok-list.ensures.there)
    (rw (c.deref.ensures.value, c.deref-2.ensures.value) at c.in_ok-list.ensures.among)
    (rw (c.deref-3.ensures.value, c.deref-4.ensures.value) at c.in_ok-choose_others.ensures.there)
    (rw c.deref-3.ensures.value at c.in_ok-choose_others.ensures.among)
    ins fit).1

pub returns-clause-places : goal.returns-clause-places
returns-clause-places c =
    placed-through c.args.a.now.list.items c.args.b.now.list.items c.in_ok-list.list.items c.choose_others.new.list.items
    (rw c.deref.ensures.value at c.in_ok-list.ensures.places)
    (rw c.deref-3.ensures.value at c.in_ok-choose_others.ensures.places)

pub returns-clause-extends : goal.returns-clause-extends
returns-clause-extends c =
    Extends-then _ _ _ _ (Extends-then _ _ _ _ (Extends-then _ _ _ _ c.in_ok-null.ensures.extends c.in_ok-otherwise.ensures.extends) c.in_ok-list.ensures.extends) c.in_ok-choose_others.ensures.extends
