use Rattle.std.proofs.Common.{List, inl, inr, sym, ap, ◌∙◌, subst}
use Rattle.std.specs.List.{All}
use Rattle.std.proofs.lemmas.Result.{IfOk-weaker}
use Rattle.word_graph.proofs.RunLaws.{value-constant}
use Rattle.word_nodes.specs.Nodes.{worth}
use Rattle.c_place.specs.declared.targets.Target.{Target}
use Rattle.c_place.specs.Aims.{IsPlacedIn, aims, aimed_at}
use Rattle.c_place.proofs.ChoiceLaws.{chosen-first, chosen-second, places-own}
use Rattle.c_place.proofs.choosing.choose.Goals as goal

pub returns-in-Some-eq1-clause-value : goal.returns-in-Some-eq1-clause-value
returns-in-Some-eq1-clause-value c =
    let g = c.args.graph.now in
    IfOk-weaker c.copy.result _ _
    (λ r e ins fit.
    ap (λ (ts : List Target). aimed_at (aims g ins ts)) e
    ∙ sym (chosen-first (worth g ins c.args.c) _ _ (value-constant g ins c.entries-entries.ensures.graph c.args.c.index _ (sym c.constant_of.ensures ∙ c.in-Some-eq1.is) ∙ c.in-Some-eq1.field-0-test)))
    c.copy.ensures.list

pub returns-in-Some-eq1-clause-places : goal.returns-in-Some-eq1-clause-places
returns-in-Some-eq1-clause-places c =
    IfOk-weaker c.copy.result _ _
    (λ r e. subst (λ (ts : List Target). All (IsPlacedIn c.args.a.now.list.items c.args.b.now.list.items) ts) (sym e) (λ k t h. inl (places-own c.args.a.now.list.items k t h)))
    c.copy.ensures.list

pub returns-in-Some-clause-value : goal.returns-in-Some-clause-value
returns-in-Some-clause-value c =
    let g = c.args.graph.now in
    IfOk-weaker c.copy-in-Some.result _ _
    (λ r e ins fit.
    ap (λ (ts : List Target). aimed_at (aims g ins ts)) e
    ∙ sym (chosen-second (worth g ins c.args.c) _ _ (λ one. c.in-Some.field-0-test.1 (sym (value-constant g ins c.entries-entries.ensures.graph c.args.c.index _ (sym c.constant_of.ensures ∙ c.in-Some.is)) ∙ one))))
    c.copy-in-Some.ensures.list

pub returns-in-Some-clause-places : goal.returns-in-Some-clause-places
returns-in-Some-clause-places c =
    IfOk-weaker c.copy-in-Some.result _ _
    (λ r e. subst (λ (ts : List Target). All (IsPlacedIn c.args.a.now.list.items c.args.b.now.list.items) ts) (sym e) (λ k t h. inr (places-own c.args.b.now.list.items k t h)))
    c.copy-in-Some.ensures.list
