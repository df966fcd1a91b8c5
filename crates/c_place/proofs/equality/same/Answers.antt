use Rattle.std.proofs.Common.{ℕ, List, ◌<◌, ◌≤◌, ◌^◌, get_or, ap, ◌∙◌, arith}
use Rattle.std.specs.List.{All}
use Rattle.std.proofs.lemmas.Result.{IfOk-weaker}
use Rattle.hy_bits.specs.declared.width.Width.TheVariants.{W1, W32, W64}
use Rattle.word_nodes.specs.Nodes.{worth}
use Rattle.word_nodes.proofs.NodeLaws.{Extends-then, Extends-inputs, Stands-later, worth-later, worth-word}
use Rattle.c_place.specs.declared.targets.Target.{Target}
use Rattle.c_place.specs.Aims.{IsTarget, aims_there, Aim, aim, aims, coded_object, coded_cell}
use Rattle.c_place.proofs.TargetLaws.{IsTarget-later, All-aims}
use Rattle.c_place.proofs.BoardLaws.{aims-later}
use Rattle.c_place.proofs.SameLaws.{object-aimed, cell-aimed, alike, bit-same, product-same}
use Rattle.c_place.proofs.equality.same.Goals as goal

pub returns-in_err-origin-clause-extends : goal.returns-in_err-origin-clause-extends
returns-in_err-origin-clause-extends c = Extends-then _ _ _ _ (c.in_ok-zero.ensures.extends _) (c.in_err-origin.ensures.extends _)

pub codes-requires-clause-targets : goal.codes-requires-clause-targets
codes-requires-clause-targets c = λ k d h. IsTarget-later (Extends-then _ _ _ _ (c.in_ok-zero.ensures.extends c.args.region) (c.in_ok-origin.ensures.extends c.args.region)) _ (c.requires.first.targets k d h)

pub codes-requires-clause-zero : goal.codes-requires-clause-zero
codes-requires-clause-zero c = Stands-later (c.in_ok-origin.ensures.extends 0) W32 _ c.in_ok-zero.ensures.stands

pub codes-requires-2-clause-targets : goal.codes-requires-2-clause-targets
codes-requires-2-clause-targets c = λ k d h. IsTarget-later (Extends-then _ _ _ _ (Extends-then _ _ _ _ (c.in_ok-zero.ensures.extends c.args.region) (c.in_ok-origin.ensures.extends c.args.region)) c.in_ok-object.ensures.extends) _ (c.requires.second.targets k d h)

pub codes-requires-2-clause-zero : goal.codes-requires-2-clause-zero
codes-requires-2-clause-zero c = Stands-later c.in_ok-object.ensures.extends W32 _ (Stands-later (c.in_ok-origin.ensures.extends 0) W32 _ c.in_ok-zero.ensures.stands)

pub codes-requires-2-clause-origin : goal.codes-requires-2-clause-origin
codes-requires-2-clause-origin c = Stands-later c.in_ok-object.ensures.extends W64 _ c.in_ok-origin.ensures.stands

pub equality-requires-clause-first : goal.equality-requires-clause-first
equality-requires-clause-first c = Stands-later (Extends-then _ _ _ _ (Extends-then _ _ _ _ (Extends-then _ _ _ _ (c.in_ok-zero.ensures.extends c.args.region) (c.in_ok-origin.ensures.extends c.args.region)) c.in_ok-object.ensures.extends) c.in_ok-other.ensures.extends) W1 _ c.requires.first.null

pub equality-requires-clause-second : goal.equality-requires-clause-second
equality-requires-clause-second c = Stands-later (Extends-then _ _ _ _ (Extends-then _ _ _ _ (Extends-then _ _ _ _ (c.in_ok-zero.ensures.extends c.args.region) (c.in_ok-origin.ensures.extends c.args.region)) c.in_ok-object.ensures.extends) c.in_ok-other.ensures.extends) W1 _ c.requires.second.null

pub returns-in_err-object-clause-extends : goal.returns-in_err-object-clause-extends
returns-in_err-object-clause-extends c = (Extends-then _ _ _ _ (Extends-then _ _ _ _ (c.in_ok-zero.ensures.extends c.args.region) (c.in_ok-origin.ensures.extends c.args.region)) c.in_err-object.ensures.extends)

pub returns-in_err-other-clause-extends : goal.returns-in_err-other-clause-extends
returns-in_err-other-clause-extends c = (Extends-then _ _ _ _ (Extends-then _ _ _ _ (Extends-then _ _ _ _ (c.in_ok-zero.ensures.extends c.args.region) (c.in_ok-origin.ensures.extends c.args.region)) c.in_ok-object.ensures.extends) c.in_err-other.ensures.extends)

pub returns-in_err-alike-clause-extends : goal.returns-in_err-alike-clause-extends
returns-in_err-alike-clause-extends c = (Extends-then _ _ _ _ (Extends-then _ _ _ _ (Extends-then _ _ _ _ (Extends-then _ _ _ _ (c.in_ok-zero.ensures.extends c.args.region) (c.in_ok-origin.ensures.extends c.args.region)) c.in_ok-object.ensures.extends) c.in_ok-other.ensures.extends) c.in_err-alike.ensures.extends)

pub returns-in_err-objects-clause-extends : goal.returns-in_err-objects-clause-extends
returns-in_err-objects-clause-extends c = (Extends-then _ _ _ _ (Extends-then _ _ _ _ (Extends-then _ _ _ _ (Extends-then _ _ _ _ (Extends-then _ _ _ _ (c.in_ok-zero.ensures.extends c.args.region) (c.in_ok-origin.ensures.extends c.args.region)) c.in_ok-object.ensures.extends) c.in_ok-other.ensures.extends) c.in_ok-alike.ensures.extends) c.in_err-objects.ensures.extends)

pub returns-in_err-cells-clause-extends : goal.returns-in_err-cells-clause-extends
returns-in_err-cells-clause-extends c = (Extends-then _ _ _ _ (Extends-then _ _ _ _ (Extends-then _ _ _ _ (Extends-then _ _ _ _ (Extends-then _ _ _ _ (Extends-then _ _ _ _ (c.in_ok-zero.ensures.extends c.args.region) (c.in_ok-origin.ensures.extends c.args.region)) c.in_ok-object.ensures.extends) c.in_ok-other.ensures.extends) c.in_ok-alike.ensures.extends) c.in_ok-objects.ensures.extends) c.in_err-cells.ensures.extends)

pub returns-in_err-both-clause-extends : goal.returns-in_err-both-clause-extends
returns-in_err-both-clause-extends c = (Extends-then _ _ _ _ (Extends-then _ _ _ _ (Extends-then _ _ _ _ (Extends-then _ _ _ _ (Extends-then _ _ _ _ (Extends-then _ _ _ _ (Extends-then _ _ _ _ (c.in_ok-zero.ensures.extends c.args.region) (c.in_ok-origin.ensures.extends c.args.region)) c.in_ok-object.ensures.extends) c.in_ok-other.ensures.extends) c.in_ok-alike.ensures.extends) c.in_ok-objects.ensures.extends) c.in_ok-cells.ensures.extends) c.in_err-both.ensures.extends)

pub returns-clause-extends : goal.returns-clause-extends
returns-clause-extends c = (Extends-then _ _ _ _ (Extends-then _ _ _ _ (Extends-then _ _ _ _ (Extends-then _ _ _ _ (Extends-then _ _ _ _ (Extends-then _ _ _ _ (Extends-then _ _ _ _ (Extends-then _ _ _ _ (c.in_ok-zero.ensures.extends c.args.region) (c.in_ok-origin.ensures.extends c.args.region)) c.in_ok-object.ensures.extends) c.in_ok-other.ensures.extends) c.in_ok-alike.ensures.extends) c.in_ok-objects.ensures.extends) c.in_ok-cells.ensures.extends) c.in_ok-both.ensures.extends) c.conjunction-2.ensures.extends)

pub returns-clause-value : goal.returns-clause-value
returns-clause-value c =
    let f1 = c.in_ok-zero.ensures.extends c.args.region in
    let f2 = c.in_ok-origin.ensures.extends c.args.region in
    let f3 = c.in_ok-object.ensures.extends in
    let f4 = c.in_ok-other.ensures.extends in
    let f5 = c.in_ok-alike.ensures.extends in
    let f6 = c.in_ok-objects.ensures.extends in
    let f7 = c.in_ok-cells.ensures.extends in
    let f8 = c.in_ok-both.ensures.extends in
    let c2 = Extends-then _ _ _ _ f1 f2 in
    let c3 = Extends-then _ _ _ _ c2 f3 in
    let c4 = Extends-then _ _ _ _ c3 f4 in
    let c5 = Extends-then _ _ _ _ c4 f5 in
    let c6 = Extends-then _ _ _ _ c5 f6 in
    let c7 = Extends-then _ _ _ _ c6 f7 in
    let c8 = Extends-then _ _ _ _ c7 f8 in
    let f45 = Extends-then _ _ _ _ f4 f5 in
    let f678 = Extends-then _ _ _ _ (Extends-then _ _ _ _ f6 f7) f8 in
    IfOk-weaker c.conjunction-2.result _ _
    (λ n value ins fit.
    let g = c.args.graph.now in
    let as' = c.args.a.now.list.items in
    let bs = c.args.b.now.list.items in
    let words = λ (p : List Target) (stand : All (IsTarget g) p).
    All-aims (aim g ins) (λ (a : Aim). a.index < 2 ^ 64) p (λ k d h. worth-word g ins W64 (get_or p k d).index c.entries-entries.ensures.graph fit (stand k d h).index) in
    let zero2 = worth-later f2 ins c.in_ok-zero.zero c.in_ok-zero.ensures.stands.within ∙ c.in_ok-zero.ensures.value ins fit in
    let zero3 = worth-later f3 ins c.in_ok-zero.zero (Stands-later f2 W32 _ c.in_ok-zero.ensures.stands).within ∙ zero2 in
    let origin2 = c.in_ok-origin.ensures.value ins (Extends-inputs f1 ins fit) in
    let origin3 = worth-later f3 ins c.in_ok-origin.origin c.in_ok-origin.ensures.stands.within ∙ origin2 in
    let one_a : aims_there (aims g ins as') ≤ 1 = omega (arith, c.requires.first.one ins fit) in
    let one_b : aims_there (aims g ins bs) ≤ 1 = omega (arith, c.requires.second.one ins fit) in
    let object_a = c.in_ok-object.ensures.object_value ins (Extends-inputs c2 ins fit)
    ∙ ap (λ (r : ℕ). coded_object r (aims c.constant-2.new.graph ins as')) zero2 ∙ ap (coded_object 0) (aims-later c2 ins as' c.requires.first.targets) ∙ object-aimed (aims g ins as') one_a in
    let cell_a = c.in_ok-object.ensures.cell_value ins (Extends-inputs c2 ins fit)
    ∙ ap (λ (r : ℕ). coded_cell r (aims c.constant-2.new.graph ins as')) origin2 ∙ ap (coded_cell 0) (aims-later c2 ins as' c.requires.first.targets) ∙ cell-aimed (aims g ins as') one_a (words as' c.requires.first.targets) in
    let object_b = c.in_ok-other.ensures.object_value ins (Extends-inputs c3 ins fit)
    ∙ ap (λ (r : ℕ). coded_object r (aims c.codes.new.graph ins bs)) zero3 ∙ ap (coded_object 0) (aims-later c3 ins bs c.requires.second.targets) ∙ object-aimed (aims g ins bs) one_b in
    let cell_b = c.in_ok-other.ensures.cell_value ins (Extends-inputs c3 ins fit)
    ∙ ap (λ (r : ℕ). coded_cell r (aims c.codes.new.graph ins bs)) origin3 ∙ ap (coded_cell 0) (aims-later c3 ins bs c.requires.second.targets) ∙ cell-aimed (aims g ins bs) one_b (words bs c.requires.second.targets) in
    value ins (Extends-inputs c8 ins fit)
    ∙ product-same _ _ _ _
    (worth-later f678 ins c.in_ok-alike.alike c.in_ok-alike.ensures.stands.within
    ∙ c.in_ok-alike.ensures.value ins (Extends-inputs c4 ins fit)
    ∙ bit-same _ _ _ _ (worth-later c4 ins c.args.a.now.null c.requires.first.null.within) (worth-later c4 ins c.args.b.now.null c.requires.second.null.within))
    (c.in_ok-both.ensures.value ins (Extends-inputs c7 ins fit)
    ∙ product-same _ _ _ _
    (worth-later f7 ins c.in_ok-objects.objects c.in_ok-objects.ensures.stands.within
    ∙ c.in_ok-objects.ensures.value ins (Extends-inputs c5 ins fit)
    ∙ bit-same _ _ _ _ (worth-later f45 ins c.in_ok-object.object c.in_ok-object.ensures.object.within ∙ object_a) (worth-later f5 ins c.in_ok-other.other c.in_ok-other.ensures.object.within ∙ object_b))
    (c.in_ok-cells.ensures.value ins (Extends-inputs c6 ins fit)
    ∙ bit-same _ _ _ _ (worth-later (Extends-then _ _ _ _ f45 f6) ins c.in_ok-object.cell c.in_ok-object.ensures.cell.within ∙ cell_a) (worth-later (Extends-then _ _ _ _ f5 f6) ins c.in_ok-other.place c.in_ok-other.ensures.cell.within ∙ cell_b)))
    ∙ alike (worth g ins c.args.a.now.null) (worth g ins c.args.b.now.null) (aims g ins as') (aims g ins bs) (c.requires.first.one ins fit) (c.requires.second.one ins fit))
    c.conjunction-2.ensures.value
