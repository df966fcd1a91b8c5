use Rattle.std.proofs.Common.{◌≡◌, ℕ, List, [], ◌∷◌, ◌++◌, ◌<◌, ◌^◌, length, map, take, get_or, sym, ap, ◌∙◌, add-one, arith}
use Rattle.std.proofs.Math.Seq.{take-suc}
use Rattle.std.proofs.lemmas.List.{take_all, map-append}
use Rattle.std.proofs.lemmas.List.Elements.{All-push}
use Rattle.hy_bits.specs.declared.width.Width.TheVariants.{W1, W64}
use Rattle.word_nodes.specs.Nodes.{worth}
use Rattle.word_nodes.proofs.NodeLaws.{Extends-then, Extends-inputs, Extends-inputs_before, Stands-later, worth-later, worth-word}
use Rattle.c_place.specs.declared.targets.Target.{Target}
use Rattle.c_place.specs.declared.targets.Place.{Place}
use Rattle.c_place.specs.Aims.{Aim, IsTarget, aim, aims, aimed_at, aims_there, place_of, places_of}
use Rattle.c_place.proofs.TargetLaws.{no_target, IsTarget-later, All-aims}
use Rattle.c_place.proofs.BoardLaws.{aims-later}
use Rattle.c_place.proofs.ChoiceLaws.{seen-same}
use Rattle.c_place.proofs.TableLaws.{places-suc}
use Rattle.exec_expressions.specs.Pointers.{moved_aim, moved_word}
use Rattle.exec_expressions.proofs.PointerSums.{there-moved, aimed-moved}
use Rattle.exec_expressions.proofs.pointers.move_pointer.Goals as goal

pub loop-target-preserved : goal.loop-target-preserved
loop-target-preserved c =
    let same = c.deref-target-items.ensures.value in
    let k = c.loop-target.target-index in
    let g0 = c.args.graph.now in
    let new = c.moved_index.new.graph in
    let way = c.args.direction in
    let ts = c.args.from.now.list.items in
    let within : k < length ts = rw same at c.loop-target-test.true in
    let t = get_or ts k no_target in
    let target = c.requires.from.targets k no_target within in
    let before = c.loop-target.invariant.extends in
    let f = c.in_ok-index.ensures.extends in
    let u : Target = record { guard = t.guard; object = t.object; first = t.first; size = t.size; length = t.length; index = c.in_ok-index.index } in
    let list = c.loop-target.list.items in
    record {
      extends = Extends-then _ _ _ _ before f;
      nodes = omega (arith, c.loop-target.invariant.nodes, c.in_ok-index.ensures.nodes);
      gates = omega (arith, c.loop-target.invariant.gates, c.in_ok-index.ensures.gates);
      targets =
          rw (c.in_ok-push.ensures.items, same)
          (All-push (IsTarget new) list u (λ j d h. IsTarget-later f _ (c.loop-target.invariant.targets j d h))
          (record { guard = Stands-later f W1 _ (Stands-later before W1 _ target.guard); index = c.in_ok-index.ensures.stands }));
      value = λ ins fit.
          let w = worth g0 ins c.args.by in
          let now = Extends-inputs before ins fit in
          let made = rw same at (c.in_ok-index.ensures.value ins now) in
          let moved : aim new ins u ≡ moved_aim way w (aim g0 ins t) =
          seen-same (place_of t) _ _ _ _
          (worth-later f ins t.guard (Stands-later before W1 t.guard target.guard).within ∙ worth-later before ins t.guard target.guard.within)
          (made
          ∙ ap (λ (n : ℕ). moved_word way n (worth c.loop-target.graph ins c.args.by)) (worth-later before ins t.index target.index.within)
          ∙ ap (λ (n : ℕ). moved_word way (worth g0 ins t.index) n) (worth-later before ins c.args.by c.requires.by.within)) in
          rw (c.in_ok-push.ensures.items, same)
          (map-append (aim new ins) list (u ∷ [])
          ∙ ap (λ (xs : List Aim). xs ++ aim new ins u ∷ []) (aims-later f ins list c.loop-target.invariant.targets ∙ c.loop-target.invariant.value ins fit)
          ∙ ap (λ (a : Aim). map (moved_aim way w) (aims g0 ins (take k ts)) ++ a ∷ []) moved
          ∙ sym
          (ap (λ (j : ℕ). map (moved_aim way w) (aims g0 ins (take j ts))) (add-one k)
          ∙ ap (map (moved_aim way w)) (ap (map (aim g0 ins)) (take-suc ts k no_target within) ∙ map-append (aim g0 ins) (take k ts) (t ∷ []))
          ∙ map-append (moved_aim way w) (aims g0 ins (take k ts)) (aim g0 ins t ∷ [])));
      places =
          rw (c.in_ok-push.ensures.items, same)
          (map-append place_of list (u ∷ [])
          ∙ ap (λ (ps : List Place). ps ++ place_of t ∷ []) c.loop-target.invariant.places
          ∙ sym (ap (λ (j : ℕ). places_of (take j ts)) (add-one k) ∙ places-suc ts k no_target within));
    }

pub returns-in_err-index-clause-extends : goal.returns-in_err-index-clause-extends
returns-in_err-index-clause-extends c = Extends-then _ _ _ _ c.loop-target.invariant.extends c.in_err-index.ensures.extends

pub returns-in_err-push-clause-extends : goal.returns-in_err-push-clause-extends
returns-in_err-push-clause-extends c = Extends-then _ _ _ _ c.loop-target.invariant.extends c.in_ok-index.ensures.extends

pub returns-clause-pointer : goal.returns-clause-pointer
returns-clause-pointer c =
    let g0 = c.args.graph.now in
    let ts = c.args.from.now.list.items in
    let all : take c.loop-target.target-index ts ≡ ts = take_all c.loop-target.target-index ts (rw c.deref-target-items.ensures.value at c.loop-target-test.false) in
    let f = c.loop-target.invariant.extends in
    record {
      null = Stands-later f W1 _ c.requires.from.null;
      targets = c.loop-target.invariant.targets;
      one = λ ins fit.
          let before = Extends-inputs_before f ins fit in
          let way = c.args.direction in
          let w = worth g0 ins c.args.by in
          let there : aims_there (aims c.loop-target.graph ins c.loop-target.list.items) ≡ aims_there (aims g0 ins ts) =
          ap aims_there (c.loop-target.invariant.value ins before ∙ ap (λ (us : List Target). map (moved_aim way w) (aims g0 ins us)) all) ∙ there-moved way w (aims g0 ins ts) in
          let null = worth-later f ins c.args.from.now.null c.requires.from.null.within in
          rw (null, there) (c.requires.from.one ins before);
    }

pub returns-clause-value : goal.returns-clause-value
returns-clause-value c = λ ins fit.
    let g0 = c.args.graph.now in
    let ts = c.args.from.now.list.items in
    let way = c.args.direction in
    let w = worth g0 ins c.args.by in
    let all : take c.loop-target.target-index ts ≡ ts = take_all c.loop-target.target-index ts (rw c.deref-target-items.ensures.value at c.loop-target-test.false) in
    ap aimed_at (c.loop-target.invariant.value ins fit ∙ ap (λ (us : List Target). map (moved_aim way w) (aims g0 ins us)) all)
    ∙ aimed-moved way w (aims g0 ins ts)
    (All-aims (aim g0 ins) (λ (a : Aim). a.index < 2 ^ 64) ts (λ k d h. worth-word g0 ins W64 _ c.entries-entries.ensures.graph fit (c.requires.from.targets k d h).index))
