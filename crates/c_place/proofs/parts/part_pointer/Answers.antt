use Rattle.std.proofs.Common.{◌≡◌, ◌+◌, ◌^◌, ◌<◌, ◌≤◌, ℕ, Some, length, take, get_or, suc, refl, sym, ap, ◌∙◌, subst, inl, inr, add-one, arith}
use Rattle.std.specs.List.{Contains}
use Rattle.std.proofs.Math.ListN.{get_or-map}
use Rattle.std.proofs.lemmas.List.{take_all, length-map}
use Rattle.std.proofs.lemmas.List.Elements.{Contains-get_or}
use Rattle.hy_bits.specs.Bits.{bit}
use Rattle.hy_bits.specs.declared.width.Width.TheVariants.{W64}
use Rattle.word_nodes.proofs.NodeLaws.{Extends-then, Extends-inputs, Extends-inputs_before, Stands-later, worth-later}
use Rattle.c_place.specs.declared.targets.Target.{Target}
use Rattle.c_place.specs.Aims.{Aim, aim, aims, aimed_at, aims_there, is_hit, pointer_of}
use Rattle.c_place.specs.Parts.{hits_there, part_aim, part_of}
use Rattle.c_place.proofs.TargetLaws.{no_target, IsTarget-later, aim-later, reach-suc, reach-take, All-suc, All-aims}
use Rattle.c_place.proofs.BoardLaws.{aims-later}
use Rattle.c_place.proofs.ChoiceLaws.{All-member}
use Rattle.c_place.proofs.PartLaws.{hits-suc, hits-few, part-pointer, part-whole}
use Rattle.c_place.proofs.parts.part_pointer.Goals as goal

pub loop-target-init : goal.loop-target-init
loop-target-init c =
    let empty = c.new-list.ensures.items in
    record {
      extends = c.in_ok-origin.ensures.extends c.args.region;
      nodes = omega (arith, c.in_ok-origin.ensures.nodes);
      gates = omega (arith, c.in_ok-origin.ensures.gates);
      targets = rw empty (λ k d h. absurd (omega arith));
      origin = c.in_ok-origin.ensures.stands;
      zero = λ ins fit. c.in_ok-origin.ensures.value ins (Extends-inputs_before (c.in_ok-origin.ensures.extends 0) ins fit);
      there = λ ins fit. rw empty refl;
      among = λ ins fit. rw empty (λ k d h. absurd (omega arith));
      lies = λ layout h. rw empty (λ k d j. absurd (omega arith));
      few = rw empty (omega arith);
      short = λ k d h. absurd (omega arith);
    }

pub push_parts-requires-clause-target : goal.push_parts-requires-clause-target
push_parts-requires-clause-target c =
    let within = rw c.deref-target-items.ensures.value at c.loop-target-test.true in
    rw c.deref-target-items.ensures.value (IsTarget-later c.loop-target.invariant.extends _ (c.requires.from.targets c.loop-target.target-index no_target within))

pub returns-in_err-push_parts-clause-extends : goal.returns-in_err-push_parts-clause-extends
returns-in_err-push_parts-clause-extends c = Extends-then _ _ _ _ c.loop-target.invariant.extends c.in_err-push_parts.ensures.extends

pub returns-in_err-push_parts-clause-nodes : goal.returns-in_err-push_parts-clause-nodes
returns-in_err-push_parts-clause-nodes c =
    let ts = c.args.from.now.list.items in
    let within = rw c.deref-target-items.ensures.value at c.loop-target-test.true in
    let made = rw c.deref-target-items.ensures.value at c.in_err-push_parts.ensures.nodes in
    omega (arith, made, c.loop-target.invariant.nodes, reach-suc 0 ts c.loop-target.target-index no_target within, reach-take 0 ts (suc c.loop-target.target-index))

pub returns-in_err-push_parts-clause-gates : goal.returns-in_err-push_parts-clause-gates
returns-in_err-push_parts-clause-gates c =
    let ts = c.args.from.now.list.items in
    let within = rw c.deref-target-items.ensures.value at c.loop-target-test.true in
    let made = rw c.deref-target-items.ensures.value at c.in_err-push_parts.ensures.gates in
    omega (arith, made, c.loop-target.invariant.gates, reach-suc 0 ts c.loop-target.target-index no_target within, reach-take 0 ts (suc c.loop-target.target-index))

pub loop-target-preserved : goal.loop-target-preserved
loop-target-preserved c =
    let same = c.deref-target-items.ensures.value in
    let k = c.loop-target.target-index in
    let ts = c.args.from.now.list.items in
    let g0 = c.args.graph.now in
    let lg = c.loop-target.graph in
    let part = c.args.part in
    let within : k < length ts = rw same at c.loop-target-test.true in
    let t = get_or ts k no_target in
    let target = c.requires.from.targets k no_target within in
    let before = c.loop-target.invariant.extends in
    let f = c.in_ok-push_parts.ensures.extends in
    let nodes = rw same at c.in_ok-push_parts.ensures.nodes in
    let gates = rw same at c.in_ok-push_parts.ensures.gates in
    let range = rw same at c.in_ok-push_parts.ensures.range in
    let more = reach-suc 0 ts k no_target within in
    record {
      extends = Extends-then _ _ _ _ before f;
      nodes = rw (add-one k) (omega (arith, nodes, c.loop-target.invariant.nodes, more));
      gates = rw (add-one k) (omega (arith, gates, c.loop-target.invariant.gates, more));
      targets = c.in_ok-push_parts.ensures.targets;
      origin = Stands-later f W64 _ c.loop-target.invariant.origin;
      zero = λ ins fit. worth-later f ins c.in_ok-origin.origin c.loop-target.invariant.origin.within ∙ c.loop-target.invariant.zero ins (Extends-inputs_before f ins fit);
      there = λ ins fit.
          let now = Extends-inputs before ins fit in
          let all = aims g0 ins ts in
          let made = rw same at (c.in_ok-push_parts.ensures.there ins now) in
          rw (add-one k)
          (made
          ∙ ap (λ (n : ℕ). n + bit (is_hit (aim lg ins t))) (c.loop-target.invariant.there ins fit)
          ∙ ap (λ (a : Aim). hits_there (take k all) + bit (is_hit a)) (aim-later before ins t target ∙ sym (get_or-map (aim g0 ins) ts k no_target))
          ∙ sym (hits-suc all k (aim g0 ins no_target) (rw (length-map ts (aim g0 ins)) within)));
      among = λ ins fit j x l g.
          let now = Extends-inputs before ins fit in
          let all = aims g0 ins ts in
          let later = aim-later before ins t target in
          let made = rw same at (c.in_ok-push_parts.ensures.among ins now) in
          let here : Contains all (aim g0 ins t) = subst (λ (a : Aim). Contains all a) (get_or-map (aim g0 ins) ts k no_target) (Contains-get_or all k (aim g0 ins no_target) (rw (length-map ts (aim g0 ins)) within)) in
          elim (made j x l g) [
            | inl old ↦ All-member (λ (y : Aim). y.guard ≡ 1 → Some (pointer_of y) ≡ part_of part.offset part.size part.count (aimed_at all)) (aims lg ins c.loop-target.list.items) _ (c.loop-target.invariant.among ins fit) old g
            | inr p ↦
                ap (λ (y : Aim). Some (pointer_of y)) (p.1 ∙ ap (λ (a : Aim). part_aim part.offset part.size part.count a) later)
                ∙ part-pointer all (aim g0 ins t) part.offset part.size part.count (omega (arith, c.requires.from.one ins fit)) here (omega (arith, range)) (omega (arith, c.requires.within k no_target within)) (c.requires.cells k no_target within)
                (ap is_hit (sym later) ∙ p.0)
          ];
      lies = λ layout h. (rw same at c.in_ok-push_parts.ensures.lies) layout (h k no_target within) (c.loop-target.invariant.lies layout h);
      few =
          let few = rw same at c.in_ok-push_parts.ensures.few in
          rw (add-one k) (omega (arith, few, c.loop-target.invariant.few, more));
      short = rw (add-one k) (All-suc (λ (t : Target). t.length ≤ 2 ^ 63) ts k no_target c.loop-target.invariant.short within (omega (arith, range)));
    }

pub returns-in_err-null-clause-extends : goal.returns-in_err-null-clause-extends
returns-in_err-null-clause-extends c = Extends-then _ _ _ _ c.loop-target.invariant.extends c.in_err-null.ensures.extends

pub returns-clause-pointer : goal.returns-clause-pointer
returns-clause-pointer c =
    let ts = c.args.from.now.list.items in
    let g0 = c.args.graph.now in
    let lg = c.loop-target.graph in
    let list = c.loop-target.list.items in
    let f = c.in_ok-null.ensures.extends in
    let whole = Extends-then _ _ _ _ c.loop-target.invariant.extends f in
    record {
      null = c.in_ok-null.ensures.stands;
      targets = λ k d h. IsTarget-later f _ (c.loop-target.invariant.targets k d h);
      one = λ ins fit.
          let before = Extends-inputs_before whole ins fit in
          let mid = Extends-inputs_before f ins fit in
          let all : take c.loop-target.target-index (aims g0 ins ts) ≡ aims g0 ins ts = take_all c.loop-target.target-index _ (rw (length-map ts (aim g0 ins)) (rw c.deref-target-items.ensures.value at c.loop-target-test.false)) in
          let there = rw all at (c.loop-target.invariant.there ins before) in
          let few : aims_there (aims lg ins list) ≤ 1 = omega (arith, there, hits-few (aims g0 ins ts), c.requires.from.one ins before) in
          rw (aims-later f ins list c.loop-target.invariant.targets) ((rw c.deref.ensures.value at c.in_ok-null.ensures.value) ins mid few);
    }

pub returns-clause-value : goal.returns-clause-value
returns-clause-value c = λ ins fit.
    let ts = c.args.from.now.list.items in
    let g0 = c.args.graph.now in
    let list = c.loop-target.list.items in
    let all : take c.loop-target.target-index (aims g0 ins ts) ≡ aims g0 ins ts = take_all c.loop-target.target-index _ (rw (length-map ts (aim g0 ins)) (rw c.deref-target-items.ensures.value at c.loop-target-test.false)) in
    let ends : take c.loop-target.target-index ts ≡ ts = take_all c.loop-target.target-index ts (rw c.deref-target-items.ensures.value at c.loop-target-test.false) in
    ap aimed_at (aims-later c.in_ok-null.ensures.extends ins list c.loop-target.invariant.targets)
    ∙ part-whole (aims g0 ins ts) (aims c.loop-target.graph ins list) c.args.part.offset c.args.part.size c.args.part.count
    (omega (arith, c.requires.from.one ins fit))
    (All-aims (aim g0 ins) (λ (a : Aim). a.length ≤ 2 ^ 63) ts (rw ends at c.loop-target.invariant.short))
    (rw all at (c.loop-target.invariant.there ins fit))
    (c.loop-target.invariant.among ins fit)

pub returns-clause-extends : goal.returns-clause-extends
returns-clause-extends c = Extends-then _ _ _ _ c.loop-target.invariant.extends c.in_ok-null.ensures.extends
