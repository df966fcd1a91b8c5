use Rattle.std.proofs.Common.{◌≡◌, ℕ, List, [], ◌∷◌, ◌++◌, ◌^◌, ◌≤◌, length, take, map, get_or, suc, sym, ap, ◌∙◌, add-one, arith}
use Rattle.std.specs.Prelude.{IsSome}
use Rattle.std.proofs.Math.Seq.{take-suc}
use Rattle.std.proofs.lemmas.List.{take_all, map-append, length-map}
use Rattle.hy_bits.specs.declared.width.Width.{Width}
use Rattle.word_graph.specs.Shape.{constant_at}
use Rattle.word_nodes.specs.Nodes.{worth, worths}
use Rattle.word_nodes.proofs.NodeLaws.{Extends-then, Extends-inputs, worth-later, worths-later, AllStand-later, constant_at-later}
use Rattle.c_place.specs.declared.targets.Target.{Target}
use Rattle.c_place.specs.Aims.{Aim, aim}
use Rattle.c_place.specs.Boards.{objects_held, widths_at}
use Rattle.c_place.proofs.TargetLaws.{no_target, only-at, IsTarget-later, aim-later, reach-suc, reach-take, All-suc, All-aims}
use Rattle.c_place.proofs.BoardLaws.{scattered, scattered-push, scattered-where, where-same, stand-widths}
use Rattle.c_place.proofs.cells.Cells.store.Goals as goal

pub store_target-requires-clause-target : goal.store_target-requires-clause-target
store_target-requires-clause-target c =
    rw c.deref-target-items.ensures.value (IsTarget-later c.loop-target.invariant.extends _ (c.requires.pointer.targets c.loop-target.target-index no_target (rw c.deref-target-items.ensures.value at c.loop-target-test.true)))

pub store_target-requires-clause-lies : goal.store_target-requires-clause-lies
store_target-requires-clause-lies c =
    rw (c.loop-target.invariant.layout, c.deref-target-items.ensures.value) (c.requires.within c.loop-target.target-index no_target (rw c.deref-target-items.ensures.value at c.loop-target-test.true))

pub store_target-requires-clause-values : goal.store_target-requires-clause-values
store_target-requires-clause-values c =
    rw (c.deref.ensures.value, c.in_ok-widths.ensures.widths) (AllStand-later c.loop-target.invariant.extends _ _ (stand-widths c.args.graph.now c.args.values.now c.requires.stand))

pub returns-in_err-store_target-clause-extends : goal.returns-in_err-store_target-clause-extends
returns-in_err-store_target-clause-extends c = Extends-then _ _ _ _ c.loop-target.invariant.extends c.in_err-store_target.ensures.extends

pub returns-in_err-store_target-clause-nodes : goal.returns-in_err-store_target-clause-nodes
returns-in_err-store_target-clause-nodes c =
    let within = rw c.deref-target-items.ensures.value at c.loop-target-test.true in
    let count : length c.deref.result.now ≡ length c.args.values.now = ap (λ (ws : List Width). length ws) (c.deref.ensures.value ∙ c.in_ok-widths.ensures.widths) ∙ length-map c.args.values.now _ in
    let made = rw (c.deref-target-items.ensures.value, count) at c.in_err-store_target.ensures.nodes in
    omega (
      arith,
      made,
      c.loop-target.invariant.nodes,
      reach-suc (length c.args.values.now) c.args.to.now.list.items c.loop-target.target-index no_target within,
      reach-take (length c.args.values.now) c.args.to.now.list.items (suc c.loop-target.target-index),
    )

pub returns-in_err-store_target-clause-gates : goal.returns-in_err-store_target-clause-gates
returns-in_err-store_target-clause-gates c =
    let within = rw c.deref-target-items.ensures.value at c.loop-target-test.true in
    let count : length c.deref.result.now ≡ length c.args.values.now = ap (λ (ws : List Width). length ws) (c.deref.ensures.value ∙ c.in_ok-widths.ensures.widths) ∙ length-map c.args.values.now _ in
    let made = rw (c.deref-target-items.ensures.value, count) at c.in_err-store_target.ensures.gates in
    omega (
      arith,
      made,
      c.loop-target.invariant.gates,
      reach-suc (length c.args.values.now) c.args.to.now.list.items c.loop-target.target-index no_target within,
      reach-take (length c.args.values.now) c.args.to.now.list.items (suc c.loop-target.target-index),
    )

pub returns-in_err-store_target-clause-easy : goal.returns-in_err-store_target-clause-easy
returns-in_err-store_target-clause-easy c = λ e.
    let within = rw c.deref-target-items.ensures.value at c.loop-target-test.true in
    let count : length c.deref.result.now ≡ length c.args.values.now = ap (λ (ws : List Width). length ws) (c.deref.ensures.value ∙ c.in_ok-widths.ensures.widths) ∙ length-map c.args.values.now _ in
    let only = only-at c.args.to.now.list.items e.0 c.loop-target.target-index e.1 within in
    let zero : c.loop-target.target-index ≡ 0 = omega (arith, within, ap (λ (ts : List Target). length ts) e.1) in
    let target = c.requires.pointer.targets c.loop-target.target-index no_target within in
    let t = get_or c.args.to.now.list.items c.loop-target.target-index no_target in
    let known : IsSome (constant_at c.loop-target.graph t.index.index) =
    rw (constant_at-later c.args.region c.args.graph.now c.loop-target.graph c.loop-target.invariant.extends t.index.index target.index.within, only) e.4 in
    let made = (rw (c.deref-target-items.ensures.value, count) at c.in_err-store_target.ensures.easy) (ap (λ (u : Target). u.length) only ∙ e.2) known in
    let before = rw zero at (c.loop-target.invariant.easy e) in
    (omega (arith, made.0, before.0), omega (arith, made.1, before.1))

pub loop-target-preserved : goal.loop-target-preserved
loop-target-preserved c =
    let same_items = c.deref-target-items.ensures.value in
    let within = rw same_items at c.loop-target-test.true in
    let t = get_or c.args.to.now.list.items c.loop-target.target-index no_target in
    let count : length c.deref.result.now ≡ length c.args.values.now = ap (λ (ws : List Width). length ws) (c.deref.ensures.value ∙ c.in_ok-widths.ensures.widths) ∙ length-map c.args.values.now _ in
    let before = c.loop-target.invariant.extends in
    let target = c.requires.pointer.targets c.loop-target.target-index no_target within in
    record {
      extends = Extends-then _ _ _ _ before c.in_ok-store_target.ensures.extends;
      nodes =
          let made = rw (same_items, count) at c.in_ok-store_target.ensures.nodes in
          rw add-one (omega (arith, made, c.loop-target.invariant.nodes, reach-suc (length c.args.values.now) c.args.to.now.list.items c.loop-target.target-index no_target within));
      gates =
          let made = rw (same_items, count) at c.in_ok-store_target.ensures.gates in
          rw add-one (omega (arith, made, c.loop-target.invariant.gates, reach-suc (length c.args.values.now) c.args.to.now.list.items c.loop-target.target-index no_target within));
      easy = λ e.
          let only = only-at c.args.to.now.list.items e.0 c.loop-target.target-index e.1 within in
          let known : IsSome (constant_at c.loop-target.graph t.index.index) =
          rw (constant_at-later c.args.region c.args.graph.now c.loop-target.graph before t.index.index target.index.within, only) e.4 in
          let made = (rw (same_items, count) at c.in_ok-store_target.ensures.easy) (ap (λ (u : Target). u.length) only ∙ e.2) known in
          let earlier = c.loop-target.invariant.easy e in
          (omega (arith, made.0, earlier.0), omega (arith, made.1, earlier.1));
      few = rw add-one (All-suc (λ (t : Target). t.length ≤ 2 ^ 63) c.args.to.now.list.items c.loop-target.target-index no_target c.loop-target.invariant.few within (omega (arith, rw same_items at c.in_ok-store_target.ensures.range)));
      board = c.in_ok-store_target.ensures.board;
      layout = c.in_ok-store_target.ensures.layout ∙ c.loop-target.invariant.layout;
      pointers = λ k. c.in_ok-store_target.ensures.pointers k ∙ c.loop-target.invariant.pointers k;
      objects = λ ins fit.
          let ts = c.args.to.now.list.items in
          let guard = worth c.args.graph.now ins c.args.guard in
          let objects = objects_held c.args.graph.now ins c.args.self.now in
          let words = worths c.args.graph.now ins c.args.values.now in
          let more : map (aim c.args.graph.now ins) (take (suc c.loop-target.target-index) ts) ≡ map (aim c.args.graph.now ins) (take c.loop-target.target-index ts) ++ aim c.args.graph.now ins t ∷ [] =
          ap (map (aim c.args.graph.now ins)) (take-suc ts c.loop-target.target-index no_target within) ∙ map-append (aim c.args.graph.now ins) (take c.loop-target.target-index ts) (t ∷ []) in
          (rw same_items at (c.in_ok-store_target.ensures.objects ins (Extends-inputs before ins fit)))
          ∙ where-same _ _ _ _ c.args.offset _ _ _ _
          (worth-later before ins c.args.guard c.requires.guard.within)
          (c.loop-target.invariant.objects ins fit)
          (worths-later before ins (widths_at c.args.graph.now c.args.values.now) c.args.values.now (stand-widths c.args.graph.now c.args.values.now c.requires.stand))
          (aim-later before ins t target)
          ∙ sym (scattered-push guard objects c.args.offset words (map (aim c.args.graph.now ins) (take c.loop-target.target-index ts)) (aim c.args.graph.now ins t))
          ∙ ap (scattered guard objects c.args.offset words) (sym more)
          ∙ ap (λ (k : ℕ). scattered guard objects c.args.offset words (map (aim c.args.graph.now ins) (take k ts))) (sym (add-one c.loop-target.target-index));
    }

pub returns-clause-objects : goal.returns-clause-objects
returns-clause-objects c = λ ins fit.
    let all : take c.loop-target.target-index c.args.to.now.list.items ≡ c.args.to.now.list.items =
    take_all c.loop-target.target-index c.args.to.now.list.items (rw c.deref-target-items.ensures.value at c.loop-target-test.false) in
    (rw all at (c.loop-target.invariant.objects ins fit))
    ∙ scattered-where _ _ c.args.offset _ _
    (omega (arith, c.requires.pointer.one ins fit))
    (All-aims (aim c.args.graph.now ins) (λ (a : Aim). a.length ≤ 2 ^ 63) c.args.to.now.list.items (rw all at c.loop-target.invariant.few))
