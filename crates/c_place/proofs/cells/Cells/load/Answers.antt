use Rattle.std.proofs.Common.{◌≡◌, ℕ, [], ◌∷◌, ◌++◌, ◌^◌, ◌+◌, ◌*◌, ◌≤◌, ◌<◌, length, take, drop, map, get_or, replicate, suc, refl, sym, ap, ◌∙◌, add-one, arith}
use Rattle.std.specs.Prelude.{Some}
use Rattle.std.proofs.Math.Seq.{take-suc}
use Rattle.std.proofs.lemmas.List.{take_all, map-append}
use Rattle.word_nodes.specs.Nodes.{worth, worths}
use Rattle.word_nodes.proofs.NodeLaws.{Extends-none, Extends-then, Extends-inputs, AllStand-later}
use Rattle.c_place.specs.declared.targets.Target.{Target}
use Rattle.c_place.specs.Aims.{Aim, aim}
use Rattle.c_place.specs.Boards.{nodes_of, objects_held}
use Rattle.c_place.specs.Accesses.{words_at}
use Rattle.c_place.proofs.ReadLaws.{gathered, gathered-push, gathered-read}
use Rattle.c_place.proofs.TargetLaws.{IsTarget-later, reach-suc, reach-take, no_target, only-at, constant-at, constant-some, load-step, All-suc, All-aims, zeros-stand, zeros-worth, target-room, target-nodes, target-words}
use Rattle.c_place.proofs.cells.Cells.load.Goals as goal

pub loop-target-init : goal.loop-target-init
loop-target-init c = record {
  extends = Extends-none _ _;
  nodes = omega arith;
  gates = omega arith;
  same = λ e. refl;
  few = λ k d h. absurd (omega arith);
  stands = rw c.in_ok-got.ensures.items (zeros-stand _ _ c.requires.board _);
  words = λ ins fit. rw c.in_ok-got.ensures.items (zeros-worth _ _ c.requires.board ins fit _);
}

pub load_target-requires-clause-target : goal.load_target-requires-clause-target
load_target-requires-clause-target c =
    rw c.deref-target-items.ensures.value (IsTarget-later c.loop-target.invariant.extends _ (c.requires.pointer.targets c.loop-target.target-index _ (rw c.deref-target-items.ensures.value at c.loop-target-test.true)))

pub load_target-requires-clause-room : goal.load_target-requires-clause-room
load_target-requires-clause-room c =
    let within = rw c.deref-target-items.ensures.value at c.loop-target-test.true in
    let t = get_or c.args.from.now.list.items c.loop-target.target-index no_target in
    rw (c.nodes-nodes.ensures, c.deref-target-items.ensures.value)
    (target-room _ _ c.requires.board t (c.requires.within c.loop-target.target-index no_target within))

pub load_target-requires-clause-nodes : goal.load_target-requires-clause-nodes
load_target-requires-clause-nodes c = λ k h.
    let within = rw c.deref-target-items.ensures.value at c.loop-target-test.true in
    let t = get_or c.args.from.now.list.items c.loop-target.target-index no_target in
    rw (c.nodes-nodes.ensures, c.deref-target-items.ensures.value)
    (AllStand-later c.loop-target.invariant.extends _ _
    (target-nodes _ _ c.requires.board t (c.requires.within c.loop-target.target-index no_target within) c.args.offset c.args.widths.now (c.requires.widths c.loop-target.target-index no_target within) k (rw c.deref-target-items.ensures.value at h)))

pub returns-in_err-got-2-clause-extends : goal.returns-in_err-got-2-clause-extends
returns-in_err-got-2-clause-extends c = Extends-then _ _ _ _ c.loop-target.invariant.extends c.in_err-got-2.ensures.extends

pub returns-in_err-got-2-clause-nodes : goal.returns-in_err-got-2-clause-nodes
returns-in_err-got-2-clause-nodes c =
    let within = rw c.deref-target-items.ensures.value at c.loop-target-test.true in
    let t = get_or c.args.from.now.list.items c.loop-target.target-index no_target in
    let made = rw c.deref-target-items.ensures.value at c.in_err-got-2.ensures.nodes in
    omega (
      arith,
      made,
      c.loop-target.invariant.nodes,
      reach-suc (length c.args.widths.now) c.args.from.now.list.items c.loop-target.target-index no_target within,
      reach-take (length c.args.widths.now) c.args.from.now.list.items (suc c.loop-target.target-index),
    )

pub returns-in_err-got-2-clause-gates : goal.returns-in_err-got-2-clause-gates
returns-in_err-got-2-clause-gates c =
    let within = rw c.deref-target-items.ensures.value at c.loop-target-test.true in
    let t = get_or c.args.from.now.list.items c.loop-target.target-index no_target in
    let made = rw c.deref-target-items.ensures.value at c.in_err-got-2.ensures.gates in
    omega (
      arith,
      made,
      c.loop-target.invariant.gates,
      reach-suc (length c.args.widths.now) c.args.from.now.list.items c.loop-target.target-index no_target within,
      reach-take (length c.args.widths.now) c.args.from.now.list.items (suc c.loop-target.target-index),
    )

pub loop-target-preserved : goal.loop-target-preserved
loop-target-preserved c =
    let same_items = c.deref-target-items.ensures.value in
    let within = rw same_items at c.loop-target-test.true in
    let t = get_or c.args.from.now.list.items c.loop-target.target-index no_target in
    let before = c.loop-target.invariant.extends in
    let target = c.requires.pointer.targets c.loop-target.target-index no_target within in
    record {
      extends = Extends-then _ _ _ _ before c.in_ok-got-2.ensures.extends;
      nodes =
          let made = rw same_items at c.in_ok-got-2.ensures.nodes in
          rw add-one (omega (arith, made, c.loop-target.invariant.nodes, reach-suc (length c.args.widths.now) c.args.from.now.list.items c.loop-target.target-index no_target within));
      gates =
          let made = rw same_items at c.in_ok-got-2.ensures.gates in
          rw add-one (omega (arith, made, c.loop-target.invariant.gates, reach-suc (length c.args.widths.now) c.args.from.now.list.items c.loop-target.target-index no_target within));
      same = λ e.
          let here = c.loop-target.invariant.same e in
          let only = only-at c.args.from.now.list.items e.0 c.loop-target.target-index e.1 within in
          (rw same_items at c.in_ok-got-2.ensures.same)
          (constant-at c.args.graph.now _ e.0.guard _ 1 here (ap (λ (t : Target). t.guard) only) e.3)
          (constant-some c.args.graph.now _ e.0.index _ here (ap (λ (t : Target). t.index) only) e.4)
          ∙ here;
      few = rw add-one (All-suc (λ (t : Target). t.length ≤ 2 ^ 63) c.args.from.now.list.items c.loop-target.target-index no_target c.loop-target.invariant.few within (omega (arith, rw same_items at c.in_ok-got-2.ensures.range)));
      stands = c.in_ok-got-2.ensures.stands;
      words = λ ins fit.
          let now = Extends-inputs before ins fit in
          let read = λ (a : Aim). worths c.args.graph.now ins (take (length c.args.widths.now) (drop (a.first + a.index * a.size + c.args.offset) (nodes_of c.args.self.now a.object))) in
          let zeros = replicate (length c.args.widths.now) 0 in
          let ts = c.args.from.now.list.items in
          let more : map (aim c.args.graph.now ins) (take (suc c.loop-target.target-index) ts) ≡ map (aim c.args.graph.now ins) (take c.loop-target.target-index ts) ++ aim c.args.graph.now ins t ∷ [] =
          ap (map (aim c.args.graph.now ins)) (take-suc ts c.loop-target.target-index no_target within) ∙ map-append (aim c.args.graph.now ins) (take c.loop-target.target-index ts) (t ∷ []) in
          let lies = c.requires.within c.loop-target.target-index no_target within in
          let reads = c.requires.widths c.loop-target.target-index no_target within in
          (rw (c.nodes-nodes.ensures, same_items) at (c.in_ok-got-2.ensures.value ins now))
          ∙ load-step before ins c.args.offset c.args.widths.now (nodes_of c.args.self.now t.object) t c.loop-target.got.items _ target
          (target-nodes _ _ c.requires.board t lies c.args.offset c.args.widths.now reads)
          (c.loop-target.invariant.words ins fit)
          ∙ sym (gathered-push read zeros (map (aim c.args.graph.now ins) (take c.loop-target.target-index ts)) (aim c.args.graph.now ins t))
          ∙ ap (gathered read zeros) (sym more)
          ∙ ap (λ (k : ℕ). gathered read zeros (map (aim c.args.graph.now ins) (take k ts))) (sym (add-one c.loop-target.target-index));
    }

pub returns-clause-words : goal.returns-clause-words
returns-clause-words c = λ ins fit.
    let all : take c.loop-target.target-index c.args.from.now.list.items ≡ c.args.from.now.list.items =
    take_all c.loop-target.target-index c.args.from.now.list.items (rw c.deref-target-items.ensures.value at c.loop-target-test.false) in
    (rw all at (c.loop-target.invariant.words ins fit))
    ∙ gathered-read _ _ _ c.args.offset (length c.args.widths.now) _
    (omega (arith, c.requires.pointer.one ins fit))
    refl
    (All-aims (aim c.args.graph.now ins) (λ (a : Aim). a.length ≤ 2 ^ 63) c.args.from.now.list.items (rw all at c.loop-target.invariant.few))
    (All-aims (aim c.args.graph.now ins) (λ (a : Aim). a.index < a.length → worths c.args.graph.now ins (take (length c.args.widths.now) (drop (a.first + a.index * a.size + c.args.offset) (nodes_of c.args.self.now a.object))) ≡ words_at (objects_held c.args.graph.now ins c.args.self.now) c.args.offset (length c.args.widths.now) (Some (record { object = a.object; at = a.first + a.index * a.size; life = 0 }))) c.args.from.now.list.items (λ k d h within. target-words _ _ c.requires.board (get_or c.args.from.now.list.items k d) (c.requires.within k d h) c.args.offset c.args.widths.now (c.requires.widths k d h) ins (worth c.args.graph.now ins (get_or c.args.from.now.list.items k d).index) within))
