use Rattle.std.proofs.Common.{ℕ, [], ◌∷◌, take, map, get_or, suc, sym, ap, ◌∙◌, add-one, arith}
use Rattle.std.proofs.Math.Seq.{take-suc}
use Rattle.std.proofs.lemmas.List.{map-append}
use Rattle.hy_bits.specs.declared.width.Width.TheVariants.{W1, W32, W64}
use Rattle.word_nodes.specs.Nodes.{worth}
use Rattle.word_nodes.proofs.NodeLaws.{Extends-then, Extends-inputs, Stands-later, worth-later}
use Rattle.c_place.specs.Aims.{aim, aims, coded_object, coded_cell, number_of_cell}
use Rattle.c_place.proofs.TargetLaws.{no_target, IsTarget-later, aim-later}
use Rattle.c_place.proofs.SameLaws.{coded_object-push, coded_cell-push, sizes-suc, sizes-take, chosen-alike}
use Rattle.c_place.proofs.equality.codes.Goals as goal

pub returns-in_err-number-clause-extends : goal.returns-in_err-number-clause-extends
returns-in_err-number-clause-extends c = Extends-then _ _ _ _ c.loop-target.invariant.extends (c.in_err-number.ensures.extends _)

pub returns-in_err-number-clause-gates : goal.returns-in_err-number-clause-gates
returns-in_err-number-clause-gates c =
    let within = rw c.deref-target-items.ensures.value at c.loop-target-test.true in
    omega (arith, within, c.loop-target.invariant.gates, c.in_err-number.ensures.gates, sizes-take c.args.p.now.list.items c.loop-target.target-index)

pub cell_number-requires : goal.cell_number-requires
cell_number-requires c =
    let within = rw c.deref-target-items.ensures.value at c.loop-target-test.true in
    rw c.deref-target-items.ensures.value
    (IsTarget-later (c.in_ok-number.ensures.extends 0) _ (IsTarget-later c.loop-target.invariant.extends _ (c.requires.targets c.loop-target.target-index no_target within)))

pub returns-in_err-here-clause-extends : goal.returns-in_err-here-clause-extends
returns-in_err-here-clause-extends c =
    Extends-then _ _ _ _ (Extends-then _ _ _ _ c.loop-target.invariant.extends (c.in_ok-number.ensures.extends _)) c.in_err-here.ensures.extends

pub returns-in_err-here-clause-gates : goal.returns-in_err-here-clause-gates
returns-in_err-here-clause-gates c =
    let within = rw c.deref-target-items.ensures.value at c.loop-target-test.true in
    let made = rw c.deref-target-items.ensures.value at c.in_err-here.ensures.gates in
    omega (
      arith,
      within,
      made,
      c.loop-target.invariant.gates,
      c.in_ok-number.ensures.gates,
      sizes-suc c.args.p.now.list.items c.loop-target.target-index no_target within,
      sizes-take c.args.p.now.list.items (suc c.loop-target.target-index),
    )

pub selection-requires-clause-condition : goal.selection-requires-clause-condition
selection-requires-clause-condition c =
    let within = rw c.deref-target-items.ensures.value at c.loop-target-test.true in
    let t = get_or c.args.p.now.list.items c.loop-target.target-index no_target in
    rw c.deref-target-items.ensures.value
    (Stands-later c.in_ok-here.ensures.extends W1 t.guard (Stands-later (c.in_ok-number.ensures.extends 0) W1 t.guard (Stands-later c.loop-target.invariant.extends W1 t.guard (c.requires.targets c.loop-target.target-index no_target within).guard)))

pub selection-requires-clause-second : goal.selection-requires-clause-second
selection-requires-clause-second c =
    Stands-later c.in_ok-here.ensures.extends W32 _ (Stands-later (c.in_ok-number.ensures.extends 0) W32 _ c.loop-target.invariant.object_stands)

pub returns-in_err-object-clause-extends : goal.returns-in_err-object-clause-extends
returns-in_err-object-clause-extends c =
    Extends-then _ _ _ _ (Extends-then _ _ _ _ (Extends-then _ _ _ _ c.loop-target.invariant.extends (c.in_ok-number.ensures.extends _)) c.in_ok-here.ensures.extends) c.in_err-object.ensures.extends

pub returns-in_err-object-clause-gates : goal.returns-in_err-object-clause-gates
returns-in_err-object-clause-gates c =
    let within = rw c.deref-target-items.ensures.value at c.loop-target-test.true in
    let made = rw c.deref-target-items.ensures.value at c.in_ok-here.ensures.gates in
    omega (
      arith,
      within,
      made,
      c.in_err-object.ensures.gates,
      c.loop-target.invariant.gates,
      c.in_ok-number.ensures.gates,
      sizes-suc c.args.p.now.list.items c.loop-target.target-index no_target within,
      sizes-take c.args.p.now.list.items (suc c.loop-target.target-index),
    )

pub selection-requires-in-loop-target-clause-condition : goal.selection-requires-in-loop-target-clause-condition
selection-requires-in-loop-target-clause-condition c =
    let within = rw c.deref-target-items.ensures.value at c.loop-target-test.true in
    let t = get_or c.args.p.now.list.items c.loop-target.target-index no_target in
    rw c.deref-target-items.ensures.value
    (Stands-later c.in_ok-object.ensures.extends W1 t.guard (Stands-later c.in_ok-here.ensures.extends W1 t.guard (Stands-later (c.in_ok-number.ensures.extends 0) W1 t.guard (Stands-later c.loop-target.invariant.extends W1 t.guard (c.requires.targets c.loop-target.target-index no_target within).guard))))

pub selection-requires-in-loop-target-clause-second : goal.selection-requires-in-loop-target-clause-second
selection-requires-in-loop-target-clause-second c =
    Stands-later c.in_ok-object.ensures.extends W64 _ (Stands-later c.in_ok-here.ensures.extends W64 _ (Stands-later (c.in_ok-number.ensures.extends 0) W64 _ c.loop-target.invariant.cell_stands))

pub returns-in_err-cell-clause-extends : goal.returns-in_err-cell-clause-extends
returns-in_err-cell-clause-extends c =
    Extends-then _ _ _ _ (Extends-then _ _ _ _ (Extends-then _ _ _ _ (Extends-then _ _ _ _ c.loop-target.invariant.extends (c.in_ok-number.ensures.extends _)) c.in_ok-here.ensures.extends) c.in_ok-object.ensures.extends) c.in_err-cell.ensures.extends

pub returns-in_err-cell-clause-gates : goal.returns-in_err-cell-clause-gates
returns-in_err-cell-clause-gates c =
    let within = rw c.deref-target-items.ensures.value at c.loop-target-test.true in
    let made = rw c.deref-target-items.ensures.value at c.in_ok-here.ensures.gates in
    omega (
      arith,
      within,
      made,
      c.in_ok-object.ensures.gates,
      c.in_err-cell.ensures.gates,
      c.loop-target.invariant.gates,
      c.in_ok-number.ensures.gates,
      sizes-suc c.args.p.now.list.items c.loop-target.target-index no_target within,
      sizes-take c.args.p.now.list.items (suc c.loop-target.target-index),
    )

pub loop-target-preserved : goal.loop-target-preserved
loop-target-preserved c =
    let same_items = c.deref-target-items.ensures.value in
    let within = rw same_items at c.loop-target-test.true in
    let ts = c.args.p.now.list.items in
    let t = get_or ts c.loop-target.target-index no_target in
    let target = c.requires.targets c.loop-target.target-index no_target within in
    let made = rw same_items at c.in_ok-here.ensures.gates in
    let before = c.loop-target.invariant.extends in
    let one = c.in_ok-number.ensures.extends c.args.region in
    let two = c.in_ok-here.ensures.extends in
    let three = c.in_ok-object.ensures.extends in
    let four = c.in_ok-cell.ensures.extends in
    let to_one = Extends-then _ _ _ _ before one in
    let to_two = Extends-then _ _ _ _ to_one two in
    let to_three = Extends-then _ _ _ _ to_two three in
    record {
      extends = Extends-then _ _ _ _ to_three four;
      nodes = omega (arith, c.loop-target.invariant.nodes, c.in_ok-number.ensures.nodes, c.in_ok-here.ensures.nodes, c.in_ok-object.ensures.nodes, c.in_ok-cell.ensures.nodes);
      gates = rw add-one (omega (arith, made, c.in_ok-object.ensures.gates, c.in_ok-cell.ensures.gates, c.loop-target.invariant.gates, c.in_ok-number.ensures.gates, sizes-suc ts c.loop-target.target-index no_target within));
      object_stands = Stands-later four W32 _ c.in_ok-object.ensures.stands;
      cell_stands = c.in_ok-cell.ensures.stands;
      object_value = λ ins fit.
          let start = worth c.args.graph.now ins c.args.zero in
          worth-later four ins c.in_ok-object.object c.in_ok-object.ensures.stands.within
          ∙ (rw same_items at (c.in_ok-object.ensures.value ins (Extends-inputs to_two ins fit)))
          ∙ chosen-alike _ _ _ _ _ _
          (worth-later to_two ins t.guard target.guard.within)
          (worth-later two ins c.in_ok-number.number c.in_ok-number.ensures.stands.within ∙ (rw same_items at (c.in_ok-number.ensures.value ins (Extends-inputs before ins fit))))
          (worth-later two ins c.loop-target.object (Stands-later one W32 _ c.loop-target.invariant.object_stands).within ∙ worth-later one ins c.loop-target.object c.loop-target.invariant.object_stands.within ∙ c.loop-target.invariant.object_value ins fit)
          ∙ sym (coded_object-push start (aims c.args.graph.now ins (take c.loop-target.target-index ts)) (aim c.args.graph.now ins t))
          ∙ ap (coded_object start) (sym (ap (map (aim c.args.graph.now ins)) (take-suc ts c.loop-target.target-index no_target within) ∙ map-append (aim c.args.graph.now ins) (take c.loop-target.target-index ts) (t ∷ [])))
          ∙ ap (λ (k : ℕ). coded_object start (aims c.args.graph.now ins (take k ts))) (sym (add-one c.loop-target.target-index));
      cell_value = λ ins fit.
          let start = worth c.args.graph.now ins c.args.origin in
          (rw same_items at (c.in_ok-cell.ensures.value ins (Extends-inputs to_three ins fit)))
          ∙ chosen-alike _ _ _ _ _ _
          (worth-later to_three ins t.guard target.guard.within)
          (worth-later three ins c.in_ok-here.here c.in_ok-here.ensures.stands.within ∙ (rw same_items at (c.in_ok-here.ensures.value ins (Extends-inputs to_one ins fit))) ∙ ap number_of_cell (aim-later to_one ins t target))
          (worth-later (Extends-then _ _ _ _ (Extends-then _ _ _ _ one two) three) ins c.loop-target.cell c.loop-target.invariant.cell_stands.within ∙ c.loop-target.invariant.cell_value ins fit)
          ∙ sym (coded_cell-push start (aims c.args.graph.now ins (take c.loop-target.target-index ts)) (aim c.args.graph.now ins t))
          ∙ ap (coded_cell start) (sym (ap (map (aim c.args.graph.now ins)) (take-suc ts c.loop-target.target-index no_target within) ∙ map-append (aim c.args.graph.now ins) (take c.loop-target.target-index ts) (t ∷ [])))
          ∙ ap (λ (k : ℕ). coded_cell start (aims c.args.graph.now ins (take k ts))) (sym (add-one c.loop-target.target-index));
    }
