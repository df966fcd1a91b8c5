use Rattle.std.proofs.Common.{◌≡◌, ℕ, List, ◌<◌, length, take, drop, sym, ◌∙◌, arith}
use Rattle.std.proofs.lemmas.Result.{IfOk-weaker}
use Rattle.hy_bits.specs.declared.width.Width.{Width}
use Rattle.word_graph.proofs.RunLaws.{value-constant}
use Rattle.word_nodes.specs.Nodes.{AllStand, worth, worths}
use Rattle.word_nodes.proofs.NodeLaws.{Extends-then, Extends-inputs, worth-later, worths-later, AllStand-later, AllStand-length}
use Rattle.c_place.specs.Accesses.{cell_at, placed}
use Rattle.c_place.proofs.ListLaws.{hit-within, hit-outside}
use Rattle.c_place.proofs.PlaceLaws.{slice-stands, cell-room, place-step, place-same, hit-same}
use Rattle.c_place.proofs.storing.store_hits.Goals as goal

pub store_where-requires-clause-room : goal.store_where-requires-clause-room
store_where-requires-clause-room c =
    rw c.first_cell-at.ensures
    (omega (arith, cell-room c.args.target.now c.args.offset (length c.args.widths.now) _ c.in-Some.k c.requires.offset c.requires.room c.if-k-target.true, AllStand-length _ _ _ c.requires.values))

pub store_where-requires-clause-others : goal.store_where-requires-clause-others
store_where-requires-clause-others c =
    rw c.first_cell-at.ensures (slice-stands _ c.requires.cells.0 c.args.widths.now _ _ c.requires.cells.1 (c.requires.cells.2 c.in-Some.k c.if-k-target.true))

pub returns-then-k-target-clause-stands : goal.returns-then-k-target-clause-stands
returns-then-k-target-clause-stands c =
    IfOk-weaker c.store_where.result _ _
    (λ r stands ws h g. stands ws h (rw c.first_cell-at.ensures (g c.in-Some.k c.if-k-target.true)))
    c.store_where.ensures.stands

pub returns-then-k-target-clause-value : goal.returns-then-k-target-clause-value
returns-then-k-target-clause-value c =
    IfOk-weaker c.store_where.result _ _
    (λ r value ins fit.
    let v = value-constant c.args.graph.now ins c.entries-entries.ensures.graph c.args.target.now.index.index _ (sym c.constant_of.ensures ∙ c.in-Some.is) in
    (rw c.first_cell-at.ensures at (value ins c.requires.cells.0 fit c.requires.cells.1))
    ∙ rw v (sym (hit-within (worth c.args.graph.now ins c.args.there) c.in-Some.k c.args.target.now.length _ _ c.if-k-target.true)))
    c.store_where.ensures.value

pub returns-else-k-target-clause-value : goal.returns-else-k-target-clause-value
returns-else-k-target-clause-value c = λ ins fit.
    let v = value-constant c.args.graph.now ins c.entries-entries.ensures.graph c.args.target.now.index.index _ (sym c.constant_of.ensures ∙ c.in-Some.is) in
    rw v (sym (hit-outside (worth c.args.graph.now ins c.args.there) c.in-Some.k c.args.target.now.length _ _ c.if-k-target.false))

pub returns-in_err-here-in-None-clause-extends : goal.returns-in_err-here-in-None-clause-extends
returns-in_err-here-in-None-clause-extends c = Extends-then _ _ _ _ c.loop-k.invariant.extends c.in_err-here-in-None.ensures.extends

pub store_where-requires-in-loop-k-clause-values : goal.store_where-requires-in-loop-k-clause-values
store_where-requires-in-loop-k-clause-values c =
    AllStand-later (Extends-then _ _ _ _ c.loop-k.invariant.extends c.in_ok-here-in-None.ensures.extends) _ _ c.requires.values

pub store_where-requires-in-loop-k-clause-room : goal.store_where-requires-in-loop-k-clause-room
store_where-requires-in-loop-k-clause-room c =
    rw c.first_cell-at-in-loop-k.ensures
    (omega (arith, cell-room c.args.target.now c.args.offset (length c.args.widths.now) _ c.loop-k.k c.requires.offset c.requires.room c.loop-k-test.true, AllStand-length _ _ _ c.requires.values, c.loop-k.invariant.room))

pub store_where-requires-in-loop-k-clause-others : goal.store_where-requires-in-loop-k-clause-others
store_where-requires-in-loop-k-clause-others c =
    rw c.first_cell-at-in-loop-k.ensures
    (slice-stands _ c.requires.cells.0 c.args.widths.now _ _
    (AllStand-later c.in_ok-here-in-None.ensures.extends _ _ (c.loop-k.invariant.stands c.requires.cells.0 c.requires.cells.1 c.requires.cells.2))
    (c.requires.cells.2 c.loop-k.k c.loop-k-test.true))

pub returns-in_err-store_where-in-None-clause-extends : goal.returns-in_err-store_where-in-None-clause-extends
returns-in_err-store_where-in-None-clause-extends c =
    Extends-then _ _ _ _ (Extends-then _ _ _ _ c.loop-k.invariant.extends c.in_ok-here-in-None.ensures.extends) c.in_err-store_where-in-None.ensures.extends

pub loop-k-preserved : goal.loop-k-preserved
loop-k-preserved c =
    let before = c.loop-k.invariant.extends in
    let with_hit = Extends-then _ _ _ _ before c.in_ok-here-in-None.ensures.extends in
    let stands : (ws : List Width) → AllStand c.args.graph.now ws c.args.cells.now.items → ((k : ℕ) → k < c.args.target.now.length → take (length c.args.widths.now) (drop (cell_at c.args.target.now c.args.offset k) ws) ≡ c.args.widths.now) → AllStand c.store_where-in-loop-k.new.graph ws c.store_where-in-loop-k.new.cells.items =
    λ ws h g.
    c.in_ok-store_where-in-None.ensures.stands ws
    (AllStand-later c.in_ok-here-in-None.ensures.extends ws _ (c.loop-k.invariant.stands ws h g))
    (rw c.first_cell-at-in-loop-k.ensures (g c.loop-k.k c.loop-k-test.true)) in
    record {
      extends = Extends-then _ _ _ _ with_hit c.in_ok-store_where-in-None.ensures.extends;
      nodes = omega (arith, c.loop-k.invariant.nodes, c.in_ok-here-in-None.ensures.nodes, c.in_ok-store_where-in-None.ensures.nodes);
      gates = omega (arith, c.loop-k.invariant.gates, c.in_ok-here-in-None.ensures.gates, c.in_ok-store_where-in-None.ensures.gates);
      stands = stands;
      value = λ ins fit.
          let ws = c.requires.cells.0 in
          let there = worth-later before ins c.args.there c.requires.there.within in
          let index = worth-later before ins c.args.target.now.index c.requires.index.within in
          let cells = AllStand-later c.in_ok-here-in-None.ensures.extends ws _ (c.loop-k.invariant.stands ws c.requires.cells.1 c.requires.cells.2) in
          (rw c.first_cell-at-in-loop-k.ensures at (c.in_ok-store_where-in-None.ensures.value ins ws (Extends-inputs with_hit ins fit) cells))
          ∙ place-same _ _ _ _ _ _ (cell_at c.args.target.now c.args.offset c.loop-k.k)
          (c.in_ok-here-in-None.ensures.value ins (Extends-inputs before ins fit) ∙ hit-same _ _ _ _ c.loop-k.k there index)
          (worths-later c.in_ok-here-in-None.ensures.extends ins ws c.loop-k.cells.items (c.loop-k.invariant.stands ws c.requires.cells.1 c.requires.cells.2) ∙ c.loop-k.invariant.value ins fit)
          (worths-later with_hit ins c.args.widths.now c.args.values.now c.requires.values)
          ∙ place-step (worth c.args.graph.now ins c.args.there) (worth c.args.graph.now ins c.args.target.now.index) c.loop-k.k
          (λ i xs. placed xs (cell_at c.args.target.now c.args.offset i) (worths c.args.graph.now ins c.args.values.now))
          (worths c.args.graph.now ins c.args.cells.now.items);
      room =
          AllStand-length _ c.requires.cells.0 _ (stands c.requires.cells.0 c.requires.cells.1 c.requires.cells.2)
          ∙ sym (AllStand-length _ c.requires.cells.0 _ c.requires.cells.1);
    }
