use Rattle.std.proofs.Common.{◌≡◌, ℕ, ◌+◌, ◌-◌, ◌*◌, length, take, drop, sym, ◌∙◌, arith}
use Rattle.std.proofs.lemmas.Result.{IfOk-weaker}
use Rattle.word_graph.proofs.RunLaws.{value-constant}
use Rattle.word_nodes.specs.Nodes.{worth, worths}
use Rattle.word_nodes.proofs.NodeLaws.{Extends-then, Extends-inputs, worth-later, worths-later, AllStand-later}
use Rattle.c_place.specs.Accesses.{cell_at}
use Rattle.c_place.proofs.ListLaws.{more_steps, hit-step, hit-within, hit-outside}
use Rattle.c_place.proofs.loading.load_target.Goals as goal

pub returns-in_err-here-in-None-clause-extends : goal.returns-in_err-here-in-None-clause-extends
returns-in_err-here-in-None-clause-extends c = Extends-then _ _ _ _ c.loop-k.invariant.extends c.in_err-here-in-None.ensures.extends

pub select-requires-in-loop-k-clause-words : goal.select-requires-in-loop-k-clause-words
select-requires-in-loop-k-clause-words c =
    let count : c.first_cell-at-in-loop-k.result + length c.args.widths.now - c.first_cell-at-in-loop-k.result ≡ length c.args.widths.now = omega arith in
    rw (count, c.first_cell-at-in-loop-k.ensures)
    (AllStand-later (Extends-then _ _ _ _ c.loop-k.invariant.extends c.in_ok-here-in-None.ensures.extends) _ _ (c.requires.nodes c.loop-k.k c.loop-k-test.true))

pub select-requires-in-loop-k-clause-others : goal.select-requires-in-loop-k-clause-others
select-requires-in-loop-k-clause-others c =
    rw c.deref-in-loop-k.ensures.value (AllStand-later c.in_ok-here-in-None.ensures.extends _ _ c.loop-k.invariant.stands)

pub returns-in_err-got-in-None-clause-extends : goal.returns-in_err-got-in-None-clause-extends
returns-in_err-got-in-None-clause-extends c =
    Extends-then _ _ _ _ (Extends-then _ _ _ _ c.loop-k.invariant.extends c.in_ok-here-in-None.ensures.extends) c.in_err-got-in-None.ensures.extends

pub returns-in_err-got-in-None-clause-gates : goal.returns-in_err-got-in-None-clause-gates
returns-in_err-got-in-None-clause-gates c =
    omega (arith, more_steps c.loop-k.k c.args.target.now.length (260 + 256 * length c.args.widths.now) c.loop-k-test.true, c.loop-k.invariant.gates, c.in_ok-here-in-None.ensures.gates, c.in_err-got-in-None.ensures.gates)

pub loop-k-preserved : goal.loop-k-preserved
loop-k-preserved c =
    let before = c.loop-k.invariant.extends in
    let with_hit = Extends-then _ _ _ _ before c.in_ok-here-in-None.ensures.extends in
    record {
      extends = Extends-then _ _ _ _ with_hit c.in_ok-got-in-None.ensures.extends;
      nodes = omega (arith, c.loop-k.invariant.nodes, c.in_ok-here-in-None.ensures.nodes, c.in_ok-got-in-None.ensures.nodes);
      gates = omega (arith, c.loop-k.invariant.gates, c.in_ok-here-in-None.ensures.gates, c.in_ok-got-in-None.ensures.gates);
      stands = c.in_ok-got-in-None.ensures.stands;
      value = λ ins fit.
          let count : c.first_cell-at-in-loop-k.result + length c.args.widths.now - c.first_cell-at-in-loop-k.result ≡ length c.args.widths.now = omega arith in
          let guard = c.args.target.now.guard in
          let index = c.args.target.now.index in
          let word = λ (i : ℕ). worths c.args.graph.now ins (take (length c.args.widths.now) (drop (cell_at c.args.target.now c.args.offset i) c.args.nodes.now)) in
          let here = c.in_ok-here-in-None.ensures.value ins (Extends-inputs before ins fit) in
          let selected = rw (count, c.first_cell-at-in-loop-k.ensures, c.deref-in-loop-k.ensures.value) at (c.in_ok-got-in-None.ensures.value ins (Extends-inputs with_hit ins fit)) in
          selected
          ∙ simp (
            here,
            worth-later before ins guard c.requires.target.guard.within,
            worth-later before ins index c.requires.target.index.within,
            worths-later with_hit ins c.args.widths.now _ (c.requires.nodes c.loop-k.k c.loop-k-test.true),
            worths-later c.in_ok-here-in-None.ensures.extends ins c.args.widths.now c.loop-k.got.items c.loop-k.invariant.stands,
            c.loop-k.invariant.value ins fit,
          )
          (hit-step (worth c.args.graph.now ins guard) (worth c.args.graph.now ins index) c.loop-k.k word (worths c.args.graph.now ins c.args.got.items));
    }

pub returns-then-k-target-clause-value : goal.returns-then-k-target-clause-value
returns-then-k-target-clause-value c =
    let count : c.first_cell-at.result + length c.args.widths.now - c.first_cell-at.result ≡ length c.args.widths.now = omega arith in
    IfOk-weaker c.select.result _ _
    (λ r value ins fit.
    let v = value-constant c.args.graph.now ins c.entries-entries.ensures.graph c.args.target.now.index.index _ (sym c.constant_of.ensures ∙ c.in-Some.is) in
    (rw (count, c.first_cell-at.ensures, c.deref.ensures.value) at (value ins fit))
    ∙ rw v (sym (hit-within (worth c.args.graph.now ins c.args.target.now.guard) c.in-Some.k c.args.target.now.length _ _ c.if-k-target.true)))
    c.select.ensures.value

pub returns-else-k-target-clause-value : goal.returns-else-k-target-clause-value
returns-else-k-target-clause-value c = λ ins fit.
    let v = value-constant c.args.graph.now ins c.entries-entries.ensures.graph c.args.target.now.index.index _ (sym c.constant_of.ensures ∙ c.in-Some.is) in
    rw v (sym (hit-outside (worth c.args.graph.now ins c.args.target.now.guard) c.in-Some.k c.args.target.now.length _ _ c.if-k-target.false))
