use Rattle.std.proofs.Common.{◌≡◌, ◌<◌, ◌≤◌, ◌+◌, ◌-◌, ◌*◌, ℕ, length, take, get_or, sym, ap, ◌∙◌, arith}
use Rattle.std.proofs.lemmas.List.{take_all}
use Rattle.std.proofs.lemmas.Result.{IfOk-weaker}
use Rattle.word_nodes.specs.Nodes.{worth}
use Rattle.word_nodes.proofs.NodeLaws.{Extends-then, Extends-inputs, worth-later}
use Rattle.c_place.specs.Aims.{aim, aims, aims_there}
use Rattle.c_place.proofs.TargetLaws.{no_target}
use Rattle.c_place.proofs.PartLaws.{either, there-take, there-next}
use Rattle.c_place.proofs.parts.none_there.Goals as goal

pub loop-target-preserved : goal.loop-target-preserved
loop-target-preserved c =
    let k = c.loop-target.target-index in
    let ts = c.args.list.now in
    let g0 = c.args.graph.now in
    let t = get_or ts k no_target in
    let within : k < length ts = c.loop-target-test.true in
    let before = c.loop-target.invariant.extends in
    record {
      extends = Extends-then _ _ _ _ before c.in_ok-any-2.ensures.extends;
      nodes = omega (arith, c.loop-target.invariant.nodes, c.in_ok-any-2.ensures.nodes);
      gates = omega (arith, c.loop-target.invariant.gates, c.in_ok-any-2.ensures.gates);
      stands = c.in_ok-any-2.ensures.stands;
      value = λ ins fit one.
          let s = aims_there (aims g0 ins (take k ts)) in
          let n = worth c.loop-target.graph ins t.guard in
          let next = there-next (aim g0 ins) ts k no_target within in
          let few : s + worth g0 ins t.guard ≤ 1 = omega (arith, next, there-take (aim g0 ins) ts (k + 1), one) in
          c.in_ok-any-2.ensures.value ins (Extends-inputs before ins fit)
          ∙ ap (λ (x : ℕ). x + n - x * n) (c.loop-target.invariant.value ins fit one)
          ∙ ap (λ (y : ℕ). s + y - s * y) (worth-later before ins t.guard (c.requires k no_target within).guard.within)
          ∙ either s (worth g0 ins t.guard) few
          ∙ sym next;
    }

pub returns-in_err-any-2-clause-extends : goal.returns-in_err-any-2-clause-extends
returns-in_err-any-2-clause-extends c = Extends-then _ _ _ _ c.loop-target.invariant.extends c.in_err-any-2.ensures.extends

pub returns-clause-value : goal.returns-clause-value
returns-clause-value c =
    let all : take c.loop-target.target-index c.args.list.now ≡ c.args.list.now = take_all c.loop-target.target-index c.args.list.now c.loop-target-test.false in
    IfOk-weaker c.complement.result _ _
    (λ n v ins fit one.
    let any = rw all at (c.loop-target.invariant.value ins fit one) in
    omega (arith, v ins (Extends-inputs c.loop-target.invariant.extends ins fit), any, one))
    c.complement.ensures.value

pub returns-clause-extends : goal.returns-clause-extends
returns-clause-extends c = Extends-then _ _ _ _ c.loop-target.invariant.extends c.complement.ensures.extends
