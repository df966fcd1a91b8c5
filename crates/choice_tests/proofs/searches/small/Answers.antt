use Rattle.std.proofs.Common.{◌≡◌, ◌+◌, ◌*◌, length, ap, ◌∙◌, arith}
use Rattle.std.proofs.lemmas.List.{length_push}
use Rattle.std.proofs.lemmas.List.Elements.{All-push}
use Rattle.std.proofs.lemmas.List.Sums.{sum_by_push}
use Rattle.std.proofs.lemmas.Result.{IfOk-weaker}
use Rattle.choice_core.specs.declared.problems.Fan.{Fan}
use Rattle.choice_core.specs.Problems.{HasChoice, IsFan, greatest_own, greatest_price}
use Rattle.choice_core.proofs.Parts.{problem_of_parts}
use Rattle.choice_tests.proofs.Parts.{own_of_parts}
use Rattle.choice_tests.proofs.searches.small.Goals as goal

pub loop-preserved : goal.loop-preserved
loop-preserved g c =
    let i = c.loop.invariant in
    let sum = sum_by_push greatest_own c.loop.own.items c.small_row.result in
    rw c.in_ok-push.ensures.items (
      length_push c.loop.own.items c.small_row.result ∙ ap (λ n. n + 1) i.0,
      All-push HasChoice c.loop.own.items c.small_row.result i.1 c.small_row.ensures.some,
      omega (arith, sum, i.2, c.small_row.ensures.greatest),
    )

pub loop-from-preserved : goal.loop-from-preserved
loop-from-preserved g c =
    let before = c.loop-from.fans.items in
    let one = c.in_ok-fan.field-0 in
    let i = c.loop-from.invariant in
    let sum = sum_by_push (λ (f : Fan). 2 * greatest_price f) before one in
    rw c.in_ok-push-2.ensures.items (
      All-push (IsFan 4) before one i.0 c.in_ok-fan.ensures.fan,
      omega (arith, sum, i.1, c.small_price.ensures.greatest one c.in_ok-fan.ensures.price),
      length_push before one ∙ ap (λ n. n + 1) i.2,
    )

pub of-requires-clause-fans : goal.of-requires-clause-fans
of-requires-clause-fans g c =
    let own = c.loop.invariant in
    let end = c.loop-test.false in
    let size : length c.loop.own.items ≡ 4 = omega (arith, own.0, end, c.loop.auto.counter-end) in
    rw (c.new.ensures, c.new-2.ensures, size) c.loop-from.invariant.0

pub returns-clause-problem : goal.returns-clause-problem
returns-clause-problem g c =
    let own = c.loop.invariant in
    let fans = c.loop-from.invariant in
    let end = c.loop-test.false in
    let size : length c.loop.own.items ≡ 4 = omega (arith, own.0, end, c.loop.auto.counter-end) in
    let last = c.loop-from.auto.from-index-end in
    problem_of_parts c.of.result _ _ (rw (c.new.ensures, c.new-2.ensures) at c.of.ensures)
    own.1 (rw size fans.0) (omega (arith, own.2, fans.1, last, c.loop.auto.counter-end))

pub returns-clause-count : goal.returns-clause-count
returns-clause-count g c =
    let own = c.loop.invariant in
    let end = c.loop-test.false in
    let size : length c.loop.own.items ≡ 4 = omega (arith, own.0, end, c.loop.auto.counter-end) in
    IfOk-weaker c.of.result (λ p. p.own ≡ c.loop.own.items) (λ p. length p.own ≡ 4) (λ p is. rw is size) (own_of_parts c.of.result _ _ (rw (c.new.ensures, c.new-2.ensures) at c.of.ensures))
