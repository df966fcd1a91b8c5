use Rattle.std.proofs.Common.{◌≡◌, ◌+◌, ◌*◌, ◌≤◌, ◌≢◌, List, length, replicate, ap, ◌∙◌, arith}
use Rattle.std.specs.List.{All}
use Rattle.std.proofs.lemmas.List.{length_push, length-replicate}
use Rattle.std.proofs.lemmas.List.Elements.{All-push, All-weaker}
use Rattle.std.proofs.lemmas.List.Sums.{sum_by_push}
use Rattle.std.proofs.lemmas.Result.{IfOk-weaker}
use Rattle.choice_core.specs.declared.problems.Fan.{Fan}
use Rattle.choice_core.specs.declared.sharings.Choice.{Choice}
use Rattle.choice_core.specs.declared.sharings.Choice.TheVariants.{A, Y}
use Rattle.choice_core.specs.Problems.{HasChoice, Fits, IsFan, greatest_price}
use Rattle.choice_tests.proofs.Ladders.{AllowsOthers, others_fit, star_row, star_rows, star_greatest}
use Rattle.choice_core.proofs.Parts.{problem_of_parts}
use Rattle.choice_tests.proofs.Parts.{own_of_parts}
use Rattle.choice_tests.proofs.costs.star.Goals as goal

pub loop-leaf-preserved : goal.loop-leaf-preserved
loop-leaf-preserved c =
    let before = c.loop-leaf.fans.items in
    let one = c.in_ok-edge.field-0 in
    let i = c.loop-leaf.invariant in
    let sum = sum_by_push (λ (f : Fan). 2 * greatest_price f) before one in
    rw c.in_ok-push-2.ensures.items (
      All-push (IsFan (c.args.leaves + 1)) before one i.0 c.in_ok-edge.ensures.fan,
      omega (arith, sum, i.1, c.in_ok-edge.ensures.price),
      length_push before one ∙ ap (λ n. n + 1) i.2,
    )

pub returns-clause-problem : goal.returns-clause-problem
returns-clause-problem c =
    let fans = c.loop-leaf.invariant in
    let end : c.loop.counter ≡ c.args.leaves + 1 = (let last = c.loop-test.false in omega (arith, last, c.loop.auto.counter-end)) in
    let own : c.loop.own.items ≡ replicate (c.args.leaves + 1) star_row = c.loop.invariant ∙ ap (λ n. replicate n star_row) end in
    let long = ap length own ∙ length-replicate (c.args.leaves + 1) star_row in
    let greatest = star_greatest (c.args.leaves + 1) in
    let leaves : c.loop-leaf.leaf ≡ c.args.leaves = omega arith in
    problem_of_parts c.of.result _ _ (rw (c.new.ensures, c.new-2.ensures) at c.of.ensures)
    (rw own (All-weaker AllowsOthers HasChoice (λ row allows. (Y, allows Y (λ e. cc))) (replicate (c.args.leaves + 1) star_row) (star_rows (c.args.leaves + 1))))
    (rw long fans.0)
    (rw own (omega (arith, greatest, fans.1, leaves, c.requires.few)))

pub returns-clause-boolean : goal.returns-clause-boolean
returns-clause-boolean c =
    let end : c.loop.counter ≡ c.args.leaves + 1 = (let last = c.loop-test.false in omega (arith, last, c.loop.auto.counter-end)) in
    let own : c.loop.own.items ≡ replicate (c.args.leaves + 1) star_row = c.loop.invariant ∙ ap (λ n. replicate n star_row) end in
    IfOk-weaker c.of.result (λ p. p.own ≡ replicate (c.args.leaves + 1) star_row) (λ p. (cs : List Choice) → All (λ d. d ≢ A) cs → length cs ≤ length p.own → Fits p.own cs) (λ p is. rw is (others_fit (replicate (c.args.leaves + 1) star_row) (star_rows (c.args.leaves + 1)))) (own_of_parts c.of.result _ _ (rw (c.new.ensures, c.new-2.ensures, own) at c.of.ensures))
