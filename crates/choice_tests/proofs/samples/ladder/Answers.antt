use Rattle.std.proofs.Common.{◌≡◌, ◌+◌, ◌*◌, ◌++◌, ◌∷◌, ◌≢◌, ◌≤◌, List, length, ap, ◌∙◌, arith, []}
use Rattle.std.proofs.lemmas.List.{length_push}
use Rattle.std.proofs.lemmas.List.Elements.{All-push, All-weaker}
use Rattle.std.proofs.lemmas.List.Sums.{sum_by_push}
use Rattle.choice_core.specs.declared.sharings.Choice.TheVariants.{Y}
use Rattle.choice_core.specs.declared.problems.Fan.{Fan}
use Rattle.choice_core.specs.Problems.{HasChoice, Fits, IsFan, greatest_own, greatest_price}
use Rattle.choice_tests.proofs.Ladders.{AllowsOthers, others_fit}
use Rattle.choice_core.proofs.Parts.{problem_of_parts}
use Rattle.choice_tests.proofs.Parts.{own_of_parts}
use Rattle.std.proofs.lemmas.Result.{IfOk-weaker}
use Rattle.std.specs.List.{All}
use Rattle.choice_core.specs.declared.sharings.Choice.{Choice}
use Rattle.choice_core.specs.declared.sharings.Choice.TheVariants.{A}
use Rattle.choice_tests.proofs.samples.ladder.Goals as goal

pub loop-number-preserved : goal.loop-number-preserved
loop-number-preserved c =
    let i = c.loop-number.invariant in
    let sum = sum_by_push greatest_own c.loop-number.own.items c.row.result in
    rw c.in_ok-push.ensures.items (
      length_push c.loop-number.own.items c.row.result ∙ ap (λ n. n + 1) i.0,
      All-push AllowsOthers c.loop-number.own.items c.row.result i.1 c.row.ensures.some,
      omega (arith, sum, i.2, c.row.ensures.greatest),
    )

pub loop-leaf-preserved : goal.loop-leaf-preserved
loop-leaf-preserved c =
    let n = 2 * c.args.leaves + 1 in
    let before = c.loop-leaf.fans.items in
    let one = c.in_ok-edge.field-0 in
    let two = c.in_ok-edge-2.field-0 in
    let i = c.loop-leaf.invariant in
    let first : c.push-in-loop-leaf.new.self.items ≡ before ++ one ∷ [] = c.in_ok-push-2.ensures.items in
    let second : c.push-in-loop-leaf-2.new.self.items ≡ c.push-in-loop-leaf.new.self.items ++ two ∷ [] = c.in_ok-push-3.ensures.items in
    let F = λ (f : Fan). 2 * greatest_price f in
    let sum_one = sum_by_push F before one in
    let sum_two = sum_by_push F (before ++ one ∷ []) two in
    rw (second, first) (
      All-push (IsFan n) (before ++ one ∷ []) two (All-push (IsFan n) before one i.0 c.in_ok-edge.ensures.fan) c.in_ok-edge-2.ensures.fan,
      omega (arith, sum_one, sum_two, i.1, c.in_ok-edge.ensures.price, c.in_ok-edge-2.ensures.price),
      length_push (before ++ one ∷ []) two ∙ ap (λ n. n + 1) (length_push before one) ∙ omega (arith, i.2),
    )

pub returns-clause-problem : goal.returns-clause-problem
returns-clause-problem c =
    let own = c.loop-number.invariant in
    let fans = c.loop-leaf.invariant in
    let count : c.loop-number.number ≡ 2 * c.args.leaves + 1 = omega arith in
    let leaves : c.loop-leaf.leaf ≡ c.args.leaves = omega arith in
    problem_of_parts c.of.result _ _ (rw (c.new.ensures, c.new-2.ensures) at c.of.ensures)
    (All-weaker AllowsOthers HasChoice (λ row allows. (Y, allows Y (λ e. cc))) c.loop-number.own.items own.1)
    (rw (own.0 ∙ count) fans.0)
    (omega (arith, own.2, fans.1, count, leaves, c.requires))

pub returns-clause-boolean : goal.returns-clause-boolean
returns-clause-boolean c = IfOk-weaker c.of.result (λ p. p.own ≡ c.loop-number.own.items) (λ p. (cs : List Choice) → All (λ d. d ≢ A) cs → length cs ≤ length p.own → Fits p.own cs) (λ p is. rw is (others_fit c.loop-number.own.items c.loop-number.invariant.1)) (own_of_parts c.of.result _ _ (rw (c.new.ensures, c.new-2.ensures) at c.of.ensures))

pub returns-clause-count : goal.returns-clause-count
returns-clause-count c =
    let own = c.loop-number.invariant in
    let count : c.loop-number.number ≡ 2 * c.args.leaves + 1 = omega arith in
    IfOk-weaker c.of.result (λ p. p.own ≡ c.loop-number.own.items) (λ p. length p.own ≡ 2 * c.args.leaves + 1) (λ p is. rw is (own.0 ∙ count)) (own_of_parts c.of.result _ _ (rw (c.new.ensures, c.new-2.ensures) at c.of.ensures))

pub of-requires-clause-fans : goal.of-requires-clause-fans
of-requires-clause-fans c =
    let own = c.loop-number.invariant in
    let count : c.loop-number.number ≡ 2 * c.args.leaves + 1 = omega arith in
    rw (c.new.ensures, c.new-2.ensures, own.0 ∙ count) c.loop-leaf.invariant.0
