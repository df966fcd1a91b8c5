use Rattle.std.proofs.Common.{◌∷◌, List, map, sym, ap, ◌∙◌, subst, arith}
use Rattle.std.proofs.lemmas.Result.{IfOk-weaker}
use Rattle.hy_bits.specs.declared.width.Width.TheVariants.{W1}
use Rattle.word_nodes.proofs.NodeLaws.{Stands-later}
use Rattle.c_meaning.specs.Expressions as expressions
use Rattle.c_meaning.specs.ExpressionFolds.{evaluates, operand_evaluates}
use Rattle.hy_bits.specs.declared.scalar.Scalar.TheVariants.{S32}
use Rattle.c_meaning.specs.declared.operators.Conversion.TheVariants as conversion
use Rattle.c_meaning.specs.Constants.{constant_of}
use Rattle.c_meaning.specs.Rules.{ConversionFits, IsTypedExpr}
use Rattle.c_meaning.specs.TypeRules.{ExprType, type_of}
use Rattle.c_meaning.specs.declared.expressions.TypedExpr.{TypedExpr}
use Rattle.c_meaning.specs.declared.expressions.TypedExpr.TheVariants as expr
use Rattle.c_meaning.specs.declared.expressions.LogicalOperand.{LogicalOperand}
use Rattle.c_meaning.specs.declared.expressions.Lvalue.TheOpen.{TypedExpr-F}
use Rattle.c_meaning.specs.declared.expressions.Lvalue.TheViews.{out-LogicalOperand}
use Rattle.exec_steps.specs.Running.{FollowsValue}
use Rattle.exec_state.specs.Operands.{holding}
use Rattle.exec_values.proofs.GrowingLaws.{Grows_stands}
use Rattle.exec_steps.proofs.StepLaws.{continues_grows, continues_on, continues_then, running_later}
use Rattle.c_exec.specs.Expressions.{AreTypedOperands, Completes, IsTypedOperand, ValueFits, left_of_all, scope_of, world_as}
use Rattle.c_exec.specs.Weights.{expr_weight, operand_weight, total}
use Rattle.c_exec.proofs.Typed.{given_type, means-at, operand-typed, operand_means, operand_weighs, operands_typed, parts-at, rule-at, taken_of_type, type-at, weighs, weight-at, word_fits, word_of_type}
use Rattle.c_exec.proofs.Steps.{truth_back, truth_turns, value_turns}
use Rattle.c_exec.proofs.Operands.{both_more, left_first, left_more, left_none}
use Rattle.c_exec.proofs.expressions.+run.Goals as goal

pub all_hold-loop-operand-init : goal.all_hold-loop-operand-init
all_hold-loop-operand-init t c = (
  c.in_ok-all.ensures.continues,
  c.in_ok-all.ensures.stands,
  left_first c.args.running.now c.condition.new.running c.args.guard c.in_ok-all.all (evaluates (world_as c.args.world.now) c.args.first.now) (map (operand_evaluates (world_as c.args.world.now)) c.args.rest.now) c.in_ok-all.ensures.follows,
)

pub all_hold-both_hold-requires : goal.all_hold-both_hold-requires
all_hold-both_hold-requires t c = (
  omega (arith, c.decreases, weighs operand_weight c.args.rest.now c.loop-operand.operand-index c.operand-item.result c.loop-operand-test.true c.operand-item.is),
  (
    subst (IsTypedOperand (scope_of c.args.world.now)) (sym c.operand-item.is) (c.requires.operands c.loop-operand.operand-index c.operand-item.result c.loop-operand-test.true),
    (
      c.loop-operand.invariant.0.running,
      (
        c.loop-operand.invariant.1,
        (
          Grows_stands c.loop-operand.invariant.0.grows W1 c.args.guard c.requires.guard,
          c.requires.region,
        ),
      ),
    ),
  ),
)

pub all_hold-loop-operand-preserved : goal.all_hold-loop-operand-preserved
all_hold-loop-operand-preserved t c = (
  continues_then c.args.world.now.regions c.args.running.now c.loop-operand.running c.both_hold.new.running c.loop-operand.invariant.0 c.in_ok-all-2.ensures.continues,
  c.in_ok-all-2.ensures.stands,
  left_more (operand_evaluates (world_as c.args.world.now)) c.args.rest.now c.args.world.now.regions c.args.running.now c.loop-operand.running c.args.guard _ c.loop-operand.invariant.0
      c.both_hold.new.running c.loop-operand.all c.in_ok-all-2.all c.loop-operand.operand-index c.operand-item.result c.requires.guard c.loop-operand-test.true c.operand-item.is c.loop-operand.invariant.2 c.in_ok-all-2.ensures.follows,
)

pub all_hold-returns-clause-stands : goal.all_hold-returns-clause-stands
all_hold-returns-clause-stands t c = c.loop-operand.invariant.1

pub all_hold-returns-clause-follows : goal.all_hold-returns-clause-follows
all_hold-returns-clause-follows t c =
    left_none (operand_evaluates (world_as c.args.world.now)) c.args.rest.now c.args.world.now.regions c.args.running.now c.loop-operand.running c.args.guard _ c.loop-operand.invariant.0
    c.loop-operand.all c.loop-operand.operand-index c.entries-entries.ensures.graph c.loop-operand.invariant.1 (omega arith) c.loop-operand.invariant.2

pub all_hold-returns-clause-continues : goal.all_hold-returns-clause-continues
all_hold-returns-clause-continues t c = c.loop-operand.invariant.0

pub both_hold-condition-requires : goal.both_hold-condition-requires
both_hold-condition-requires t c = (
  omega (arith, c.decreases, operand_weighs c.args.operand.now),
  (
    operand-typed (scope_of c.args.world.now) c.args.operand.now c.requires.typed,
    (
      running_later c.args.world.now.region c.args.running.now c.both.new.running c.requires.running c.in_ok-under.ensures.grows,
      (
        c.in_ok-under.ensures.stands,
        c.requires.region,
      ),
    ),
  ),
)

pub both_hold-both-requires-2-clause-first : goal.both_hold-both-requires-2-clause-first
both_hold-both-requires-2-clause-first t c = Grows_stands c.in_ok-holds.ensures.continues.grows W1 c.args.before (Stands-later c.in_ok-under.ensures.grows.extends W1 c.args.before c.requires.before)

pub both_hold-returns-clause-follows : goal.both_hold-returns-clause-follows
both_hold-returns-clause-follows t c =
    IfOk-weaker c.both-2.result _ _
    (λ n is_n operands. subst (λ (run : expressions.Eval). Completes c.args.running.now c.both-2.new.running c.args.guard (left_of_all c.both-2.new.running n operands) (left_of_all c.args.running.now c.args.before (run ∷ operands)))
    (sym (operand_means (world_as c.args.world.now) c.args.operand.now))
    (both_more c.args.world.now.regions c.args.world.now.region c.args.running.now c.both.new.running c.condition.new.running c.both-2.new.running c.args.guard c.args.before c.in_ok-under.under c.in_ok-holds.holds n
    (evaluates (world_as c.args.world.now) (out-LogicalOperand c.args.operand.now).operand) operands
    c.entries-entries.ensures.graph c.requires.running c.requires.before c.in_ok-under.ensures.grows c.in_ok-under.ensures.value c.in_ok-holds.ensures.continues c.in_ok-holds.ensures.follows c.both-2.ensures.grows is_n))
    c.both-2.ensures.value

pub both_hold-returns-clause-continues : goal.both_hold-returns-clause-continues
both_hold-returns-clause-continues t c =
    let first = continues_grows c.args.world.now.regions c.args.world.now.region c.args.running.now c.both.new.running c.requires.region c.requires.running c.in_ok-under.ensures.grows in
    let two = continues_then c.args.world.now.regions c.args.running.now c.both.new.running c.condition.new.running first c.in_ok-holds.ensures.continues in
    IfOk-weaker c.both-2.result _ _
    (λ n is. continues_on c.args.world.now.regions c.args.world.now.region c.args.running.now c.condition.new.running c.both-2.new.running c.requires.region two c.both-2.ensures.grows)
    c.both-2.ensures.stands

pub condition-returns-clause-follows : goal.condition-returns-clause-follows
condition-returns-clause-follows t c =
    IfOk-weaker c.tested.result _ _
    (λ n turns. truth_turns c.args.world.now.regions c.args.running.now c.evaluate.new.running c.tested.new.running c.args.guard c.in_ok-value.ensures.continues (evaluates (world_as c.args.world.now) c.args.expr.now) holding c.in_ok-value.value n c.in_ok-value.ensures.follows turns)
    c.tested.ensures.follows

pub condition-returns-clause-continues : goal.condition-returns-clause-continues
condition-returns-clause-continues t c =
    IfOk-weaker c.tested.result _ _
    (λ n is. continues_on c.args.world.now.regions c.args.world.now.region c.args.running.now c.evaluate.new.running c.tested.new.running c.requires.region c.in_ok-value.ensures.continues c.tested.ensures.grows)
    c.tested.ensures.stands

pub evaluate-evaluate-requires : goal.evaluate-evaluate-requires
evaluate-evaluate-requires t c = (
  omega (arith, c.decreases, weight-at (TypedExpr-F.Converted c.in-Converted.conversion c.in-Converted.operand) c.args.expr.now (c.in-Converted.is ∙ sym (expr.rolls-Converted c.in-Converted.conversion c.in-Converted.operand)), ap expr_weight c.get.ensures),
  (
    subst (IsTypedExpr (scope_of c.args.world.now)) (sym c.get.ensures) (parts-at (scope_of c.args.world.now) (TypedExpr-F.Converted c.in-Converted.conversion c.in-Converted.operand) c.args.expr.now (c.in-Converted.is ∙ sym (expr.rolls-Converted c.in-Converted.conversion c.in-Converted.operand)) c.requires.typed),
    (c.requires.running, (c.requires.guard, c.requires.region)),
  ),
)

pub evaluate-converted-requires-clause-takes : goal.evaluate-converted-requires-clause-takes
evaluate-converted-requires-clause-takes t c = taken_of_type c.evaluate.new.running.graph c.in-Converted.conversion (type_of (scope_of c.args.world.now) c.get.result.now) (constant_of c.in-Converted.operand) c.in_ok-value-in-Converted.value (subst (λ (e : TypedExpr). ConversionFits c.in-Converted.conversion (type_of (scope_of c.args.world.now) e) (constant_of c.in-Converted.operand)) (sym c.get.ensures) (rule-at (scope_of c.args.world.now) (TypedExpr-F.Converted c.in-Converted.conversion c.in-Converted.operand) c.args.expr.now (c.in-Converted.is ∙ sym (expr.rolls-Converted c.in-Converted.conversion c.in-Converted.operand)) c.requires.typed)) c.in_ok-value-in-Converted.ensures.fits

pub evaluate-returns-in_ok-value-in-Converted-clause-fits :
    goal.evaluate-returns-in_ok-value-in-Converted-clause-fits
evaluate-returns-in_ok-value-in-Converted-clause-fits t c =
    IfOk-weaker c.converted.result _ _
    (λ r stands. subst (λ (type : ExprType). ValueFits c.converted.new.running.graph type r) (sym (type-at (scope_of c.args.world.now) (TypedExpr-F.Converted c.in-Converted.conversion c.in-Converted.operand) c.args.expr.now (c.in-Converted.is ∙ sym (expr.rolls-Converted c.in-Converted.conversion c.in-Converted.operand)))) (given_type c.converted.new.running.graph c.in-Converted.conversion r stands))
    c.converted.ensures.stands

pub evaluate-returns-in_ok-value-in-Converted-clause-follows :
    goal.evaluate-returns-in_ok-value-in-Converted-clause-follows
evaluate-returns-in_ok-value-in-Converted-clause-follows t c =
    let means = means-at (world_as c.args.world.now) (TypedExpr-F.Converted c.in-Converted.conversion c.in-Converted.operand) c.args.expr.now (c.in-Converted.is ∙ sym (expr.rolls-Converted c.in-Converted.conversion c.in-Converted.operand)) ∙ ap (λ (e : TypedExpr). expressions.converted_value c.in-Converted.conversion (evaluates (world_as c.args.world.now) e)) (sym c.get.ensures) in
    IfOk-weaker c.converted.result _ _
    (λ r turns. subst (λ (run : expressions.Eval). FollowsValue run c.args.running.now c.converted.new.running c.args.guard r) (sym means)
    (value_turns c.args.world.now.regions c.args.running.now c.evaluate.new.running c.converted.new.running c.args.guard c.in_ok-value-in-Converted.ensures.continues (evaluates (world_as c.args.world.now) c.get.result.now) (expressions.converted_value c.in-Converted.conversion) c.in_ok-value-in-Converted.value r c.in_ok-value-in-Converted.ensures.follows turns))
    c.converted.ensures.follows

pub evaluate-returns-in_ok-value-in-Converted-clause-continues :
    goal.evaluate-returns-in_ok-value-in-Converted-clause-continues
evaluate-returns-in_ok-value-in-Converted-clause-continues t c =
    IfOk-weaker c.converted.result _ _
    (λ r is. continues_on c.args.world.now.regions c.args.world.now.region c.args.running.now c.evaluate.new.running c.converted.new.running c.requires.region c.in_ok-value-in-Converted.ensures.continues c.converted.ensures.grows)
    c.converted.ensures.stands

pub evaluate-evaluate-requires-in-Unary : goal.evaluate-evaluate-requires-in-Unary
evaluate-evaluate-requires-in-Unary t c = (
  omega (arith, c.decreases, weight-at (TypedExpr-F.Unary c.in-Unary.place c.in-Unary.operator c.in-Unary.scalar c.in-Unary.operand) c.args.expr.now (c.in-Unary.is ∙ sym (expr.rolls-Unary c.in-Unary.place c.in-Unary.operator c.in-Unary.scalar c.in-Unary.operand)), ap expr_weight c.get-in-Unary.ensures),
  (
    subst (IsTypedExpr (scope_of c.args.world.now)) (sym c.get-in-Unary.ensures) (parts-at (scope_of c.args.world.now) (TypedExpr-F.Unary c.in-Unary.place c.in-Unary.operator c.in-Unary.scalar c.in-Unary.operand) c.args.expr.now (c.in-Unary.is ∙ sym (expr.rolls-Unary c.in-Unary.place c.in-Unary.operator c.in-Unary.scalar c.in-Unary.operand)) c.requires.typed),
    (c.requires.running, (c.requires.guard, c.requires.region)),
  ),
)

pub evaluate-signed-requires-clause-takes : goal.evaluate-signed-requires-clause-takes
evaluate-signed-requires-clause-takes t c = word_of_type c.evaluate-in-Unary.new.running.graph c.in-Unary.scalar (type_of (scope_of c.args.world.now) c.get-in-Unary.result.now) c.in_ok-value-in-Unary.value (ap (type_of (scope_of c.args.world.now)) c.get-in-Unary.ensures ∙ (rule-at (scope_of c.args.world.now) (TypedExpr-F.Unary c.in-Unary.place c.in-Unary.operator c.in-Unary.scalar c.in-Unary.operand) c.args.expr.now (c.in-Unary.is ∙ sym (expr.rolls-Unary c.in-Unary.place c.in-Unary.operator c.in-Unary.scalar c.in-Unary.operand)) c.requires.typed).0) c.in_ok-value-in-Unary.ensures.fits

pub evaluate-returns-in_ok-value-in-Unary-clause-fits :
    goal.evaluate-returns-in_ok-value-in-Unary-clause-fits
evaluate-returns-in_ok-value-in-Unary-clause-fits t c =
    IfOk-weaker c.signed.result _ _
    (λ r stands. subst (λ (type : ExprType). ValueFits c.signed.new.running.graph type r) (sym (type-at (scope_of c.args.world.now) (TypedExpr-F.Unary c.in-Unary.place c.in-Unary.operator c.in-Unary.scalar c.in-Unary.operand) c.args.expr.now (c.in-Unary.is ∙ sym (expr.rolls-Unary c.in-Unary.place c.in-Unary.operator c.in-Unary.scalar c.in-Unary.operand)))) (word_fits c.signed.new.running.graph c.in-Unary.scalar r stands))
    c.signed.ensures.stands

pub evaluate-returns-in_ok-value-in-Unary-clause-follows :
    goal.evaluate-returns-in_ok-value-in-Unary-clause-follows
evaluate-returns-in_ok-value-in-Unary-clause-follows t c =
    let means = means-at (world_as c.args.world.now) (TypedExpr-F.Unary c.in-Unary.place c.in-Unary.operator c.in-Unary.scalar c.in-Unary.operand) c.args.expr.now (c.in-Unary.is ∙ sym (expr.rolls-Unary c.in-Unary.place c.in-Unary.operator c.in-Unary.scalar c.in-Unary.operand)) ∙ ap (λ (e : TypedExpr). expressions.unary_value c.in-Unary.place c.in-Unary.operator c.in-Unary.scalar (evaluates (world_as c.args.world.now) e)) (sym c.get-in-Unary.ensures) in
    IfOk-weaker c.signed.result _ _
    (λ r turns. subst (λ (run : expressions.Eval). FollowsValue run c.args.running.now c.signed.new.running c.args.guard r) (sym means)
    (value_turns c.args.world.now.regions c.args.running.now c.evaluate-in-Unary.new.running c.signed.new.running c.args.guard c.in_ok-value-in-Unary.ensures.continues (evaluates (world_as c.args.world.now) c.get-in-Unary.result.now) (expressions.unary_value c.in-Unary.place c.in-Unary.operator c.in-Unary.scalar) c.in_ok-value-in-Unary.value r c.in_ok-value-in-Unary.ensures.follows turns))
    c.signed.ensures.follows

pub evaluate-returns-in_ok-value-in-Unary-clause-continues :
    goal.evaluate-returns-in_ok-value-in-Unary-clause-continues
evaluate-returns-in_ok-value-in-Unary-clause-continues t c =
    IfOk-weaker c.signed.result _ _
    (λ r is. continues_on c.args.world.now.regions c.args.world.now.region c.args.running.now c.evaluate-in-Unary.new.running c.signed.new.running c.requires.region c.in_ok-value-in-Unary.ensures.continues c.signed.ensures.grows)
    c.signed.ensures.stands

pub evaluate-evaluate-requires-in-Not : goal.evaluate-evaluate-requires-in-Not
evaluate-evaluate-requires-in-Not t c = (
  omega (arith, c.decreases, weight-at (TypedExpr-F.Not c.in-Not.place c.in-Not.kind c.in-Not.operand) c.args.expr.now (c.in-Not.is ∙ sym (expr.rolls-Not c.in-Not.place c.in-Not.kind c.in-Not.operand)), ap expr_weight c.get-in-Not.ensures),
  (
    subst (IsTypedExpr (scope_of c.args.world.now)) (sym c.get-in-Not.ensures) (parts-at (scope_of c.args.world.now) (TypedExpr-F.Not c.in-Not.place c.in-Not.kind c.in-Not.operand) c.args.expr.now (c.in-Not.is ∙ sym (expr.rolls-Not c.in-Not.place c.in-Not.kind c.in-Not.operand)) c.requires.typed),
    (c.requires.running, (c.requires.guard, c.requires.region)),
  ),
)

pub evaluate-returns-in_ok-value-in-Not-clause-fits :
    goal.evaluate-returns-in_ok-value-in-Not-clause-fits
evaluate-returns-in_ok-value-in-Not-clause-fits t c =
    IfOk-weaker c.negated.result _ _
    (λ r stands. subst (λ (type : ExprType). ValueFits c.negated.new.running.graph type r) (sym (type-at (scope_of c.args.world.now) (TypedExpr-F.Not c.in-Not.place c.in-Not.kind c.in-Not.operand) c.args.expr.now (c.in-Not.is ∙ sym (expr.rolls-Not c.in-Not.place c.in-Not.kind c.in-Not.operand)))) (word_fits c.negated.new.running.graph S32 r stands))
    c.negated.ensures.stands

pub evaluate-returns-in_ok-value-in-Not-clause-follows :
    goal.evaluate-returns-in_ok-value-in-Not-clause-follows
evaluate-returns-in_ok-value-in-Not-clause-follows t c =
    let means = means-at (world_as c.args.world.now) (TypedExpr-F.Not c.in-Not.place c.in-Not.kind c.in-Not.operand) c.args.expr.now (c.in-Not.is ∙ sym (expr.rolls-Not c.in-Not.place c.in-Not.kind c.in-Not.operand)) ∙ ap (λ (e : TypedExpr). expressions.not_value (evaluates (world_as c.args.world.now) e)) (sym c.get-in-Not.ensures) in
    IfOk-weaker c.negated.result _ _
    (λ r turns. subst (λ (run : expressions.Eval). FollowsValue run c.args.running.now c.negated.new.running c.args.guard r) (sym means)
    (value_turns c.args.world.now.regions c.args.running.now c.evaluate-in-Not.new.running c.negated.new.running c.args.guard c.in_ok-value-in-Not.ensures.continues (evaluates (world_as c.args.world.now) c.get-in-Not.result.now) (expressions.not_value) c.in_ok-value-in-Not.value r c.in_ok-value-in-Not.ensures.follows turns))
    c.negated.ensures.follows

pub evaluate-returns-in_ok-value-in-Not-clause-continues :
    goal.evaluate-returns-in_ok-value-in-Not-clause-continues
evaluate-returns-in_ok-value-in-Not-clause-continues t c =
    IfOk-weaker c.negated.result _ _
    (λ r is. continues_on c.args.world.now.regions c.args.world.now.region c.args.running.now c.evaluate-in-Not.new.running c.negated.new.running c.requires.region c.in_ok-value-in-Not.ensures.continues c.negated.ensures.grows)
    c.negated.ensures.stands

pub evaluate-all_hold-requires : goal.evaluate-all_hold-requires
evaluate-all_hold-requires t c =
    let typed = parts-at (scope_of c.args.world.now) (TypedExpr-F.LogicalAnd c.in-LogicalAnd.first c.in-LogicalAnd.rest) c.args.expr.now (c.in-LogicalAnd.is ∙ sym (expr.rolls-LogicalAnd c.in-LogicalAnd.first c.in-LogicalAnd.rest)) c.requires.typed in (
      omega (arith, c.decreases, weight-at (TypedExpr-F.LogicalAnd c.in-LogicalAnd.first c.in-LogicalAnd.rest) c.args.expr.now (c.in-LogicalAnd.is ∙ sym (expr.rolls-LogicalAnd c.in-LogicalAnd.first c.in-LogicalAnd.rest)), ap expr_weight c.get-in-LogicalAnd.ensures, ap (λ (os : List LogicalOperand). total (map operand_weight os)) c.as_slice.ensures),
      (
        subst (IsTypedExpr (scope_of c.args.world.now)) (sym c.get-in-LogicalAnd.ensures) typed.0,
        (
          subst (AreTypedOperands (scope_of c.args.world.now)) (sym c.as_slice.ensures) (operands_typed (scope_of c.args.world.now) c.in-LogicalAnd.rest typed.1),
          (c.requires.running, (c.requires.guard, c.requires.region)),
        ),
      ),
    )

pub evaluate-returns-in_ok-truth-in-LogicalAnd-clause-fits :
    goal.evaluate-returns-in_ok-truth-in-LogicalAnd-clause-fits
evaluate-returns-in_ok-truth-in-LogicalAnd-clause-fits t c =
    IfOk-weaker c.truth_value.result _ _
    (λ r stands. subst (λ (type : ExprType). ValueFits c.truth_value.new.running.graph type r) (sym (type-at (scope_of c.args.world.now) (TypedExpr-F.LogicalAnd c.in-LogicalAnd.first c.in-LogicalAnd.rest) c.args.expr.now (c.in-LogicalAnd.is ∙ sym (expr.rolls-LogicalAnd c.in-LogicalAnd.first c.in-LogicalAnd.rest)))) (word_fits c.truth_value.new.running.graph S32 r stands))
    c.truth_value.ensures.stands

pub evaluate-returns-in_ok-truth-in-LogicalAnd-clause-follows :
    goal.evaluate-returns-in_ok-truth-in-LogicalAnd-clause-follows
evaluate-returns-in_ok-truth-in-LogicalAnd-clause-follows t c =
    let first = evaluates (world_as c.args.world.now) c.get-in-LogicalAnd.result.now in
    let means =
    means-at (world_as c.args.world.now) (TypedExpr-F.LogicalAnd c.in-LogicalAnd.first c.in-LogicalAnd.rest) c.args.expr.now (c.in-LogicalAnd.is ∙ sym (expr.rolls-LogicalAnd c.in-LogicalAnd.first c.in-LogicalAnd.rest))
    ∙ ap (λ (e : TypedExpr). expressions.and_value (evaluates (world_as c.args.world.now) e) (map (operand_evaluates (world_as c.args.world.now)) c.in-LogicalAnd.rest)) (sym c.get-in-LogicalAnd.ensures)
    ∙ ap (λ (os : List LogicalOperand). expressions.and_value first (map (operand_evaluates (world_as c.args.world.now)) os)) (sym c.as_slice.ensures) in
    IfOk-weaker c.truth_value.result _ _
    (λ r turns. subst (λ (run : expressions.Eval). FollowsValue run c.args.running.now c.truth_value.new.running c.args.guard r) (sym means)
    (truth_back c.args.world.now.regions c.args.running.now c.all_hold.new.running c.truth_value.new.running c.args.guard c.in_ok-truth-in-LogicalAnd.ensures.continues
    (expressions.all_hold (first ∷ map (operand_evaluates (world_as c.args.world.now)) c.as_slice.result.now)) c.in_ok-truth-in-LogicalAnd.truth r c.in_ok-truth-in-LogicalAnd.ensures.follows turns))
    c.truth_value.ensures.follows

pub evaluate-returns-in_ok-truth-in-LogicalAnd-clause-continues :
    goal.evaluate-returns-in_ok-truth-in-LogicalAnd-clause-continues
evaluate-returns-in_ok-truth-in-LogicalAnd-clause-continues t c =
    IfOk-weaker c.truth_value.result _ _
    (λ r is. continues_on c.args.world.now.regions c.args.world.now.region c.args.running.now c.all_hold.new.running c.truth_value.new.running c.requires.region c.in_ok-truth-in-LogicalAnd.ensures.continues c.truth_value.ensures.grows)
    c.truth_value.ensures.stands

pub evaluate-evaluate-requires-in-Cast : goal.evaluate-evaluate-requires-in-Cast
evaluate-evaluate-requires-in-Cast t c = (
  omega (arith, c.decreases, weight-at (TypedExpr-F.Cast c.in-Cast.place c.in-Cast.from c.in-Cast.to c.in-Cast.operand) c.args.expr.now (c.in-Cast.is ∙ sym (expr.rolls-Cast c.in-Cast.place c.in-Cast.from c.in-Cast.to c.in-Cast.operand)), ap expr_weight c.get-in-Cast.ensures),
  (
    subst (IsTypedExpr (scope_of c.args.world.now)) (sym c.get-in-Cast.ensures) (parts-at (scope_of c.args.world.now) (TypedExpr-F.Cast c.in-Cast.place c.in-Cast.from c.in-Cast.to c.in-Cast.operand) c.args.expr.now (c.in-Cast.is ∙ sym (expr.rolls-Cast c.in-Cast.place c.in-Cast.from c.in-Cast.to c.in-Cast.operand)) c.requires.typed),
    (c.requires.running, (c.requires.guard, c.requires.region)),
  ),
)

pub evaluate-converted-requires-in-Cast-clause-takes : goal.evaluate-converted-requires-in-Cast-clause-takes
evaluate-converted-requires-in-Cast-clause-takes t c = word_of_type c.evaluate-in-Cast.new.running.graph c.in-Cast.from (type_of (scope_of c.args.world.now) c.get-in-Cast.result.now) c.in_ok-value-in-Cast.value (ap (type_of (scope_of c.args.world.now)) c.get-in-Cast.ensures ∙ rule-at (scope_of c.args.world.now) (TypedExpr-F.Cast c.in-Cast.place c.in-Cast.from c.in-Cast.to c.in-Cast.operand) c.args.expr.now (c.in-Cast.is ∙ sym (expr.rolls-Cast c.in-Cast.place c.in-Cast.from c.in-Cast.to c.in-Cast.operand)) c.requires.typed) c.in_ok-value-in-Cast.ensures.fits

pub evaluate-returns-in_ok-value-in-Cast-clause-fits :
    goal.evaluate-returns-in_ok-value-in-Cast-clause-fits
evaluate-returns-in_ok-value-in-Cast-clause-fits t c =
    IfOk-weaker c.converted-in-Cast.result _ _
    (λ r stands. subst (λ (type : ExprType). ValueFits c.converted-in-Cast.new.running.graph type r) (sym (type-at (scope_of c.args.world.now) (TypedExpr-F.Cast c.in-Cast.place c.in-Cast.from c.in-Cast.to c.in-Cast.operand) c.args.expr.now (c.in-Cast.is ∙ sym (expr.rolls-Cast c.in-Cast.place c.in-Cast.from c.in-Cast.to c.in-Cast.operand)))) (word_fits c.converted-in-Cast.new.running.graph c.in-Cast.to r stands))
    c.converted-in-Cast.ensures.stands

pub evaluate-returns-in_ok-value-in-Cast-clause-follows :
    goal.evaluate-returns-in_ok-value-in-Cast-clause-follows
evaluate-returns-in_ok-value-in-Cast-clause-follows t c =
    let means = means-at (world_as c.args.world.now) (TypedExpr-F.Cast c.in-Cast.place c.in-Cast.from c.in-Cast.to c.in-Cast.operand) c.args.expr.now (c.in-Cast.is ∙ sym (expr.rolls-Cast c.in-Cast.place c.in-Cast.from c.in-Cast.to c.in-Cast.operand)) ∙ ap (λ (e : TypedExpr). expressions.converted_value (conversion.Integer c.in-Cast.from c.in-Cast.to) (evaluates (world_as c.args.world.now) e)) (sym c.get-in-Cast.ensures) in
    IfOk-weaker c.converted-in-Cast.result _ _
    (λ r turns. subst (λ (run : expressions.Eval). FollowsValue run c.args.running.now c.converted-in-Cast.new.running c.args.guard r) (sym means)
    (value_turns c.args.world.now.regions c.args.running.now c.evaluate-in-Cast.new.running c.converted-in-Cast.new.running c.args.guard c.in_ok-value-in-Cast.ensures.continues (evaluates (world_as c.args.world.now) c.get-in-Cast.result.now) (expressions.converted_value (conversion.Integer c.in-Cast.from c.in-Cast.to)) c.in_ok-value-in-Cast.value r c.in_ok-value-in-Cast.ensures.follows turns))
    c.converted-in-Cast.ensures.follows

pub evaluate-returns-in_ok-value-in-Cast-clause-continues :
    goal.evaluate-returns-in_ok-value-in-Cast-clause-continues
evaluate-returns-in_ok-value-in-Cast-clause-continues t c =
    IfOk-weaker c.converted-in-Cast.result _ _
    (λ r is. continues_on c.args.world.now.regions c.args.world.now.region c.args.running.now c.evaluate-in-Cast.new.running c.converted-in-Cast.new.running c.requires.region c.in_ok-value-in-Cast.ensures.continues c.converted-in-Cast.ensures.grows)
    c.converted-in-Cast.ensures.stands
