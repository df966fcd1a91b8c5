use Rattle.std.proofs.Common.{◌≡◌, ℕ, List, [], ◌∷◌, ◌++◌, Result, Err, ◌+◌, drop, ap, sym, subst, ◌∙◌, refl, rules, arith}
use Rattle.c_meaning.specs.declared.expressions.TypedExpr.{TypedExpr}
use Rattle.c_conversions.specs.declared.fault.TypeFault.{TypeFault}
use Rattle.c_typing.specs.Walks.{Tells}
use Rattle.c_typing.specs.Expressions.{arguments_typing}
use Rattle.c_typing.proofs.ArgumentLaws.{exprs_after, nothing_before, argument_passes, argument_breaks, arguments_done, arguments_many, arguments_few}
use Rattle.c_typing.proofs.calling.arguments.Goals as goal

pub loop-parameter-init : goal.loop-parameter-init
loop-parameter-init c =
    ap (λ (before : List TypedExpr). exprs_after before (arguments_typing c.args.bracket c.args.parameters.now c.args.values.items c.args.env.now)) c.new-found.ensures
    ∙ nothing_before (arguments_typing c.args.bracket c.args.parameters.now c.args.values.items c.args.env.now)

pub returns-in_default : goal.returns-in_default
returns-in_default c =
    rw (c.new.ensures)
    (arguments_few c.args.bracket c.args.parameters.now c.loop-parameter.parameter-index c.loop-parameter.values.items c.args.env.now c.loop-parameter.found _ c.loop-parameter.invariant c.loop-parameter-test.true (search rules))

pub returns-in_err-argument : goal.returns-in_err-argument
returns-in_err-argument c =
    let is : c.from_residual.result ≡ Err c.in_err-argument.field-0.0 = search rules in
    rw (is)
    (argument_breaks c.args.bracket c.args.parameters.now c.loop-parameter.parameter-index c.in-Some.value c.pop_front.new.self.items c.loop-parameter.values.items c.args.env.now c.loop-parameter.found
    c.in_err-argument.field-0.0.kind c.in_err-argument.field-0.0.place _ c.loop-parameter-test.true c.in-Some.ensures.items c.loop-parameter.invariant c.in_err-argument.ensures)

pub loop-parameter-preserved : goal.loop-parameter-preserved
loop-parameter-preserved c =
    ap (λ (before : List TypedExpr). exprs_after before (arguments_typing c.args.bracket (drop (c.loop-parameter.parameter-index + 1) c.args.parameters.now) c.pop_front.new.self.items c.args.env.now)) c.in_ok-push.ensures.ok
    ∙ argument_passes c.args.bracket c.args.parameters.now c.loop-parameter.parameter-index c.in-Some.value c.pop_front.new.self.items c.loop-parameter.values.items c.args.env.now c.loop-parameter.found
    c.in_ok-argument.field-0 c.loop-parameter-test.true c.in-Some.ensures.items c.in_ok-argument.ensures
    ∙ c.loop-parameter.invariant
