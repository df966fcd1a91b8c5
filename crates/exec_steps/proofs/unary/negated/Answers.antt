use Rattle.std.specs.Prelude.{not}
use Rattle.std.proofs.lemmas.Result.{IfOk-weaker}
use Rattle.c_meaning.specs.Expressions.{Gives, holds, of_truth}
use Rattle.exec_steps.proofs.StepLaws.{turns_value}
use Rattle.exec_steps.proofs.unary.negated.Goals as goal

pub returns-clause-follows : goal.returns-clause-follows
returns-clause-follows c =
    IfOk-weaker c.negate_value.result _ _
    (λ r makes. turns_value c.args.region c.args.running.now c.negate_value.new.graph c.args.value.now c.requires.running c.negate_value.ensures.extends r (λ u s. Gives (of_truth (not (holds u))) s)
    (λ ins fit u t seen shows. (shows, makes ins fit u seen)))
    c.negate_value.ensures.value
