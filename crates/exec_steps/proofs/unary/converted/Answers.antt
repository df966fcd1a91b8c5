use Rattle.std.proofs.lemmas.Result.{IfOk-weaker}
use Rattle.c_meaning.specs.Expressions.{Gives, converted}
use Rattle.exec_steps.proofs.StepLaws.{turns_value}
use Rattle.exec_steps.proofs.unary.converted.Goals as goal

pub returns-clause-follows : goal.returns-clause-follows
returns-clause-follows c =
    IfOk-weaker c.convert_value.result _ _
    (λ r makes. turns_value c.args.region c.args.running.now c.convert_value.new.graph c.args.value.now c.requires.running c.convert_value.ensures.extends r (λ u s. Gives (converted c.args.conversion u) s)
    (λ ins fit u t seen shows. (shows, makes ins fit u seen)))
    c.convert_value.ensures.value
