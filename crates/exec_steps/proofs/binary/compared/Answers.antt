use Rattle.std.proofs.lemmas.Result.{IfOk-weaker}
use Rattle.c_meaning.specs.Expressions.{combined}
use Rattle.c_meaning.specs.declared.operators.Operation.TheVariants as operation
use Rattle.exec_steps.proofs.StepLaws.{turns_right}
use Rattle.exec_steps.proofs.binary.compared.Goals as goal

pub returns-clause-follows : goal.returns-clause-follows
returns-clause-follows c =
    IfOk-weaker c.compare_values.result _ _
    (λ r makes. turns_right c.args.region c.args.running.now c.compare_values.new.graph c.requires.running c.compare_values.ensures.extends c.args.left.now c.args.right.now r (combined (operation.Comparison c.args.comparison c.args.scalar) c.args._place)
    (λ ins fit u x t seen_u seen_x shows. (shows, makes ins fit u x seen_u seen_x)))
    c.compare_values.ensures.value
