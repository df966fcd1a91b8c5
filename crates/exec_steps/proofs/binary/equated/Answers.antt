use Rattle.std.proofs.lemmas.Result.{IfOk-weaker}
use Rattle.c_meaning.specs.Expressions.{combined}
use Rattle.c_meaning.specs.declared.operators.Operation.TheVariants as operation
use Rattle.exec_steps.proofs.StepLaws.{turns_right}
use Rattle.exec_steps.proofs.binary.equated.Goals as goal

pub returns-clause-follows : goal.returns-clause-follows
returns-clause-follows c =
    IfOk-weaker c.equal_values.result _ _
    (λ r makes. turns_right c.args.region c.args.running.now c.equal_values.new.graph c.requires.running c.equal_values.ensures.extends c.args.left.now c.args.right.now r (combined (operation.Pointers c.args.equality) c.args._place)
    (λ ins fit u x t seen_u seen_x shows. (shows, makes ins fit u x seen_u seen_x)))
    c.equal_values.ensures.value
